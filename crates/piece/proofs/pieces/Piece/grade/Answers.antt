use Rattle.std.proofs.Common.{Err, ap, ◌∙◌, to_z-of_z, w32, SFits, rules}
use Rattle.std.proofs.lemmas.Result.{err_from_is_err_and}
use Rattle.piece.specs.Runs.{lengths}
use Rattle.piece.proofs.Graded.{stored, grade_refused, grade_given}
use Rattle.piece.proofs.pieces.Piece.grade.Goals as goal

pub returns-in_err-graded : goal.returns-in_err-graded
returns-in_err-graded g c =
    let p = c.args.self.now in
    let rule = c.args.rule.now in
    let w = lengths c.args.lists in
    let f : SFits w32 c.in_ok-step.step = search rules in
    let v = c.from_residual-in_err-graded.result in
    let b = err_from_is_err_and v c.from_residual-in_err-graded.ensures.1 in
    let told =
    grade_refused g.S.Store p c.requires c.in_ok-step.step _ c.args.ticket.now.number c.args.point c.args.allowance w rule.nodes.now rule.need c.run-answer.result c.run-answer.new.store
    c.in_ok-step.ensures c.if-point-self.false (to_z-of_z f) rule.accepted (g.S.Store.within p.store) c.run-answer.ensures.answers c.run-answer.ensures.own_run
    c.run-answer.ensures.limit_kept c.run-answer.ensures.store_kept v b.0 (b.1 ∙ ap Err b.2 ∙ c.in_err-graded.ensures) b.1 in
    record { sound = (stored g.S.Store p c.requires c.run-answer.new.store c.run-answer.ensures.limit_kept c.run-answer.ensures.store_kept).0; does = told.0; ran = told.1 }

pub put_shift-requires : goal.put_shift-requires
put_shift-requires g c = record {
  sound = (stored g.S.Store c.args.self.now c.requires c.run-answer.new.store c.run-answer.ensures.limit_kept c.run-answer.ensures.store_kept).0;
  laid = c.if-point-self.false;
}

pub returns : goal.returns
returns g c =
    let p = c.args.self.now in
    let rule = c.args.rule.now in
    let w = lengths c.args.lists in
    let f : SFits w32 c.in_ok-step.step = search rules in
    let h : SFits w32 c.in_ok-graded.graded.shift = search rules in
    let told =
    grade_given g.S.Store p c.requires c.in_ok-step.step _ c.args.ticket.now.number c.args.point c.args.allowance w rule.nodes.now rule.need c.run-answer.result c.run-answer.new.store
    c.in_ok-step.ensures c.if-point-self.false (to_z-of_z f) rule.accepted (g.S.Store.within p.store) c.run-answer.ensures.answers c.run-answer.ensures.own_run
    c.run-answer.ensures.limit_kept c.run-answer.ensures.store_kept c.in_ok-graded.graded _ _ c.in_ok-graded.ensures (to_z-of_z h) c.put_shift.ensures.put in
    record { sound = c.put_shift.ensures.sound; does = told.0; ran = told.1 }
