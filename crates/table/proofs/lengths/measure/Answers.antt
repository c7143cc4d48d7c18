use Rattle.std.proofs.Common.{[], length, Err, refl, ap, ◌∙◌, arith, rules}
use Rattle.std.proofs.lemmas.Result.{err_from_is_err_and}
use Rattle.table.proofs.Passes.{again, refused, finished}
use Rattle.table.proofs.lengths.measure.Goals as goal

pub stretch-requires : goal.stretch-requires
stretch-requires c =
    record { next = search rules }

pub loop-at-init : goal.loop-at-init
loop-at-init c = ([], refl, refl, λ k h. absurd (omega arith), refl)

pub loop-at-preserved : goal.loop-at-preserved
loop-at-preserved c =
    let v = c.loop-at.invariant in
    again c.args.nodes.now c.loop-at.lens c.loop-at.at c.args.lens.now v.0 c.in_ok-len.len (search rules) (search rules)
    v.1 v.2 v.3 v.4 c.in_ok-len.ensures.is c.in_ok-len.ensures.brief

pub returns-in_err-len : goal.returns-in_err-len
returns-in_err-len c =
    let v = c.loop-at.invariant in
    let p = err_from_is_err_and c.from_residual.result c.from_residual.ensures.1 in
    let w = refused c.args.nodes.now c.loop-at.lens c.loop-at.at (length c.args.lens.now) v.0 c.from_residual.result c.in_err-len.field-0.0
    (p.1 ∙ ap Err p.2) (search rules) (search rules) (search rules) v.1 v.2 c.in_err-len.ensures.is in
    record { answer = w.0; stretches = w.1; rest_kept = v.4; short_list_kept = λ h. absurd (search rules) }

pub returns : goal.returns
returns c =
    let v = c.loop-at.invariant in
    let w = finished c.args.nodes.now c.loop-at.lens v.0 c.loop-at.at (length c.args.lens.now) c.whole.result
    (search rules) (search rules) (search rules) (search rules) v.1 v.2 c.whole.ensures in
    record { answer = w.0; stretches = w.1; rest_kept = v.4; short_list_kept = λ h. absurd (search rules) }
