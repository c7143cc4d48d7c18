use Rattle.std.proofs.lemmas.Result.{err_from_is_err_and}
use Rattle.run.proofs.Sights.{linked_down}
use Rattle.run.proofs.Assigned.{no_value, no_place, done, refused}
use Rattle.run.proofs.Turns.{shape}
use Rattle.run.proofs.runner.Runner.assign.Goals as goal

pub evaluate-requires-clause-begins : goal.evaluate-requires-clause-begins
evaluate-requires-clause-begins g c = (shape c.args.self.now.table).begins _ c.requires.inside

pub returns-in_err-value-clause-assigned : goal.returns-in_err-value-clause-assigned
returns-in_err-value-clause-assigned g c =
    let p = err_from_is_err_and c.from_residual.result c.from_residual.ensures.1 in
    let r = c.args.self.now in
    let s = r.scope in
    let l = linked_down s.records.now s.top s.within s.down in
    rw (p.1, p.2) (no_value _ _ _ s.top s.head s.within l c.requires.procedures s.low _ c.args.at c.args.name (shape r.table) c.requires.inside c.requires.expression _ c.in_err-value.ensures.value)

pub returns-in_err-location-clause-assigned : goal.returns-in_err-location-clause-assigned
returns-in_err-location-clause-assigned g c =
    let p = err_from_is_err_and c.from_residual-in_err-location.result c.from_residual-in_err-location.ensures.1 in
    let r = c.args.self.now in
    let s = r.scope in
    let l = linked_down s.records.now s.top s.within s.down in
    let e = rw c.evaluate.ensures.kept.scope at c.in_err-location.ensures.location in
    rw (p.1, p.2) (no_place _ _ _ s.top s.head s.within l c.requires.procedures s.low _ c.args.at c.args.name (shape r.table) c.requires.inside c.requires.expression _ _ c.in_ok-value.ensures.value e)

pub returns-in_err-write-clause-assigned : goal.returns-in_err-write-clause-assigned
returns-in_err-write-clause-assigned g c =
    let p = err_from_is_err_and c.from_residual-in_err-write.result c.from_residual-in_err-write.ensures.1 in
    let r = c.args.self.now in
    let s = r.scope in
    let l = linked_down s.records.now s.top s.within s.down in
    let e = rw c.evaluate.ensures.kept.scope at c.in_ok-location.ensures.location in
    rw (p.1, p.2) (refused _ _ _ s.top s.head s.within l c.requires.procedures s.low _ c.args.at c.args.name (shape r.table) c.requires.inside c.requires.expression _ _ _ c.in_err-write.field-0.0 c.in_ok-value.ensures.value e
    c.in_err-write.ensures.answer c.in_err-write.ensures.others_kept)

pub returns-clause-assigned : goal.returns-clause-assigned
returns-clause-assigned g c =
    let r = c.args.self.now in
    let s = r.scope in
    let l = linked_down s.records.now s.top s.within s.down in
    let e = rw c.evaluate.ensures.kept.scope at c.in_ok-location.ensures.location in
    done _ _ _ s.top s.head s.within l c.requires.procedures s.low _ c.args.at c.args.name (shape r.table) c.requires.inside c.requires.expression _ _ _ c.in_ok-value.ensures.value e
    c.in_ok-write.ensures.answer c.in_ok-write.ensures.others_kept
