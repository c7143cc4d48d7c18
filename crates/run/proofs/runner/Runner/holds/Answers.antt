use Rattle.std.proofs.Common.{Ok, Err, refl}
use Rattle.std.proofs.lemmas.Result.{err_from_is_err_and}
use Rattle.run.proofs.Sights.{linked_down}
use Rattle.run.proofs.Looks.{sights}
use Rattle.run.proofs.Values.{tested}
use Rattle.run.proofs.Turns.{shape}
use Rattle.run.proofs.runner.Runner.holds.Goals as goal

pub evaluate-requires-clause-begins : goal.evaluate-requires-clause-begins
evaluate-requires-clause-begins g c = (shape c.args.self.now.table).begins _ c.requires.inside

pub returns-in_err-value-clause-tested : goal.returns-in_err-value-clause-tested
returns-in_err-value-clause-tested g c =
    let p = err_from_is_err_and c.from_residual.result c.from_residual.ensures.1 in
    let r = c.args.self.now in
    let s = r.scope in
    rw (p.1, p.2) (λ L F t u. tested _ _ _ _ _ c.args.at (Err c.in_err-value.field-0.0) _ (shape r.table) c.requires.inside c.requires.expression c.in_err-value.ensures.value refl
    (sights _ _ _ s.top s.within (linked_down s.records.now s.top s.within s.down) c.requires.procedures L F s.head s.low) F t u)

pub returns-clause-tested : goal.returns-clause-tested
returns-clause-tested g c =
    let r = c.args.self.now in
    let s = r.scope in
    λ L F t u. tested _ _ _ _ _ c.args.at (Ok c.in_ok-value.value) _ (shape r.table) c.requires.inside c.requires.expression c.in_ok-value.ensures.value c.truth_of.ensures.truth
    (sights _ _ _ s.top s.within (linked_down s.records.now s.top s.within s.down) c.requires.procedures L F s.head s.low) F t u
