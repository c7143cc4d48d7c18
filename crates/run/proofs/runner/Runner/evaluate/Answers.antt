use Rattle.std.proofs.Common.{Ok, sym, refl, ap, ◌∙◌, arith}
use Rattle.std.proofs.lemmas.Result.{err_from_is_err_and}
use Rattle.run.specs.Levels.{newest_first}
use Rattle.run.specs.Evaluation.{only}
use Rattle.run.proofs.Changes.{changed_stack, changed_then}
use Rattle.run.proofs.Values.{done_on, done_stop, done_all, only_value, more_values, no_value}
use Rattle.run.proofs.runner.Runner.evaluate.Goals as goal

pub loop-j-init : goal.loop-j-init
unfolding newest_first
loop-j-init g c = (omega (arith, c.start-j.ensures.start), rw c.start-j.ensures.start refl, changed_stack _ _ refl refl refl)

pub returns-in_err-value-clause-value : goal.returns-in_err-value-clause-value
returns-in_err-value-clause-value g c =
    let p = err_from_is_err_and c.from_residual.result c.from_residual.ensures.1 in
    let k = c.loop-j.invariant.2 in
    let d = rw (k.table, k.scope) at c.in_err-value.ensures.done in
    let q = sym c.loop-j.invariant.1 ∙ done_stop _ _ _ _ _ _ _ (omega arith) d in
    rw (p.1, p.2) (sym (ap only q))

pub loop-j-preserved : goal.loop-j-preserved
loop-j-preserved g c =
    let k = c.loop-j.invariant.2 in
    let n = c.node_value.ensures in
    let p = c.push_value.ensures in
    let e = c.in_ok-value.ensures.done in
    let o = rw (k.table, k.scope) at e.1 in
    let v = rw (n.levels_kept, n.kept.depth) at p.values in (
      omega (arith, e.0, p.height),
      sym (done_on _ _ _ _ _ _ _ (omega arith) (o ∙ ap Ok (sym v))) ∙ c.loop-j.invariant.1,
      changed_then _ _ _ (changed_then _ _ _ k n.kept) (changed_stack _ _ p.depth_kept p.frames_kept p.length_kept),
    )

pub returns-in-Some-clause-value : goal.returns-in-Some-clause-value
returns-in-Some-clause-value g c =
    let q = sym c.loop-j.invariant.1 ∙ done_all _ _ _ _ _ _ (omega arith) in
    sym (ap only q ∙ only_value _ _ _ _ _ c.in-Some.ensures.popped c.if-self-eq0.true)

pub returns-in_default-clause-value : goal.returns-in_default-clause-value
returns-in_default-clause-value g c =
    let q = sym c.loop-j.invariant.1 ∙ done_all _ _ _ _ _ _ (omega arith) in
    sym (ap only q ∙ more_values _ _ _ _ _ c.in-Some.ensures.popped c.if-self-eq0.false)

pub returns-in_default-2-clause-value : goal.returns-in_default-2-clause-value
returns-in_default-2-clause-value g c =
    let q = sym c.loop-j.invariant.1 ∙ done_all _ _ _ _ _ _ (omega arith) in
    sym (ap only q ∙ no_value _ _ _ _ c.in_default.ensures.popped)
