use Rattle.std.proofs.Common.{to_z-of_z, w32, SFits, rules}
use Rattle.std.proofs.lemmas.Result.{err_from_is_err_and}
use Rattle.run.proofs.Whole.{result_stopped, result_dead, result_whole, result_no_whole}
use Rattle.run.proofs.runner.Runner.result_of.Goals as goal

pub returns-in_err-left-clause-result : goal.returns-in_err-left-clause-result
returns-in_err-left-clause-result g c =
    let p = err_from_is_err_and c.from_residual.result c.from_residual.ensures.1 in
    rw (p.1, p.2) (λ d e. result_stopped _ _ _ d _ _ _ _ (c.in_err-left.ensures.performed d e))

pub returns-in_err-whole_of-clause-result : goal.returns-in_err-whole_of-clause-result
returns-in_err-whole_of-clause-result g c =
    let p = err_from_is_err_and c.from_residual-in_err-whole_of.result c.from_residual-in_err-whole_of.ensures.1 in
    rw (p.1, p.2) (λ d e. result_no_whole _ _ _ d _ _ _ c.in_ok-left.left c.in_ok-value.value _ (c.in_ok-left.ensures.performed d e) c.in_ok-value.ensures c.in_err-whole_of.ensures.whole)

pub returns-clause-result : goal.returns-clause-result
returns-clause-result g c =
    let f : SFits w32 c.in_ok-whole_of.field-0 = search rules in
    λ d e. result_whole _ _ _ d _ _ _ c.in_ok-left.left c.in_ok-value.value c.in_ok-whole_of.field-0 _ (to_z-of_z f) (c.in_ok-left.ensures.performed d e) c.in_ok-value.ensures c.in_ok-whole_of.ensures.whole

pub returns-in_err-value-clause-result : goal.returns-in_err-value-clause-result
returns-in_err-value-clause-result g c =
    let p = err_from_is_err_and c.from_residual-in_err-value.result c.from_residual-in_err-value.ensures.1 in
    rw (p.1, p.2) (λ d e. result_dead _ _ _ d _ _ _ c.in_ok-left.left _ (c.in_ok-left.ensures.performed d e) c.in_err-value.ensures)
