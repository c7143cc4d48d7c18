use Rattle.std.proofs.Common.{to_z-of_z}
use Rattle.std.proofs.lemmas.Result.{err_from_is_err_and}
use Rattle.run.proofs.Whole.{no_input, no_output, run_released, run_not_released}
use Rattle.run.proofs.runner.Runner.run_table.Goals as goal

pub returns-in_err-input-clause-ran : goal.returns-in_err-input-clause-ran
returns-in_err-input-clause-ran g c =
    let p = err_from_is_err_and c.from_residual.result c.from_residual.ensures.1 in
    rw (p.1, p.2) (λ d e. no_input (g.S.Store.bound c.args.store.now) d _ _ _ _ _ _ (to_z-of_z c.ranges.step) c.in_err-input.ensures.taken)

pub returns-in_err-output-clause-ran : goal.returns-in_err-output-clause-ran
returns-in_err-output-clause-ran g c =
    let p = err_from_is_err_and c.from_residual-in_err-output.result c.from_residual-in_err-output.ensures.1 in
    rw (p.1, p.2) (λ d e. no_output (g.S.Store.bound c.args.store.now) d _ _ _ _ (g.S.Store.at c.take.new.self) _ c.in_ok-input.input _ _ (to_z-of_z c.ranges.step) c.take.ensures.limit_kept c.in_ok-input.ensures.taken c.in_err-output.ensures.taken)

pub returns-in_err-release_both-clause-ran : goal.returns-in_err-release_both-clause-ran
returns-in_err-release_both-clause-ran g c =
    let p = err_from_is_err_and c.from_residual-in_err-release_both.result c.from_residual-in_err-release_both.ensures.1 in
    rw (p.1, p.2) (λ d e. run_not_released (g.S.Store.bound c.args.store.now) d _ _ _ _ (g.S.Store.at c.take.new.self) (g.S.Store.at c.take-2.new.self) c.in_ok-input.input c.in_ok-output.output
    (g.S.Store.bound c.take.new.self) (g.S.Store.bound c.take-2.new.self) (to_z-of_z c.ranges.step) c.take.ensures.limit_kept c.take-2.ensures.limit_kept c.in_ok-input.ensures.taken c.in_ok-output.ensures.taken
    (g.S.Store.at c.result_of-result.new.store) _ c.result_of-result.result _ (c.result_of-result.ensures.result d e) c.in_err-release_both.ensures.released)

pub returns-clause-ran : goal.returns-clause-ran
returns-clause-ran g c =
    λ d e. run_released (g.S.Store.bound c.args.store.now) d _ _ _ _ (g.S.Store.at c.take.new.self) (g.S.Store.at c.take-2.new.self) c.in_ok-input.input c.in_ok-output.output
    (g.S.Store.bound c.take.new.self) (g.S.Store.bound c.take-2.new.self) (to_z-of_z c.ranges.step) c.take.ensures.limit_kept c.take-2.ensures.limit_kept c.in_ok-input.ensures.taken c.in_ok-output.ensures.taken
    (g.S.Store.at c.result_of-result.new.store) _ c.result_of-result.result (c.result_of-result.ensures.result d e) c.in_ok-release_both.ensures.released
