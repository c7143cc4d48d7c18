use Rattle.std.proofs.Common.{Some, Ok, Err, sym, ap, ◌∙◌}
use Rattle.std.proofs.lemmas.Result.{err_from_is_err_and}
use Rattle.run.proofs.Arms.{null_ends}
use Rattle.run.proofs.Changes.{unchanged}
use Rattle.run.proofs.Turns.{restored, running, no_unit_here, ended_here, block_done, steps_from}
use Rattle.run.proofs.runner.Runner.step.Goals as goal

pub begin_assign-requires-clause-ready : goal.begin_assign-requires-clause-ready
begin_assign-requires-clause-ready g c = restored c.args.self.now c.restore.new.self c.args.frame _ c.requires.within c.requires.good c.unwrap.ensures c.restore.ensures.records_kept c.restore.ensures.top_after c.restore.ensures.head_after

pub begin_if-requires-clause-ready : goal.begin_if-requires-clause-ready
begin_if-requires-clause-ready g c = restored c.args.self.now c.restore.new.self c.args.frame _ c.requires.within c.requires.good c.unwrap.ensures c.restore.ensures.records_kept c.restore.ensures.top_after c.restore.ensures.head_after

pub begin_while-requires-clause-ready : goal.begin_while-requires-clause-ready
begin_while-requires-clause-ready g c = restored c.args.self.now c.restore.new.self c.args.frame _ c.requires.within c.requires.good c.unwrap.ensures c.restore.ensures.records_kept c.restore.ensures.top_after c.restore.ensures.head_after

pub begin_call-requires-clause-ready : goal.begin_call-requires-clause-ready
begin_call-requires-clause-ready g c = restored c.args.self.now c.restore.new.self c.args.frame _ c.requires.within c.requires.good c.unwrap.ensures c.restore.ensures.records_kept c.restore.ensures.top_after c.restore.ensures.head_after

pub begin_block-requires-clause-ready : goal.begin_block-requires-clause-ready
begin_block-requires-clause-ready g c = restored c.args.self.now c.restore.new.self c.args.frame _ c.requires.within c.requires.good c.unwrap.ensures c.restore.ensures.records_kept c.restore.ensures.top_after c.restore.ensures.head_after

pub returns-in-End-default-clause-stepped : goal.returns-in-End-default-clause-stepped
returns-in-End-default-clause-stepped g c =
    let r = restored c.args.self.now c.restore.new.self c.args.frame _ c.requires.within c.requires.good c.unwrap.ensures c.restore.ensures.records_kept c.restore.ensures.top_after c.restore.ensures.head_after in
    steps_from _ c.args.self.now c.restore.new.self c.args.frame _ (record c.args.self.now { scope = c.restore.new.self }) _ c.release_block.result c.restore.ensures.records_kept
    (block_done _ (record c.args.self.now { scope = c.restore.new.self }) c.args.frame r c.in-End-default.is-0 _ _ c.release_block.result c.release_block.ensures.released)

pub returns-in_err-self-in-Run-Null-clause-stepped : goal.returns-in_err-self-in-Run-Null-clause-stepped
returns-in_err-self-in-Run-Null-clause-stepped g c =
    let p = err_from_is_err_and c.from_residual.result c.from_residual.ensures.1 in
    let r = restored c.args.self.now c.restore.new.self c.args.frame _ c.requires.within c.requires.good c.unwrap.ensures c.restore.ensures.records_kept c.restore.ensures.top_after c.restore.ensures.head_after in
    rw (p.1, p.2) (steps_from (g.S.Store.bound c.args.store.now) c.args.self.now c.restore.new.self c.args.frame _ (record c.args.self.now { scope = c.restore.new.self }) _ (Err c.in_err-self-in-Run-Null.field-0.0) c.restore.ensures.records_kept (no_unit_here (g.S.Store.bound c.args.store.now) (record c.args.self.now { scope = c.restore.new.self }) c.args.frame r c.in-Run-Null.is-0 (g.S.Store.at c.args.store.now) _ c.in_err-self-in-Run-Null.ensures.ticked))

pub returns-in_ok-self-in-Run-Null-clause-stepped : goal.returns-in_ok-self-in-Run-Null-clause-stepped
returns-in_ok-self-in-Run-Null-clause-stepped g c =
    let r = restored c.args.self.now c.restore.new.self c.args.frame _ c.requires.within c.requires.good c.unwrap.ensures c.restore.ensures.records_kept c.restore.ensures.top_after c.restore.ensures.head_after in
    let n = running (record c.args.self.now { scope = c.restore.new.self }) c.args.frame r c.in-Run-Null.is-0 in
    let u = c.in_ok-self-in-Run-Null.field-0 in
    let t = c.in_ok-self-in-Run-Null.ensures.ticked in
    steps_from (g.S.Store.bound c.args.store.now) c.args.self.now c.restore.new.self c.args.frame (g.S.Store.at c.args.store.now) (record c.args.self.now { scope = c.restore.new.self; units = u }) (g.S.Store.at c.args.store.now) (Ok tt) c.restore.ensures.records_kept
    (ended_here _ (record c.args.self.now { scope = c.restore.new.self }) (record c.args.self.now { scope = c.restore.new.self; units = u }) c.args.frame r c.in-Run-Null.is-0 _ _ u (unchanged _) t
    (null_ends _ _ _ _ _ _ _ _ n.at (sym c.kind.ensures.kind ∙ c.unwrap-kind.ensures ∙ ap Some c.in-Run-Null.is-1) t))
