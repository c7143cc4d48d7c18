use Rattle.std.proofs.Common.{ap, arith}
use Rattle.std.proofs.lemmas.Result.{err_from_is_err_and}
use Rattle.language.specs.declared.tables.Node.{Node}
use Rattle.run.proofs.Arms.{assign_does}
use Rattle.run.proofs.Turns.{shape, running, no_unit_here, done_here, of_assign}
use Rattle.run.proofs.runner.Runner.begin_assign.Goals as goal

pub returns-in_err-self-clause-stepped : goal.returns-in_err-self-clause-stepped
returns-in_err-self-clause-stepped g c =
    let p = err_from_is_err_and c.from_residual.result c.from_residual.ensures.1 in
    rw (p.1, p.2) (no_unit_here _ _ _ c.requires.ready c.requires.runs _ _ c.in_err-self.ensures.ticked)

pub assign-requires-clause-expression : goal.assign-requires-clause-expression
assign-requires-clause-expression g c =
    let n = running _ _ c.requires.ready c.requires.runs in
    (of_assign _ _ (shape c.args.self.now.table) _ n.at c.requires.kind).1

pub assign-requires-clause-procedures : goal.assign-requires-clause-procedures
assign-requires-clause-procedures g c = (running _ _ c.requires.ready c.requires.runs).procedures

pub assign-requires-clause-room : goal.assign-requires-clause-room
assign-requires-clause-room g c =
    let n = running _ _ c.requires.ready c.requires.runs in
    let w = of_assign _ _ (shape c.args.self.now.table) _ n.at c.requires.kind in
    omega (arith, n.deep, w.0, w.2)

pub returns-clause-stepped : goal.returns-clause-stepped
returns-clause-stepped g c =
    let n = running _ _ c.requires.ready c.requires.runs in
    let a = rw (c.requires.ready.position, ap (λ (x : Node). x.name) c.node-name.ensures.node) at c.assign.ensures.assigned in
    done_here _ c.args.self.now c.assign.new.self _ c.requires.ready c.requires.runs _ _ c.in_ok-self.field-0 c.assign.ensures.kept c.assign.result c.in_ok-self.ensures.ticked
    (assign_does _ _ _ _ _ _ _ _ c.in_ok-self.field-0 n.at c.in_ok-self.ensures.ticked _ c.assign.result c.requires.kind a)
