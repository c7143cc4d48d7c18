use Rattle.std.proofs.Common.{◌≡◌, ◌∙◌, refl, arith}
use Rattle.std.proofs.lemmas.Result.{err_from_is_err_and}
use Rattle.run.proofs.Arms.{if_no_test, if_goes, chosen, runs_too}
use Rattle.run.proofs.Changes.{frames_kept}
use Rattle.run.proofs.Turns.{shape, running, no_unit_here, stopped_here, goes_here, of_if}
use Rattle.run.proofs.runner.Runner.begin_if.Goals as goal
use Rattle.run.proofs.runner.Runner.begin_if.Goals.{then-branch, else-branch}

pub returns-in_err-self-clause-stepped : goal.returns-in_err-self-clause-stepped
returns-in_err-self-clause-stepped g c =
    let p = err_from_is_err_and c.from_residual.result c.from_residual.ensures.1 in
    rw (p.1, p.2) (no_unit_here _ _ _ c.requires.ready c.requires.runs _ _ c.in_err-self.ensures.ticked)

pub overflow_sub-then : goal.overflow_sub-then
overflow_sub-then g c =
    let n = running _ _ c.requires.ready c.requires.runs in
    rw c.start-then.ensures.start (of_if _ _ (shape c.args.self.now.table) _ n.at c.requires.kind).1

pub overflow_sub-test : goal.overflow_sub-test
overflow_sub-test g c =
    let n = running _ _ c.requires.ready c.requires.runs in
    rw (c.start-test.ensures.start, c.start-then.ensures.start) (of_if _ _ (shape c.args.self.now.table) _ n.at c.requires.kind).3

pub holds-requires-clause-expression : goal.holds-requires-clause-expression
holds-requires-clause-expression g c =
    let n = running _ _ c.requires.ready c.requires.runs in
    rw (c.start-test.ensures.start, c.start-then.ensures.start) (of_if _ _ (shape c.args.self.now.table) _ n.at c.requires.kind).5

pub holds-requires-clause-procedures : goal.holds-requires-clause-procedures
holds-requires-clause-procedures g c = (running _ _ c.requires.ready c.requires.runs).procedures

pub holds-requires-clause-room : goal.holds-requires-clause-room
holds-requires-clause-room g c =
    let n = running _ _ c.requires.ready c.requires.runs in
    let w = of_if _ _ (shape c.args.self.now.table) _ n.at c.requires.kind in
    rw (c.start-test.ensures.start, c.start-then.ensures.start) (omega (arith, n.deep, w.6))

pub returns-in_err-holds-clause-stepped : goal.returns-in_err-holds-clause-stepped
returns-in_err-holds-clause-stepped g c =
    let p = err_from_is_err_and c.from_residual-in_err-holds.result c.from_residual-in_err-holds.ensures.1 in
    let n = running _ _ c.requires.ready c.requires.runs in
    let t = rw (c.start-test.ensures.start, c.start-then.ensures.start, c.requires.ready.position) at c.in_err-holds.ensures.tested in
    rw (p.1, p.2) (stopped_here _ c.args.self.now c.holds.new.self _ c.requires.ready c.requires.runs _ _ c.in_ok-self.field-0 c.holds.ensures.kept _
    (if_no_test _ _ _ _ _ _ _ _ _ n.at c.in_ok-self.ensures.ticked _ c.requires.kind t))

pub returns-clause-stepped : goal.returns-clause-stepped
returns-clause-stepped g c =
    let r = c.args.self.now in
    let q = c.requires in
    let k = c.holds.ensures.kept in
    let t = rw (c.start-test.ensures.start, c.start-then.ensures.start, q.ready.position) at c.in_ok-holds.ensures.tested in
    let i : c.if-branch.at ≡ chosen r.table.lens.now c.args.frame.at c.in_ok-holds.field-0 =
    elim c.if-branch.branch [ then-branch w ↦ w.at-is ∙ rw (w.if-branch.true, c.start-then.ensures.start) refl | else-branch w ↦ w.at-is ∙ rw w.if-branch.false refl ] in
    goes_here _ r c.holds.new.self _ q.ready q.runs (g.S.Store.at c.args.store.now) (g.S.Store.at c.args.store.now) c.in_ok-self.field-0 k c.push.new.self (omega (arith, c.push.ensures.depth, k.depth, q.ready.within)) c.in_ok-self.ensures.ticked
    (if_goes _ _ _ _ _ _ _ _ c.args.frame _ _ _ c.in_ok-holds.field-0 _ (shape r.table) q.ready.good refl q.runs q.kind c.in_ok-self.ensures.ticked t i
    (runs_too _ _ _ c.args.frame _ _ _ q.runs (frames_kept r c.holds.new.self c.in_ok-self.field-0 k) c.push.ensures.frames))
