use Rattle.std.proofs.Common.{List, ◌∷◌, refl, ap, ◌∙◌, arith}
use Rattle.std.proofs.lemmas.Result.{err_from_is_err_and}
use Rattle.run.specs.declared.levels.Frame.{Frame}
use Rattle.run.proofs.Arms.{while_no_test, while_leaves, while_goes, runs_too}
use Rattle.run.proofs.Changes.{frames_kept}
use Rattle.run.proofs.Turns.{shape, running, no_unit_here, stopped_here, ended_here, goes_here, of_while}
use Rattle.run.proofs.runner.Runner.begin_while.Goals as goal

pub returns-in_err-self-clause-stepped : goal.returns-in_err-self-clause-stepped
returns-in_err-self-clause-stepped g c =
    let p = err_from_is_err_and c.from_residual.result c.from_residual.ensures.1 in
    rw (p.1, p.2) (no_unit_here _ _ _ c.requires.ready c.requires.runs _ _ c.in_err-self.ensures.ticked)

pub overflow_sub-test : goal.overflow_sub-test
overflow_sub-test g c =
    let n = running _ _ c.requires.ready c.requires.runs in
    rw c.start-test.ensures.start (of_while _ _ (shape c.args.self.now.table) _ n.at c.requires.kind).1

pub holds-requires-clause-expression : goal.holds-requires-clause-expression
holds-requires-clause-expression g c =
    let n = running _ _ c.requires.ready c.requires.runs in
    rw c.start-test.ensures.start (of_while _ _ (shape c.args.self.now.table) _ n.at c.requires.kind).3

pub holds-requires-clause-procedures : goal.holds-requires-clause-procedures
holds-requires-clause-procedures g c = (running _ _ c.requires.ready c.requires.runs).procedures

pub holds-requires-clause-room : goal.holds-requires-clause-room
holds-requires-clause-room g c =
    let n = running _ _ c.requires.ready c.requires.runs in
    let w = of_while _ _ (shape c.args.self.now.table) _ n.at c.requires.kind in
    rw c.start-test.ensures.start (omega (arith, n.deep, w.4))

pub returns-in_err-holds-clause-stepped : goal.returns-in_err-holds-clause-stepped
returns-in_err-holds-clause-stepped g c =
    let p = err_from_is_err_and c.from_residual-in_err-holds.result c.from_residual-in_err-holds.ensures.1 in
    let n = running _ _ c.requires.ready c.requires.runs in
    let t = rw (c.start-test.ensures.start, c.requires.ready.position) at c.in_err-holds.ensures.tested in
    rw (p.1, p.2) (stopped_here _ c.args.self.now c.holds.new.self _ c.requires.ready c.requires.runs _ _ c.in_ok-self.field-0 c.holds.ensures.kept _
    (while_no_test _ _ _ _ _ _ _ _ _ n.at c.in_ok-self.ensures.ticked _ c.requires.kind t))

pub push-requires-then-branch : goal.push-requires-then-branch
push-requires-then-branch g c =
    let n = running _ _ c.requires.ready c.requires.runs in
    let w = of_while _ _ (shape c.args.self.now.table) _ n.at c.requires.kind in
    let k = c.holds.ensures.kept in
    record { room = omega (arith, n.deep, w.5, k.depth, k.deepest, c.push.ensures.depth, c.push.ensures.length_kept) }

pub returns-then-branch-clause-stepped : goal.returns-then-branch-clause-stepped
returns-then-branch-clause-stepped g c =
    let r = c.args.self.now in
    let q = c.requires in
    let n = running _ _ q.ready q.runs in
    let w = of_while _ _ (shape r.table) _ n.at q.kind in
    let k = c.holds.ensures.kept in
    let t = rw (c.start-test.ensures.start, q.ready.position, c.if-branch.true) at c.in_ok-holds.ensures.tested in
    let kept = frames_kept r c.holds.new.self c.in_ok-self.field-0 k in
    let below = c.push.ensures.frames ∙ ap (λ (fs : List Frame). c.args.frame ∷ fs) kept in
    goes_here _ r c.holds.new.self _ q.ready q.runs (g.S.Store.at c.args.store.now) (g.S.Store.at c.args.store.now) c.in_ok-self.field-0 k c.push-then-branch.new.self
    (omega (arith, c.push-then-branch.ensures.depth, c.push.ensures.depth, k.depth, n.deep, w.5)) c.in_ok-self.ensures.ticked
    (while_goes _ _ _ _ _ _ _ _ c.args.frame _ _ _ (shape r.table) q.ready.good refl q.runs q.kind c.in_ok-self.ensures.ticked t
    (runs_too _ _ _ c.args.frame _ _ _ q.runs below c.push-then-branch.ensures.frames))

pub returns-else-branch-clause-stepped : goal.returns-else-branch-clause-stepped
returns-else-branch-clause-stepped g c =
    let n = running _ _ c.requires.ready c.requires.runs in
    let t = rw (c.start-test.ensures.start, c.requires.ready.position, c.if-branch.false) at c.in_ok-holds.ensures.tested in
    ended_here _ c.args.self.now c.holds.new.self _ c.requires.ready c.requires.runs _ _ c.in_ok-self.field-0 c.holds.ensures.kept c.in_ok-self.ensures.ticked
    (while_leaves _ _ _ _ _ _ _ _ _ n.at c.in_ok-self.ensures.ticked c.requires.kind t)
