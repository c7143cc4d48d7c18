use Rattle.std.proofs.Common.{◌≡◌, sym, refl, ap, ◌∙◌, arith}
use Rattle.std.proofs.lemmas.Result.{err_from_is_err_and}
use Rattle.language.specs.declared.tables.Node.{Node}
use Rattle.table.specs.Stretches.{node_at}
use Rattle.run.proofs.Arms.{runs_too}
use Rattle.run.proofs.Calls.{procedure_found, call_no_args, call_no_procedure, call_wrong, call_goes}
use Rattle.run.proofs.Changes.{unchanged}
use Rattle.run.proofs.Turns.{shape, running, no_unit_here, stopped_here, command_stopped, goes_on, procedure_at}
use Rattle.run.proofs.runner.Runner.begin_call.Goals as goal

pub returns-in_err-self-clause-stepped : goal.returns-in_err-self-clause-stepped
returns-in_err-self-clause-stepped g c =
    let p = err_from_is_err_and c.from_residual.result c.from_residual.ensures.1 in
    rw (p.1, p.2) (no_unit_here _ _ _ c.requires.ready c.requires.runs _ _ c.in_err-self.ensures.ticked)

pub returns-in_err-at-clause-stepped : goal.returns-in_err-at-clause-stepped
returns-in_err-at-clause-stepped g c =
    let p = err_from_is_err_and c.from_residual-in_err-at.result c.from_residual-in_err-at.ensures.1 in
    let q = c.requires in
    let n = running _ _ q.ready q.runs in
    let u = c.in_ok-self.field-0 in
    let e = rw (q.ready.position, ap (λ (x : Node). x.name) c.node-node.ensures.node) at c.in_err-at.ensures.procedure in
    rw (p.1, p.2) (stopped_here _ c.args.self.now (record c.args.self.now { units = u }) _ q.ready q.runs _ _ u (unchanged _) _
    (call_no_procedure _ _ _ _ _ _ n.within n.linked n.ok_below n.position _ n.at q.kind _ _ _ c.in_ok-self.ensures.ticked _ e))

pub node-requires : goal.node-requires
node-requires g c =
    let q = c.requires in
    let n = running _ _ q.ready q.runs in
    let y = procedure_at _ c.args.frame _ _ _ n (procedure_found _ _ _ (rw (q.ready.position, ap (λ (x : Node). x.name) c.node-node.ensures.node) at c.in_ok-at.ensures.procedure)) in
    record { inside = y.0 }

pub returns-then-node-clause-stepped : goal.returns-then-node-clause-stepped
returns-then-node-clause-stepped g c =
    let r = c.args.self.now in
    let q = c.requires in
    let n = running _ _ q.ready q.runs in
    let u = c.in_ok-self.field-0 in
    let a = ap (λ (x : Node). x.a) c.node-node.ensures.node in
    let ne : (node_at r.table.nodes.now c.in_ok-at.at).a ≡ (node_at r.table.nodes.now c.args.frame.at).a → ⊥ = λ x. c.if-node.true (ap (λ (z : Node). z.a) c.node.ensures.node ∙ x ∙ sym a) in
    let found = procedure_found _ _ _ (rw (q.ready.position, ap (λ (x : Node). x.name) c.node-node.ensures.node) at c.in_ok-at.ensures.procedure) in
    stopped_here _ r (record r { units = u }) _ q.ready q.runs _ _ u (unchanged _) _
    (call_wrong _ _ _ _ _ _ n.within n.linked n.ok_below n.position _ n.at q.kind _ _ _ c.in_ok-self.ensures.ticked _ _ found ne)

pub start-requires : goal.start-requires
start-requires g c =
    let q = c.requires in
    let n = running _ _ q.ready q.runs in
    let y = procedure_at _ c.args.frame _ _ _ n (procedure_found _ _ _ (rw (q.ready.position, ap (λ (x : Node). x.name) c.node-node.ensures.node) at c.in_ok-at.ensures.procedure)) in
    record { inside = y.0 }

pub bind_arguments-requires : goal.bind_arguments-requires
bind_arguments-requires g c =
    let q = c.requires in
    let n = running _ _ q.ready q.runs in
    let y = procedure_at _ c.args.frame _ _ _ n (procedure_found _ _ _ (rw (q.ready.position, ap (λ (x : Node). x.name) c.node-node.ensures.node) at c.in_ok-at.ensures.procedure)) in
    let same = sym (ap (λ (z : Node). z.a) c.node.ensures.node) ∙ c.if-node.false in
    let a = ap (λ (x : Node). x.a) c.node-node.ensures.node in
    let w = (shape c.args.self.now.table).of_call _ n.at q.kind in
    record {
      arguments = omega (arith, w, n.at, a, c.start-arguments.ensures.start);
      formals = omega (arith, y.0, y.4, same, c.start.ensures.start);
      room = omega (arith, n.room, w, a, q.ready.top);
      seen = omega (arith, y.2, q.ready.top);
    }

pub returns-in_err-bind_arguments-clause-stepped : goal.returns-in_err-bind_arguments-clause-stepped
returns-in_err-bind_arguments-clause-stepped g c =
    let p = err_from_is_err_and c.from_residual-in_err-bind_arguments.result c.from_residual-in_err-bind_arguments.ensures.1 in
    let q = c.requires in
    let n = running _ _ q.ready q.runs in
    let b = c.bind_arguments.ensures in
    let e = rw (c.start-arguments.ensures.start, ap (λ (x : Node). x.a) c.node-node.ensures.node, q.ready.position) at c.in_err-bind_arguments.ensures.bound in
    rw (p.1, p.2) (command_stopped _ _ _ q.ready q.runs _ _ _ _ _ c.in_ok-self.field-0 b.length_kept (rw q.ready.top at b.older_kept) (omega (arith, q.ready.top, b.top_grown)) refl _
    (call_no_args _ _ _ _ _ _ n.within n.linked n.ok_below n.position _ n.at q.kind _ _ _ c.in_ok-self.ensures.ticked _ e))

pub overflow_sub-at : goal.overflow_sub-at
overflow_sub-at g c =
    let q = c.requires in
    let n = running _ _ q.ready q.runs in
    (procedure_at _ c.args.frame _ _ _ n (procedure_found _ _ _ (rw (q.ready.position, ap (λ (x : Node). x.name) c.node-node.ensures.node) at c.in_ok-at.ensures.procedure))).1

pub returns-clause-stepped : goal.returns-clause-stepped
returns-clause-stepped g c =
    let r = c.args.self.now in
    let q = c.requires in
    let n = running _ _ q.ready q.runs in
    let b = c.bind_arguments.ensures in
    let a = ap (λ (x : Node). x.a) c.node-node.ensures.node in
    let same = sym (ap (λ (z : Node). z.a) c.node.ensures.node) ∙ c.if-node.false ∙ a in
    let d = rw (c.start-arguments.ensures.start, c.start.ensures.start, a, q.ready.position, q.ready.top) at c.in_ok-bind_arguments.ensures.bound in
    let found = procedure_found _ _ _ (rw (q.ready.position, ap (λ (x : Node). x.name) c.node-node.ensures.node) at c.in_ok-at.ensures.procedure) in
    goes_on _ r (record r { scope = c.bind_arguments.new.scope; stack = c.push.new.self; units = c.in_ok-self.field-0 }) _ _ _ (omega (arith, c.push.ensures.depth, q.ready.within)) c.in_ok-self.ensures.ticked
    (rw d.1 (call_goes _ _ _ _ _ _ _ _ _ c.args.frame _ _ _ _ _ _ n.within (shape r.table) q.ready.good refl q.runs q.kind c.in_ok-self.ensures.ticked
    b.length_kept (rw q.ready.top at b.older_kept) found same d.0
    (rw (c.position.ensures.head, c.used.ensures.top, d.1) at (runs_too _ _ _ c.args.frame _ _ _ q.runs refl c.push.ensures.frames))))
