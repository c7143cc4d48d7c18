use Rattle.std.proofs.Common.{◌≡◌, ◌+◌, refl, ap, ◌∙◌, arith}
use Rattle.std.proofs.lemmas.Result.{err_from_is_err_and}
use Rattle.language.specs.declared.tables.Node.{Node}
use Rattle.table.specs.Stretches.{node_at}
use Rattle.run.specs.Machine.{head}
use Rattle.run.specs.Shapes.{back}
use Rattle.run.specs.Running.{frames_of}
use Rattle.run.proofs.Arms.{block_full}
use Rattle.run.proofs.Entered.{block_goes, block_frames}
use Rattle.run.proofs.Turns.{shape, running, no_unit_here, command_stopped, goes_on, of_block}
use Rattle.run.proofs.runner.Runner.begin_block.Goals as goal

pub returns-in_err-self-clause-stepped : goal.returns-in_err-self-clause-stepped
returns-in_err-self-clause-stepped g c =
    let p = err_from_is_err_and c.from_residual.result c.from_residual.ensures.1 in
    rw (p.1, p.2) (no_unit_here _ _ _ c.requires.ready c.requires.runs _ _ c.in_err-self.ensures.ticked)

pub open_block-requires : goal.open_block-requires
open_block-requires g c =
    let q = c.requires in
    let n = running _ _ q.ready q.runs in
    let w = of_block _ _ (shape c.args.self.now.table) _ n.at q.kind in
    let a = ap (λ (x : Node). x.a) c.node-node.ensures.node in
    record { nodes = omega (arith, w.0, n.at, a, c.start-from.ensures.start); room = omega (arith, w.0, n.room, a, q.ready.top) }

pub returns-in_err-open_block-clause-stepped : goal.returns-in_err-open_block-clause-stepped
returns-in_err-open_block-clause-stepped g c =
    let p = err_from_is_err_and c.from_residual-in_err-open_block.result c.from_residual-in_err-open_block.ensures.1 in
    let q = c.requires in
    let n = running _ _ q.ready q.runs in
    let b = c.open_block.ensures in
    let e = rw (c.start-from.ensures.start, ap (λ (x : Node). x.a) c.node-node.ensures.node) at c.in_err-open_block.ensures.opened in
    rw (p.1, p.2) (command_stopped _ _ _ q.ready q.runs _ _ _ _ _ c.in_ok-self.field-0 b.length_kept (rw q.ready.top at b.older_kept) (omega (arith, q.ready.top, b.top_grown)) refl _
    (block_full _ _ _ _ _ _ _ _ c.in_ok-self.field-0 n.at c.in_ok-self.ensures.ticked _ _ q.kind e))

pub after_procedures-top-requires : goal.after_procedures-top-requires
after_procedures-top-requires g c =
    let q = c.requires in
    let n = running _ _ q.ready q.runs in
    let w = of_block _ _ (shape c.args.self.now.table) _ n.at q.kind in
    let a = ap (λ (x : Node). x.a) c.node-node.ensures.node in
    let b = ap (λ (x : Node). x.b) c.node-node.ensures.node in
    record { room = omega (arith, w.0, n.room, a, b, c.in_ok-open_block.ensures.opened.1, c.open_block.ensures.length_kept, q.ready.top) }

pub push_commands-end-requires : goal.push_commands-end-requires
push_commands-end-requires g c =
    let q = c.requires in
    let n = running _ _ q.ready q.runs in
    let w = of_block _ _ (shape c.args.self.now.table) _ n.at q.kind in
    let k = ap (λ (x : Node). x.c) c.node-node.ensures.node in
    record { room = omega (arith, w.0, n.deep, k, c.push.ensures.depth, c.push.ensures.length_kept); inside = omega (arith, n.at); commands = rw k w.1 }

pub declare_procedures-requires : goal.declare_procedures-requires
declare_procedures-requires g c =
    let q = c.requires in
    let r = c.args.self.now in
    let n = running _ _ q.ready q.runs in
    let w = of_block _ _ (shape r.table) _ n.at q.kind in
    let a = ap (λ (x : Node). x.a) c.node-node.ensures.node in
    let b = ap (λ (x : Node). x.b) c.node-node.ensures.node in
    let k = ap (λ (x : Node). x.c) c.node-node.ensures.node in
    let m = c.push_commands-end in
    let e : m.result ≡ back r.table.lens.now c.args.frame.at (node_at r.table.nodes.now c.args.frame.at).c = rw k at m.ensures.end in
    record {
      room = omega (arith, w.0, n.deep, b, k, m.ensures.depth, m.ensures.length_kept, c.push.ensures.depth, c.push.ensures.length_kept);
      records = rw c.after_procedures-top.ensures.kept (omega (arith, w.0, n.room, a, b, c.in_ok-open_block.ensures.opened.1, c.open_block.ensures.length_kept, q.ready.top));
      inside = omega (arith, e, w.3, n.at);
      procedures = rw (e, b) w.2;
    }

pub returns-clause-stepped : goal.returns-clause-stepped
returns-clause-stepped g c =
    let q = c.requires in
    let r = c.args.self.now in
    let f = c.args.frame in
    let n = running _ _ q.ready q.runs in
    let w = of_block _ _ (shape r.table) _ n.at q.kind in
    let a = ap (λ (x : Node). x.a) c.node-node.ensures.node in
    let b = ap (λ (x : Node). x.b) c.node-node.ensures.node in
    let k = ap (λ (x : Node). x.c) c.node-node.ensures.node in
    let oe = c.open_block.ensures in
    let o = rw (c.start-from.ensures.start, a, q.ready.top, q.ready.position) at c.in_ok-open_block.ensures.opened in
    let e = c.after_procedures-top.ensures in
    let d = c.declare_procedures.ensures in
    let m = c.push_commands-end.ensures in
    let end_top : c.after_procedures-top.result.0 ≡ f.top + (node_at r.table.nodes.now f.at).a + (node_at r.table.nodes.now f.at).b = omega (arith, e.top, o.1, b) in
    let seen : c.after_procedures-top.result.1 ≡ head (f.top + (node_at r.table.nodes.now f.at).a) c.open_block.new.scope.head (node_at r.table.nodes.now f.at).b = rw (o.1, b) at e.position in
    let top : c.declare_procedures.new.scope.top ≡ f.top + (node_at r.table.nodes.now f.at).a + (node_at r.table.nodes.now f.at).b = omega (arith, rw e.kept at d.top_after, o.1, b) in
    let procs = rw (e.kept, o.1, b, m.end, k) at d.declared in
    let frames = block_frames _ _ _ _ _ _ _ _ _ _ _ _ q.runs seen end_top k c.push.ensures.frames m.frames in
    let kept : frames_of (record r { stack = c.declare_procedures.new.stack }) ≡ frames_of (record r { stack = c.push_commands-end.new.self }) = rw d.depth_kept d.frames_kept in
    goes_on _ r (record r { scope = c.declare_procedures.new.scope; stack = c.declare_procedures.new.stack; units = c.in_ok-self.field-0 }) _ _ _
    (omega (arith, w.0, n.deep, k, d.depth_kept, m.depth, c.push.ensures.depth)) c.in_ok-self.ensures.ticked
    (rw top (block_goes _ _ _ _ _ _ _ _ _ _ f _ _ _ _ _ (shape r.table) q.ready.good refl q.runs q.kind c.in_ok-self.ensures.ticked
    oe.length_kept (rw e.kept at d.length_kept) (rw q.ready.top at oe.older_kept) (rw (e.kept, o.1) at d.older_kept) o.0 procs (kept ∙ frames)))
