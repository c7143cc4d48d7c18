use Rattle.std.proofs.Common.{◌≡◌, ◌+◌, ◌-◌, ◌*◌, [], ◌∷◌, length, None}
use Rattle.run.specs.Running.{KeepsTable, frames_of, deepest_of}
use Rattle.run.specs.Machine.{Went, run_frame}
use Rattle.run.proofs.runner.Runner.perform.Given as goal

abbrev pub invariant-loop-frame : goal.invariant-loop-frame
invariant-loop-frame g l =
    let r = l.fn.self in
    let ns = r.table.nodes.now in
    (g.S.Store.bound l.store ≡ g.S.Store.bound l.initial.store)
    × Went (g.S.Store.bound l.initial.store) ns r.table.lens.now (deepest_of r)
    r.scope.records.now (run_frame (length ns - 1) r.scope.head r.scope.top ∷ []) None (g.S.Store.at l.initial.store) r.units
    l.self.scope.records.now l.self.scope.top (frames_of l.self) None (g.S.Store.at l.store) l.self.units
    × KeepsTable r l.self

abbrev pub decreases-loop-frame : goal.decreases-loop-frame
decreases-loop-frame g l = l.self.units * (deepest_of l.fn.self + 1) + l.self.stack.depth
