use Rattle.std.proofs.Common.{◌≡◌, Some}
use Rattle.run.specs.Running.{frames_of, deepest_of}
use Rattle.run.specs.Machine.{Went}
use Rattle.run.proofs.runner.Runner.unwind.Given as goal

abbrev pub invariant-loop-frame : goal.invariant-loop-frame
invariant-loop-frame g l =
    let r = l.initial.self in
    (g.S.Store.bound l.store ≡ g.S.Store.bound l.initial.store)
    × Went (g.S.Store.bound l.initial.store) r.table.nodes.now r.table.lens.now (deepest_of r)
    r.scope.records.now (frames_of r) (Some l.initial.stop) (g.S.Store.at l.initial.store) 0
    r.scope.records.now r.scope.top (frames_of l.self) (Some l.stop) (g.S.Store.at l.store) 0
    × (l.self.table ≡ r.table)
    × (l.self.scope ≡ r.scope)

abbrev pub decreases-loop-frame : goal.decreases-loop-frame
decreases-loop-frame g l = l.self.stack.depth
