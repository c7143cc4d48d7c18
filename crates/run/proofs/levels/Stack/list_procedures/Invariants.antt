use Rattle.std.proofs.Common.{◌≡◌, ◌≤◌, length}
use Rattle.run.specs.Shapes.{ProcsBefore}
use Rattle.run.proofs.Rows.{NotedFrom}
use Rattle.run.proofs.levels.Stack.list_procedures.Given as goal

abbrev pub invariant-loop-left : goal.invariant-loop-left
invariant-loop-left l =
    (l.end ≤ length l.table.nodes.now)
    × ProcsBefore l.table.nodes.now l.table.lens.now l.end l.left
    × NotedFrom l.table.lens.now l.initial.self.levels.now l.self.levels.now l.self.depth l.initial.end l.count l.end l.left
    × (l.self.depth ≡ l.initial.self.depth)
    × (length l.self.levels.now ≡ length l.initial.self.levels.now)
