use Rattle.std.proofs.Common.{◌≡◌, ◌+◌, ◌-◌, ◌≤◌, length}
use Rattle.run.specs.Shapes.{ComsBefore, back}
use Rattle.run.specs.Levels.{frames}
use Rattle.run.specs.Machine.{pushed}
use Rattle.run.proofs.levels.Stack.push_commands.Given as goal

abbrev pub invariant-loop : goal.invariant-loop
invariant-loop l =
    let f = l.frame in
    let ls = l.table.lens.now in
    (l.self.depth ≡ l.initial.self.depth + l.counter)
    × (l.end ≤ length l.table.nodes.now)
    × ComsBefore l.table.nodes.now ls 0 l.end (l.count - l.counter)
    × (pushed ls f.state f.position f.top l.end (l.count - l.counter) (frames l.self.levels.now l.self.depth)
    ≡ pushed ls f.state f.position f.top l.initial.end l.count (frames l.initial.self.levels.now l.initial.self.depth))
    × (length l.self.levels.now ≡ length l.initial.self.levels.now)
    × (back ls l.end (l.count - l.counter) ≡ back ls l.initial.end l.count)
