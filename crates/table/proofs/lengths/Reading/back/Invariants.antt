use Rattle.std.proofs.Common.{◌≡◌, ◌-◌, ◌≤◌}
use Rattle.table.specs.Walk.{walk}
use Rattle.table.proofs.lengths.Reading.back.Given as goal

abbrev pub invariant-loop : goal.invariant-loop
invariant-loop l =
    (walk l.self.nodes.now l.self.lens.now l.sort (l.count - l.counter) l.from ≡ walk l.self.nodes.now l.self.lens.now l.sort l.count l.end)
    × (l.from ≤ l.end)
