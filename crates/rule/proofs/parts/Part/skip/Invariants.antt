use Rattle.std.proofs.Common.{◌≡◌, ◌-◌}
use Rattle.rule.specs.Pieces.{RowEnds, skipped}
use Rattle.rule.proofs.parts.Part.skip.Given as goal

abbrev pub invariant-loop : goal.invariant-loop
invariant-loop l = RowEnds l.self (l.count - l.counter) l.start × (skipped l.self (l.count - l.counter) l.start ≡ skipped l.self l.count l.end)
