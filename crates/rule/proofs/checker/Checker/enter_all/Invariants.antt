use Rattle.std.proofs.Common.{◌≡◌, drop}
use Rattle.rule.specs.Seen.{sight, Grown}
use Rattle.rule.specs.Rows.{entered}
use Rattle.rule.proofs.checker.Checker.enter_all.Given as goal

abbrev pub invariant-loop-node : goal.invariant-loop-node
invariant-loop-node l = (entered (drop l.node-index l.nodes) (sight l.self) ≡ entered l.nodes (sight l.initial.self)) × Grown l.initial.self l.self l.node-index
