use Rattle.std.proofs.Common.{◌≡◌, ◌≤◌}
use Rattle.language.specs.Sight.{look}
use Rattle.scope.specs.Sight.{in_sight}
use Rattle.scope.proofs.Scope.find.Given as goal

abbrev pub invariant-loop-position : goal.invariant-loop-position
invariant-loop-position g l =
    (l.position ≤ l.self.top)
    × (look l.name (in_sight l.self.records.now l.position) ≡ look l.name (in_sight l.self.records.now l.self.head))

abbrev pub decreases-loop-position : goal.decreases-loop-position
decreases-loop-position g l = l.position
