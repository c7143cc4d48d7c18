use Rattle.std.proofs.Common.{rules}
use Rattle.scope.proofs.Chains.{down_less}
use Rattle.scope.proofs.Scope.restore.Goals as goal

pub invariant_of-self : goal.invariant_of-self
invariant_of-self g c = search (rules, down_less)
