use Rattle.std.proofs.Common.{rules}
use Rattle.scope.proofs.Chains.{sight_zero}
use Rattle.scope.proofs.Scope.new.Goals as goal

pub returns : goal.returns
returns g c = search (rules, sight_zero)
