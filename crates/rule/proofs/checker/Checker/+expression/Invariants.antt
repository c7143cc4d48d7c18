use Rattle.rule.proofs.checker.Checker.+expression.Given as goal
use Rattle.std.proofs.Common.{length}

abbrev pub decreases-expression : goal.decreases-expression
decreases-expression l = length l.part.nodes.now
