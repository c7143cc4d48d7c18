use Rattle.rule.specs.Pieces.{long}
use Rattle.rule.proofs.checker.Checker.+hide.Given as goal

abbrev pub decreases-hide : goal.decreases-hide
decreases-hide l = long l.procs
