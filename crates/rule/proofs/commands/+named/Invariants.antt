use Rattle.rule.specs.Pieces.{long}
use Rattle.rule.proofs.commands.+named.Given as goal

abbrev pub decreases-named : goal.decreases-named
decreases-named l = long l.procs
