use Rattle.std.proofs.Common.{◌+◌, ◌*◌}
use Rattle.rule.specs.Pieces.{long}
use Rattle.rule.proofs.checker.Checker.+commands.Given as goal

abbrev pub decreases-block : goal.decreases-block
decreases-block l = 5 * (long l.variables + long l.procs + long l.coms) + 4

abbrev pub decreases-command : goal.decreases-command
decreases-command l = 5 * long l.part + 1

abbrev pub decreases-commands : goal.decreases-commands
decreases-commands l = 5 * long l.part + 2

abbrev pub decreases-one_procedure : goal.decreases-one_procedure
decreases-one_procedure l = 5 * long l.part + 2

abbrev pub decreases-procedures : goal.decreases-procedures
decreases-procedures l = 5 * long l.part + 3
