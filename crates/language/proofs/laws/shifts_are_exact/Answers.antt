use Rattle.language.proofs.Commands.{gives_exactly}
use Rattle.language.proofs.laws.shifts_are_exact.Goals as goal

pub returns : goal.returns
returns c = record { gives_exactly = gives_exactly }
