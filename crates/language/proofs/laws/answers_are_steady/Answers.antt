use Rattle.language.proofs.Commands.{steady}
use Rattle.language.proofs.laws.answers_are_steady.Goals as goal

pub returns : goal.returns
returns c = record { steady = steady }
