use Rattle.language.proofs.Commands.{settled}
use Rattle.language.proofs.laws.answers_follow_meaning.Goals as goal

pub returns : goal.returns
returns c = record { settled = settled }
