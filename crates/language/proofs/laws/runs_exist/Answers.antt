use Rattle.language.proofs.Sound.{runs_exist}
use Rattle.language.proofs.laws.runs_exist.Goals as goal

pub returns : goal.returns
returns c = record { runs_exist = runs_exist }
