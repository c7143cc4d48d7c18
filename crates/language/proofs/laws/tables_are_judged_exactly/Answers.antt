use Rattle.language.proofs.Judged.{judged_exactly}
use Rattle.language.proofs.laws.tables_are_judged_exactly.Goals as goal

pub returns : goal.returns
returns c = record { judged_exactly = judged_exactly }
