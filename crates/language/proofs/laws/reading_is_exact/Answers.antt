use Rattle.language.proofs.Read.{built_exactly}
use Rattle.language.proofs.laws.reading_is_exact.Goals as goal

pub returns : goal.returns
returns c = record { read_exactly = built_exactly }
