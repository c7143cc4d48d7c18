use Rattle.language.proofs.Accepted.{accepted_exactly}
use Rattle.language.proofs.laws.acceptance_is_exact.Goals as goal

pub returns : goal.returns
returns c = record { accepted_exactly = accepted_exactly }
