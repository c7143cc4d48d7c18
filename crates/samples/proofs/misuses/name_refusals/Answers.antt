-- Both lists compute.
use Rattle.std.proofs.Common.{refl}
use Rattle.samples.proofs.misuses.name_refusals.Goals as goal

pub returns : goal.returns
returns c = record { answers_due = refl }
