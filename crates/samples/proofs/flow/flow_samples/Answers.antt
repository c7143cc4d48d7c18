-- Both lists compute.
use Rattle.std.proofs.Common.{refl}
use Rattle.samples.proofs.flow.flow_samples.Goals as goal

pub returns : goal.returns
returns c = record { answers_due = refl }
