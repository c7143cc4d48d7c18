-- Both lists compute.
use Rattle.std.proofs.Common.{refl}
use Rattle.samples.proofs.calls.call_samples.Goals as goal

pub returns : goal.returns
returns c = record { answers_due = refl }
