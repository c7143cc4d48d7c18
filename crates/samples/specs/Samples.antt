-- Samples: tables with a step, an allowance, and the answer that is due.
use Rattle.std.specs.Prelude.{◌≡◌, List, map, Some}
use Rattle.samples.specs.declared.entries.Sample.{Sample}
use Rattle.language.specs.Outcome.{outcome}

-- the outcome of every sample is the one that is due: one equation of two lists
abbrev pub AsDue : List Sample → Type 0
AsDue samples = map (λ s. outcome s.nodes.now s.«work» s.step s.allowance) samples ≡ map (λ s. Some s.due) samples
