use Rattle.language.proofs.Sound.{sound_runs, never_stuck}
use Rattle.language.proofs.laws.runs_are_sound.Goals as goal

pub returns : goal.returns
returns c = record { sound_runs = sound_runs; never_stuck = never_stuck }
