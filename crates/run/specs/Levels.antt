-- The stack of a run: frames, and above them the values of an expression, each time the newest first.
use Rattle.std.specs.Prelude.{◌≡◌, ℕ, zero, suc, ◌+◌, false, List, [], ◌∷◌, Some, None, Option, Ok, Err, Result, slice_index_or}
use Rattle.language.specs.declared.values.Value.{Value}
use Rattle.language.specs.declared.values.Value.TheVariants.{Truth as truth_value}
use Rattle.language.specs.declared.values.Stop.{Stop}
use Rattle.language.specs.declared.values.Stop.TheVariants.{Unit as UnitStop}
use Rattle.run.specs.declared.levels.Level.{Level}
use Rattle.run.specs.declared.levels.Frame.{Frame}
use Rattle.run.specs.declared.levels.State.TheVariants.{Run}

abbrev pub no_frame : Frame
no_frame = record { state = Run; at = 0; top = 0; position = 0 }

abbrev pub no_level : Level
no_level = record { frame = no_frame; value = truth_value false }

abbrev pub level_at : List Level → ℕ → Level
level_at vs k = slice_index_or vs k no_level

-- the first n of a sequence, the last of them first
unfoldable pub newest_first : {A : Type 0} → (ℕ → A) → ℕ → List A
newest_first f zero = []
newest_first f (suc n) = f n ∷ newest_first f n

-- the frames of the first d levels
abbrev pub frames : List Level → ℕ → List Frame
frames vs d = newest_first (λ k. (level_at vs k).frame) d

-- the values of h levels from d on
abbrev pub values : List Level → ℕ → ℕ → List Value
values vs d h = newest_first (λ k. (level_at vs (d + k)).value) h

-- the newest of d frames is taken off, where there is one
abbrev pub Popped : List Level → (d d' : ℕ) → Option Frame → Type 0
Popped vs d d' None = (d ≡ 0) × (d' ≡ 0)
Popped vs d d' (Some f) = (d ≡ d' + 1) × (frames vs d ≡ f ∷ frames vs d')

-- the newest of h values from d on is taken off, where there is one
abbrev pub PoppedValue : List Level → (d h h' : ℕ) → Option Value → Type 0
PoppedValue vs d h h' None = (h ≡ 0) × (h' ≡ 0)
PoppedValue vs d h h' (Some v) = (h ≡ h' + 1) × (values vs d h ≡ v ∷ values vs d h')

-- a unit is taken by the command at the node i
abbrev pub Ticked : ℕ → ℕ → Result ℕ Stop → Type 0
Ticked i u (Ok u') = u ≡ suc u'
Ticked i u (Err s) = (u ≡ 0) × (s ≡ UnitStop i)
