-- The variables of a rule as a stack of values, the newest first; the oldest is at location 0.
use Rattle.std.specs.Prelude.{ℕ, cond, List, [], ◌∷◌, length, Some, None, Option, ◌==◌}
use Rattle.language.specs.declared.values.Value.{Value}

abbrev pub Stack : Type 0
Stack = List Value

abbrev pub value_at : Stack → ℕ → Option Value
value_at [] l = None
value_at (v ∷ σ) l = cond (l == length σ) (Some v) (value_at σ l)

-- another value at a location
abbrev pub with_value : Stack → ℕ → Value → Stack
with_value [] l w = []
with_value (v ∷ σ) l w = cond (l == length σ) (w ∷ σ) (v ∷ with_value σ l w)
