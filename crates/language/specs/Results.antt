-- Steps that may refuse, one after the other: the first refusal is the answer.
use Rattle.std.specs.Prelude.{Bool, true, false, Some, None, Ok, Err, Option, Result}

infixl 20 ◌>>=◌
abbrev pub ◌>>=◌ : {E A B : Type 0} → Result A E → (A → Result B E) → Result B E
Ok a >>= k = k a
Err e >>= k = Err e

infixl 20 ◌>>?◌
abbrev pub ◌>>?◌ : {A B : Type 0} → Option A → (A → Option B) → Option B
None >>? k = None
Some a >>? k = k a

-- e is the answer to a question that says no
abbrev pub asked : {E : Type 0} → Bool → E → Result (Unit {0}) E
asked true e = Ok tt
asked false e = Err e

abbrev pub or_else : {E A : Type 0} → E → Option A → Result A E
or_else e None = Err e
or_else e (Some a) = Ok a
