-- What a chain of steps that came to an answer says of each step.
use Rattle.std.proofs.Common.{◌≡◌, ℕ, Bool, true, false, Some, None, Ok, Err, Option, Result, refl, ap, arith}
use Rattle.language.specs.Results.{◌>>=◌, ◌>>?◌, asked, or_else}

pub no_ok : {E A : Type 0} (e : E) (a : A) → Err e ≡ Ok a → ⊥
no_ok e a h = let z : ◌≡◌ {A = ℕ} 0 1 = cc in omega arith

pub ok_is : {E A : Type 0} {a b : A} → ◌≡◌ {A = Result A E} (Ok a) (Ok b) → a ≡ b
ok_is h = cc

pub bind_ok : {E A B : Type 0} (r : Result A E) (k : A → Result B E) (b : B) → (r >>= k) ≡ Ok b → (a : A) × (r ≡ Ok a) × (k a ≡ Ok b)
bind_ok (Ok a) k b h = (a, refl, h)
bind_ok (Err e) k b h = absurd (no_ok e b h)

pub asked_ok : {E B : Type 0} (t : Bool) (e : E) (k : Unit {0} → Result B E) (b : B) → (asked t e >>= k) ≡ Ok b → (t ≡ true) × (k tt ≡ Ok b)
asked_ok true e k b h = (refl, h)
asked_ok false e k b h = absurd (no_ok e b h)

pub no_some : {A : Type 0} (a : A) → None ≡ Some a → ⊥
no_some a h = let z : ◌≡◌ {A = ℕ} 0 1 = cc in omega arith

pub some_is : {A : Type 0} (a b : A) → Some a ≡ Some b → a ≡ b
some_is a b h = cc

pub bind_some : {A B : Type 0} (o : Option A) (k : A → Option B) (b : B) → (o >>? k) ≡ Some b → (a : A) × (o ≡ Some a) × (k a ≡ Some b)
bind_some None k b h = absurd (no_some b h)
bind_some (Some a) k b h = (a, refl, h)

pub or_else_ok : {E A : Type 0} (e : E) (o : Option A) (a : A) → or_else e o ≡ Ok a → o ≡ Some a
or_else_ok e None a h = absurd (no_ok e a h)
or_else_ok e (Some b) a h = ap Some (ok_is h)
