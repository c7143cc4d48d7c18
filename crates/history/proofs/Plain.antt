-- What many proofs end with. Assumes nothing.
use Rattle.std.proofs.Common.{◌≡◌, ℕ, Some, sym, arith}

pub never : {A : Type 0} → ◌≡◌ {A = ℕ} 0 1 → A
never h = absurd (omega arith)

-- two answers to one question are the same
pub some_same : {A : Type 0} {x a : A} → Some x ≡ Some a → a ≡ x
some_same {A} {x} {a} e = let q : x ≡ a = cc in sym q
