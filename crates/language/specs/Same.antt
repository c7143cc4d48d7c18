-- Being the same name.
use Rattle.std.specs.Prelude.{ℕ, Bool, nat_eq}

abbrev pub same : ℕ → ℕ → Bool
same = nat_eq
