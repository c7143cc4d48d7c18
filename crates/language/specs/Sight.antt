-- The names in sight, the latest first.
use Rattle.std.specs.Prelude.{ℕ, Bool, false, cond, ◌||◌, List, [], ◌∷◌, Some, None, Option}
use Rattle.std.proofs.Math.Option.{Option as Found, some, none}
use Rattle.language.specs.Same.{same}
use Rattle.language.specs.Tree.{Decl}

abbrev pub Sight : Type 0 → Type 0
Sight E = List (ℕ × E)

-- the latest entry of a name
abbrev pub look : {E : Type 0} → ℕ → Sight E → Option E
look m [] = None
look m (e ∷ ρ) = cond (same m e.0) (Some e.1) (look m ρ)

abbrev pub member : ℕ → List ℕ → Bool
member m [] = false
member m (x ∷ xs) = same m x || member m xs

-- the entries of other names than these
abbrev pub without : {E : Type 0} → List ℕ → Sight E → Sight E
without ms [] = []
without ms (e ∷ ρ) = cond (member e.0 ms) (without ms ρ) (e ∷ without ms ρ)

-- what a name stands for while a rule runs: a location; or a procedure, by how many formals it has and what it does with that many locations
pub data Bound (P : Type 1) : Type 1 where
  place : ℕ → Bound P
  procedure : ℕ → (List ℕ → P) → Bound P

abbrev pub Env : Type 1 → Type 1
Env P = List (ℕ × Bound P)

abbrev pub find : {P : Type 1} → ℕ → Env P → Found (Bound P)
find m [] = none
find m (e ∷ ρ) = cond (same m e.0) (some e.1) (find m ρ)

-- each declared name stands for its location
abbrev pub placed : {P : Type 1} → List Decl → List ℕ → Env P → Env P
placed [] ls ρ = ρ
placed (d ∷ ds) [] ρ = ρ
placed (d ∷ ds) (l ∷ ls) ρ = placed ds ls ((d.name, place l) ∷ ρ)
