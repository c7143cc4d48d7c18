-- The parts of a whole run, each with the store as it is then.
use Rattle.std.specs.Prelude.{◌≡◌, ℕ, [], ◌∷◌, ℤ, Ok, Err, Result, slice_set}
use Rattle.language.specs.declared.values.Stop.{Stop}
use Rattle.language.specs.Memory.{Memory}
use Rattle.language.specs.Reference.{as_whole}
use Rattle.language.specs.Runs.{Out, ended, stopped, Step, ◌>>=◌, does, fetch, answered}
use Rattle.language.specs.Sight.{place}
use Rattle.language.specs.Tree.{Com}
use Rattle.scope.specs.Calls.{linked}
use Rattle.run.specs.declared.bindings.Binding.TheVariants.{Place}
use Rattle.run.specs.Names.{Records}

-- the first two of the records are those of `in` and `out`
abbrev pub outset_records : Records → (input output : ℕ) → Records
outset_records rs i o = slice_set (slice_set rs 0 (linked 0 (Place i) 0)) 1 (linked 1 (Place o) 1)

-- both were entered into an empty list, and are seen
pub record Outset (rs : Records) (input output : ℕ) (rs' : Records) (t h : ℕ) : Type 0 where
  pub records : rs' ≡ outset_records rs input output
  pub top : t ≡ 2
  pub head : h ≡ 2

-- the units left, or the stop
abbrev pub units_left : Result ℕ Stop → Memory → Out (Unit {0})
units_left (Ok u) σ = ended tt σ u
units_left (Err s) σ = stopped s σ

-- a number and the units left, or the stop
abbrev pub number_left : Result (ℤ × ℕ) Stop → Memory → Out ℤ
number_left (Ok p) σ = ended p.0 σ p.1
number_left (Err s) σ = stopped s σ

-- the rule's command, with `in` and `out` at these locations
abbrev pub whole_command : (limit input output : ℕ) → Com → Step (Unit {0})
whole_command limit input output c = does limit ((1, place output) ∷ (0, place input) ∷ []) c

-- and then what `out` holds
abbrev pub whole_result : (limit input output : ℕ) → Com → Step ℤ
whole_result limit input output c =
    whole_command limit input output c >>= λ _. fetch output >>= λ v. answered (as_whole v)
