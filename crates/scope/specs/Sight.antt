-- The names in sight: a chain of records. A position is the number of a record, counted from 1, or 0, from which
-- nothing is in sight; each record links to a position below its own.
use Rattle.std.specs.Prelude.{◌≡◌, ℕ, zero, suc, ◌<◌, ◌≤◌, cond, List, [], ◌∷◌, Some, None, Option, ◌==◌}
use Rattle.std.specs.List.{slice_get}
use Rattle.language.specs.Sight.{Sight}
use Rattle.scope.specs.declared.Record.{Record}

module _ {E : Type 0} where
  -- a record's name and entry, then what is in sight from its link
  abbrev pub step : Option (Record E) → (ℕ → Sight E) → Sight E
  step None go = []
  step (Some r) go = (r.name, r.entry) ∷ go r.next

  -- what is in sight from h among the first k records
  unfoldable pub scan : List (Record E) → ℕ → ℕ → Sight E
  scan rs zero h = []
  scan rs (suc k) h = cond (h == suc k) (step (slice_get rs k) (scan rs k)) (scan rs k h)

  -- what is in sight from a position, the latest first
  abbrev pub in_sight : List (Record E) → ℕ → Sight E
  in_sight rs h = scan rs h h

  -- each of the first top records links to a position below its own
  abbrev pub Down : List (Record E) → ℕ → Type 0
  Down rs top = (i : ℕ) (r : Record E) → i < top → slice_get rs i ≡ Some r → r.next ≤ i
