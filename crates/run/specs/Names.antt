-- The names in sight during a run: records, each linked to an earlier position.
use Rattle.std.specs.Prelude.{◌≡◌, ℕ, zero, suc, ◌+◌, ◌-◌, ◌<◌, ◌≤◌, cond, List, [], ◌∷◌, ◌++◌, get_or, Some, None, Ok, Err, Option, Result, ◌==◌}
use Rattle.language.specs.declared.values.Stop.{Stop}
use Rattle.language.specs.declared.values.Stop.TheVariants.{Stuck}
use Rattle.language.specs.Sight.{look}
use Rattle.scope.specs.declared.Record.{Record}
use Rattle.scope.specs.Sight.{in_sight}
use Rattle.run.specs.declared.bindings.Binding.{Binding}
use Rattle.run.specs.declared.bindings.Binding.TheVariants.{Place, Procedure}
use Rattle.table.specs.Walk.{start_at}

abbrev pub Records : Type 0
Records = List (Record Binding)

abbrev pub no_record : Record Binding
no_record = record { name = 0; entry = Place 0; next = 0 }

abbrev pub record_at : Records → ℕ → Record Binding
record_at rs k = get_or rs k no_record

-- what the name stands for, seen from a position
abbrev pub found : Records → ℕ → ℕ → Option Binding
found rs p m = look m (in_sight rs p)

abbrev pub as_place : Option Binding → Result ℕ Stop
as_place None = Err Stuck
as_place (Some (Place l)) = Ok l
as_place (Some (Procedure i p)) = Err Stuck

abbrev pub as_procedure : Option Binding → Result (ℕ × ℕ) Stop
as_procedure None = Err Stuck
as_procedure (Some (Place l)) = Err Stuck
as_procedure (Some (Procedure i p)) = Ok (i, p)

-- the location of the variable that the name stands for
abbrev pub sees : Records → ℕ → ℕ → Result ℕ Stop
sees rs p m = as_place (found rs p m)

-- the first n records are linked to earlier positions
abbrev pub Linked : Records → ℕ → Type 0
Linked rs n = (k : ℕ) → k < n → (record_at rs k).next ≤ k

-- the records below m are the same
abbrev pub SameBelow : Records → Records → ℕ → Type 0
SameBelow rs rs' m = (k : ℕ) → k < m → record_at rs' k ≡ record_at rs k

-- of a variable, its location
abbrev pub location_of : Binding → ℕ
location_of (Place l) = l
location_of (Procedure i p) = 0

-- the n records from m on are those of variables
abbrev pub VariablesAt : Records → ℕ → ℕ → Type 0
VariablesAt rs m n = (k : ℕ) → m ≤ k → k < m + n → (record_at rs k).entry ≡ Place (location_of (record_at rs k).entry)

-- the locations of the n variables recorded from m on
unfoldable pub locations_from : Records → ℕ → ℕ → List ℕ
locations_from rs m zero = []
locations_from rs m (suc n) = locations_from rs m n ++ (location_of (record_at rs (m + n)).entry ∷ [])

-- along the links from a position, over the first n records
unfoldable pub walk {ℓ} : {A : Type ℓ} → A → (ℕ → (ℕ → A) → A) → ℕ → ℕ → A
walk z f zero p = z
walk z f (suc n) p = cond (p == suc n) (f n (walk z f n)) (walk z f n p)

-- how many nodes more than itself a procedure has, which bounds what a call of it can put on the stack
abbrev pub weight : List ℕ → Binding → ℕ
weight ls (Place l) = 0
weight ls (Procedure i p) = i - start_at ls i

abbrev pub weigh_in : List ℕ → Records → ℕ → (ℕ → ℕ) → ℕ
weigh_in ls rs k on = weight ls (record_at rs k).entry + on (record_at rs k).next

-- the same, of all procedures in sight from a position
abbrev pub weights : List ℕ → Records → ℕ → ℕ
weights ls rs p = walk 0 (weigh_in ls rs) p p
