-- The names in sight, as the check keeps them.
use Rattle.std.specs.Prelude.{◌≡◌, ℕ, ◌+◌, ◌≤◌, List, [], ◌∷◌, length, take, drop, Some, None, Ok, Err, Option, Result}
use Rattle.language.specs.declared.tables.Node.{Node}
use Rattle.language.specs.declared.values.Scalar.{Scalar}
use Rattle.language.specs.declared.faults.Fault.{Fault}
use Rattle.language.specs.Table.{type_of}
use Rattle.language.specs.Sight.{Sight, look}
use Rattle.language.specs.Names as N
use Rattle.scope.specs.Sight.{in_sight}
use Rattle.rule.specs.declared.checker.Checker.{Checker}
use Rattle.rule.specs.declared.entries.Routine.{Routine}
use Rattle.rule.specs.declared.entries.Entry.{Entry}
use Rattle.rule.specs.declared.entries.Entry.TheVariants.{Variable, Procedure, Hidden}

abbrev pub Names : Type 0
Names = Sight N.Entry

-- the types of declarations
abbrev pub types_in : List Node → List Scalar
types_in [] = []
types_in (n ∷ ns) = type_of n.value ∷ types_in ns

-- what an entry stands for
abbrev pub seen : List Node → Option Entry → Option N.Entry
seen table None = None
seen table (Some (Variable t)) = Some (N.variable t)
seen table (Some (Procedure r)) = Some (N.procedure (types_in (take r.count (drop r.first table))) r.need)
seen table (Some Hidden) = None

-- the formals of a procedure stand in the table
abbrev pub Stands : List Node → Option Entry → Type 0
Stands table None = Unit {0}
Stands table (Some (Variable t)) = Unit {0}
Stands table (Some (Procedure r)) = r.first + r.count ≤ length table
Stands table (Some Hidden) = Unit {0}

-- every name stands for the same in both
pub record Looks (table : List Node) (σ : List (ℕ × Entry)) (ρ : Names) : Type 0 where
  pub says : (m : ℕ) → seen table (look m σ) ≡ look m ρ
  pub stands : (m : ℕ) → Stands table (look m σ)

-- what is in sight from a position
abbrev pub sight_from : Checker → ℕ → List (ℕ × Entry)
sight_from k h = in_sight k.scope.records.now h

abbrev pub sight : Checker → List (ℕ × Entry)
sight k = sight_from k k.scope.head

-- what is in sight agrees, or what is in sight from a position
abbrev pub Sees : Checker → Names → Type 0
Sees k ρ = Looks k.table.now (sight k) ρ

abbrev pub SeesFrom : Checker → ℕ → Names → Type 0
SeesFrom k h ρ = Looks k.table.now (sight_from k h) ρ

abbrev pub room : Checker → ℕ
room k = length k.scope.records.now

-- what was found of a procedure
abbrev pub RoutineSaid : List Node → Result Routine Fault → Result (List Scalar × ℕ) Fault → Type 0
RoutineSaid table (Ok q) o = (o ≡ Ok (types_in (take q.count (drop q.first table)), q.need)) × (q.first + q.count ≤ length table)
RoutineSaid table (Err f) o = o ≡ Err f

-- b is a with d records more, and what a had in sight can still be seen from there
pub record Grown (a b : Checker) (d : ℕ) : Type 0 where
  pub table : b.table.now ≡ a.table.now
  pub top : b.scope.top ≡ a.scope.top + d
  pub long : room b ≡ room a
  pub older : (h : ℕ) → h ≤ a.scope.top → sight_from b h ≡ sight_from a h

-- b is a, seen from the position h
pub record Turned (a b : Checker) (h : ℕ) : Type 0 where
  pub table : b.table.now ≡ a.table.now
  pub records : b.scope.records.now ≡ a.scope.records.now
  pub top : b.scope.top ≡ a.scope.top
  pub head : b.scope.head ≡ h

-- b has what a has, up to the record t, seen from the position h
pub record Returned (a b : Checker) (t h : ℕ) : Type 0 where
  pub table : b.table.now ≡ a.table.now
  pub records : b.scope.records.now ≡ a.scope.records.now
  pub top : b.scope.top ≡ t
  pub head : b.scope.head ≡ h

-- b sees what a sees
pub record Kept (a b : Checker) : Type 0 where
  pub table : b.table.now ≡ a.table.now
  pub top : b.scope.top ≡ a.scope.top
  pub head : b.scope.head ≡ a.scope.head
  pub long : room b ≡ room a
  pub older : (h : ℕ) → h ≤ a.scope.top → sight_from b h ≡ sight_from a h

-- no procedure in sight needs more than B
abbrev pub Below : ℕ → N.Entry → Type 0
Below B (N.variable t) = Unit {0}
Below B (N.procedure ts n) = n ≤ B

abbrev pub Bounded : ℕ → Names → Type 0
Bounded B [] = Unit {0}
Bounded B (e ∷ ρ) = Below B e.1 × Bounded B ρ
