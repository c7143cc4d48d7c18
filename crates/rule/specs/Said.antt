-- What the check of a command asks for, and what it says: for every piece that the part is, and every sight that agrees.
use Rattle.std.specs.Prelude.{◌≡◌, ℕ, ◌+◌, ◌-◌, ◌≤◌, List, [], ◌∷◌, length, take, drop, Ok, Err, Result}
use Rattle.language.specs.declared.tables.Node.{Node}
use Rattle.language.specs.declared.faults.Fault.{Fault}
use Rattle.language.specs.Tree.{Decl, Com, Procs, Coms, block, pnil, pcons}
use Rattle.language.specs.Results.{◌>>=◌}
use Rattle.language.specs.Spelling.{how_many_procs}
use Rattle.language.specs.Names.{types, variables, check_decls, check_com, check_coms, check_procs}
use Rattle.rule.specs.declared.checker.Checker.{Checker}
use Rattle.rule.specs.declared.entries.Entry.{Entry}
use Rattle.rule.specs.declared.entries.Entry.TheVariants.{Hidden}
use Rattle.rule.specs.declared.entries.Routine.{Routine}
use Rattle.rule.specs.declared.parts.Part.{Part}
use Rattle.rule.specs.Pieces.{long, Lies, IsCom, IsComs, IsProc, IsProcs}
use Rattle.rule.specs.Rows.{decls_from}
use Rattle.rule.specs.Seen.{Names, types_in, Looks, Sees, SeesFrom, Bounded, sight, sight_from, room, Grown, Kept}

abbrev pub Entries : Type 0
Entries = List (ℕ × Entry)

-- ---- what is asked for
-- some sight agrees, and z locations more than its procedures need are in range
pub record Sighted (table : List Node) (σ : Entries) (z : ℕ) : Type 0 where
  pub ρ : Names
  pub B : ℕ
  pub looks : Looks table σ ρ
  pub bounded : Bounded B ρ
  pub fits : B + z ≤ 4096

pub record SomeCom (k : Checker) (p : Part) : Type 0 where
  pub c : Com
  pub is : IsCom p c
  pub lies : Lies k.table.now p
  pub seen : Sighted k.table.now (sight k) (long p)
  pub roomy : k.scope.top + long p ≤ room k

pub record SomeComs (k : Checker) (p : Part) : Type 0 where
  pub cs : Coms
  pub is : IsComs p cs
  pub lies : Lies k.table.now p
  pub seen : Sighted k.table.now (sight k) (long p)
  pub roomy : k.scope.top + long p ≤ room k

-- variables, procedures and commands
pub record SomeBlock (k : Checker) (v q r : Part) : Type 0 where
  pub ps : Procs
  pub cs : Coms
  pub procedures : IsProcs q ps
  pub commands : IsComs r cs
  pub procedures_lie : Lies k.table.now q
  pub commands_lie : Lies k.table.now r
  pub seen : Sighted k.table.now (sight k) (long v + long q + long r)
  pub roomy : k.scope.top + (long v + long q + long r) ≤ room k

-- one procedure, whose body sees from the position h
pub record SomeProc (k : Checker) (p : Part) (h : ℕ) : Type 0 where
  pub i : ℕ
  pub m : ℕ
  pub fs : List Decl
  pub c : Com
  pub is : IsProc p i m fs c
  pub lies : Lies k.table.now p
  pub low : h ≤ k.scope.top
  pub seen : Sighted k.table.now (sight_from k h) (long p)
  pub roomy : k.scope.top + (long p - 1) ≤ room k

-- a row of them, whose names are hidden already
pub record SomeProcs (k : Checker) (p : Part) (h : ℕ) : Type 0 where
  pub ps : Procs
  pub is : IsProcs p ps
  pub lies : Lies k.table.now p
  pub low : h ≤ k.scope.top
  pub seen : Sighted k.table.now (sight_from k h) (long p)
  pub roomy : k.scope.top + long p ≤ room k + how_many_procs ps

-- ---- what is said
abbrev pub ComSays : Checker → Part → Result ℕ Fault → Type 0
ComSays k p r = (c : Com) (ρ : Names) → IsCom p c → Sees k ρ → r ≡ check_com ρ c

abbrev pub ComsSays : Checker → Part → Result ℕ Fault → Type 0
ComsSays k p r = (cs : Coms) (ρ : Names) → IsComs p cs → Sees k ρ → r ≡ check_coms ρ cs

abbrev pub BlockSays : Checker → (v q r : Part) → Result ℕ Fault → Type 0
BlockSays k v q r o =
    (i : ℕ) (ps : Procs) (cs : Coms) (ρ : Names) → IsProcs q ps → IsComs r cs → Sees k ρ
    → o ≡ check_com ρ (block i (decls_from v.first v.nodes.now) ps cs)

-- the formals and the body of one procedure
abbrev pub body_said : Names → List Decl → Com → Result ℕ Fault
body_said ρ fs c = check_decls [] fs >>= λ _. check_com (variables fs ρ) c

abbrev pub RoutineIs : List Node → Result Routine Fault → List Decl → Result ℕ Fault → Type 0
RoutineIs table (Ok q) fs o = (o ≡ Ok q.need) × (types_in (take q.count (drop q.first table)) ≡ types fs) × (q.first + q.count ≤ length table)
RoutineIs table (Err f) fs o = o ≡ Err f

-- the body sees from the position h
abbrev pub ProcSays : Checker → Part → ℕ → Result Routine Fault → Type 0
ProcSays k p h r = (i m : ℕ) (fs : List Decl) (c : Com) (ρ : Names) → IsProc p i m fs c → SeesFrom k h ρ → RoutineIs k.table.now r fs (body_said ρ fs c)

abbrev pub ProcsSaid : Checker → Result (Unit {0}) Fault → Result Names Fault → Type 0
ProcsSaid k (Ok u) o = (υ : Names) × (o ≡ Ok υ) × Sees k υ
ProcsSaid k (Err f) o = o ≡ Err f

-- the bodies see from the position h, and afterwards b sees the procedures
abbrev pub ProcsSays : Checker → Part → ℕ → Result (Unit {0}) Fault → Checker → Type 0
ProcsSays a p h r b =
    (ps : Procs) (ρ τ : Names) → IsProcs p ps → SeesFrom a h ρ → Sees a τ → ProcsSaid b r (check_procs ρ [] ps τ)

-- what a refusal leaves is open
abbrev pub KeptIf : {X : Type 0} → Result X Fault → Checker → Checker → Type 0
KeptIf (Ok x) a b = Kept a b
KeptIf (Err f) a b = Unit {0}

abbrev pub GrownIf : {X : Type 0} → Result X Fault → Checker → Checker → ℕ → Type 0
GrownIf (Ok x) a b d = Grown a b d
GrownIf (Err f) a b d = Unit {0}

-- ---- the names of procedures
abbrev pub hidden : List ℕ → Entries → Entries
hidden [] σ = σ
hidden (m ∷ ms) σ = (m, Hidden) ∷ hidden ms σ

-- the names so far, the latest first
abbrev pub seen_after : Procs → List ℕ → List ℕ
seen_after pnil seen = seen
seen_after (pcons i m fs c ps) seen = seen_after ps (m ∷ seen)
