-- What a run of an accepted rule gives, and the run on the store that gives it.
use Rattle.std.specs.Prelude.{◌≡◌, ℕ, ◌-◌, ◌≤◌, true, cond, leb, List, length, ℤ, Some, Ok, Err, Option, Result, ◌≢◌, nat_le}
use Rattle.language.specs.declared.tables.Node.{Node}
use Rattle.language.specs.declared.values.Stop.{Stop}
use Rattle.language.specs.declared.values.Stop.TheVariants.{Stuck}
use Rattle.language.specs.declared.values.Graded.{Graded}
use Rattle.language.specs.declared.faults.Fault.{Fault}
use Rattle.language.specs.declared.faults.Layer.TheVariants.{Piece}
use Rattle.language.specs.declared.faults.PieceCause.TheVariants.{Room}
use Rattle.language.specs.declared.faults.TableCause.TheVariants.{WorkLists}
use Rattle.language.specs.Check.{long_enough, read_rule}
use Rattle.language.specs.Faults.{fault}
use Rattle.language.specs.Memory.{Memory}
use Rattle.language.specs.Outcome.{outcome_of, told}
use Rattle.language.specs.Results.{◌>>=◌, asked}
use Rattle.language.specs.Runs.{ended, stopped, runs}
use Rattle.language.specs.Table.{refusal}
use Rattle.language.specs.Tree.{Com}

-- whether the three lists are long enough, and whether the store has room
abbrev pub questions : (n need l m k limit count : ℕ) → Result (Unit {0}) Fault
questions n need l m k limit count =
    asked (long_enough n l m k) (refusal WorkLists 0) >>= λ _. asked (nat_le need (limit - count)) (fault (Piece Room) 0)

-- the two questions, and then what the rule gives at the step with an allowance of a units
abbrev pub run_answer : List Node → (need : ℕ) → ℤ → (a l m k limit count : ℕ) → Option (Result Graded Fault)
run_answer nodes need step a l m k limit count =
    cond (long_enough (length nodes) l m k)
    (cond (nat_le need (limit - count)) (outcome_of (read_rule nodes) step a) (Some (Err (fault (Piece Room) 0))))
    (Some (Err (refusal WorkLists 0)))

-- both questions say yes, and c is the rule's command
pub record Runnable (nodes : List Node) (need l m k limit count : ℕ) (c : Com) : Type 0 where
  pub reads : read_rule nodes ≡ Ok (c, need)
  pub lists : long_enough (length nodes) l m k ≡ true
  pub room : leb need (limit - count) ≡ true

-- a run of c on a store that means σ, which it leaves as it was, comes to this answer
abbrev pub RunGives : (limit : ℕ) → Com → ℤ → Memory → (a : ℕ) → Result Graded Fault → Type 0
RunGives limit c step σ a (Ok g) = (g.units ≤ a) × runs limit c step σ a (ended g.shift σ (a - g.units))
RunGives limit c step σ a (Err f) =
    (s : Stop) × (s ≢ Stuck) × (told (Err s) ≡ Some (Err f)) × runs limit c step σ a (stopped s σ)

-- no run of c on a store that means σ is stuck
abbrev pub NoStuckRun : (limit : ℕ) → Com → ℤ → Memory → (a : ℕ) → Type 0
NoStuckRun limit c step σ a = (τ : Memory) → runs limit c step σ a (stopped Stuck τ) → ⊥
