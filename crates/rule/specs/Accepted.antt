-- Tables that were accepted, and the answer of check without the rule.
use Rattle.std.specs.Prelude.{◌≡◌, ℕ, Bool, true, false, ◌&&◌, List, length, Ok, Err, Result, ◌==◌}
use Rattle.language.specs.declared.tables.Node.{Node}
use Rattle.language.specs.declared.faults.Fault.{Fault}
use Rattle.language.specs.Tree.{Com}
use Rattle.language.specs.Check.{right_size, read_rule}

abbrev pub has_need : Result (Com × ℕ) Fault → ℕ → Bool
has_need (Ok p) n = p.1 == n
has_need (Err f) n = false

-- a table of the right size that is a rule with this need; a test, since a ghost field wants a proposition
abbrev pub accepted : List Node → ℕ → Bool
accepted nodes need = right_size (length nodes) && has_need (read_rule nodes) need

-- the table is of the right size and reads as a rule with this need
pub record Accepted (nodes : List Node) (need : ℕ) : Type 0 where
  pub rule : Com
  pub reads : read_rule nodes ≡ Ok (rule, need)
  pub sized : right_size (length nodes) ≡ true

-- an answer with the need alone, and with neither
abbrev pub need_of : Result (Com × ℕ) Fault → Result ℕ Fault
need_of (Ok p) = Ok p.1
need_of (Err f) = Err f

abbrev pub verdict : Result (Com × ℕ) Fault → Result (Unit {0}) Fault
verdict (Ok p) = Ok tt
verdict (Err f) = Err f
