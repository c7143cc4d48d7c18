-- What is said of a table, with room for so many lengths, and what is noted of it.
use Rattle.std.specs.Prelude.{◌≡◌, ℕ, List, length, Ok, Err, Result, nat_le, nat_lt}
use Rattle.language.specs.declared.tables.Node.{Node}
use Rattle.language.specs.declared.faults.Fault.{Fault}
use Rattle.language.specs.declared.faults.TableCause.TheVariants.{Length, WorkLists}
use Rattle.language.specs.Results.{◌>>=◌, asked}
use Rattle.language.specs.Table.{refusal, build}
use Rattle.language.specs.Spelling.{size}
use Rattle.language.specs.Tree.{Com}
use Rattle.table.specs.Stretches.{ComAt}

-- an empty table, a list with too little room, and then the first refusal of the table
abbrev pub measured : List Node → ℕ → Result (Unit {0}) Fault
measured ns room =
    asked (nat_lt 0 (length ns)) (refusal Length 0) >>= λ _.
    asked (nat_le (length ns) room) (refusal WorkLists 0) >>= λ _. build ns >>= λ _. Ok tt

-- the lengths in ls are those of the rule's pieces, and the rule takes up the whole table
pub record Lengths (ns : List Node) (ls : List ℕ) : Type 0 where
  pub rule : Com
  pub built : build ns ≡ Ok rule
  pub stands : ComAt ns ls 0 0 rule
  pub whole : size rule ≡ length ns

-- what is noted where a table is a rule
abbrev pub Noted : List Node → List ℕ → Result (Unit {0}) Fault → Type 0
Noted ns ls (Err f) = Unit {0}
Noted ns ls (Ok u) = Lengths ns ls
