-- All questions of check, in their order: the first no is the answer, else the rule and its need.
use Rattle.std.specs.Prelude.{ℕ, ◌+◌, Bool, ◌&&◌, List, length, Ok, Result, nat_le}
use Rattle.language.specs.declared.tables.Node.{Node}
use Rattle.language.specs.declared.faults.Fault.{Fault}
use Rattle.language.specs.declared.faults.TableCause.TheVariants.{Length, WorkLists}
use Rattle.language.specs.Results.{◌>>=◌, asked}
use Rattle.language.specs.Tree.{Com}
use Rattle.language.specs.Table.{refusal, build}
use Rattle.language.specs.Names.{check_rule}

-- 1 to 4,096 nodes
abbrev pub right_size : ℕ → Bool
right_size n = nat_le 1 n && nat_le n 4096

-- each of the three work lists at least two records longer than a table of n nodes
abbrev pub long_enough : ℕ → (l m k : ℕ) → Bool
long_enough n l m k = nat_le (n + 2) l && nat_le (n + 2) m && nat_le (n + 2) k

-- the form and the names, of a table that the two questions above let pass
abbrev pub read_rule : List Node → Result (Com × ℕ) Fault
read_rule nodes = build nodes >>= λ c. check_rule c >>= λ need. Ok (c, need)

abbrev pub check : List Node → (l m k : ℕ) → Result (Com × ℕ) Fault
check nodes l m k =
    asked (right_size (length nodes)) (refusal Length 0) >>= λ _.
    asked (long_enough (length nodes) l m k) (refusal WorkLists 0) >>= λ _. read_rule nodes
