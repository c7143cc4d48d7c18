-- Calls by value, and what each of them asks.
use Rattle.std.specs.Prelude.{◌≡◌, ℕ, List, [], ◌∷◌, ◌++◌, map, length, pos, Ok, Err, Result, slice_index_or}
use Rattle.std.specs.Borrow.{Bor}
use Rattle.language.specs.declared.tables.Node.{Node}
use Rattle.language.specs.declared.faults.Fault.{Fault}
use Rattle.language.specs.Tree.{Com}
use Rattle.language.specs.Spelling.{node}
use Rattle.language.specs.Check.{check}
use Rattle.store.specs.declared.Store.{Ghosts}
use Rattle.history.specs.States as calls
use Rattle.history.specs.States.{Accepted, State, Reply}
use Rattle.history.specs.Histories.{History, Start, high_dead, Reached}
use Rattle.history.specs.Promise.{Here}
use Rattle.piece.specs.declared.lists.ReplayLists.{ReplayLists}
use Rattle.piece.specs.declared.lists.Call.{Call}
use Rattle.piece.specs.declared.lists.Call.TheVariants.{Lay, Open, Grade, Keep, Undo, Show}

-- the table at a place of the list; past its end the empty one
abbrev pub table_at : List (Bor (List Node)) → ℕ → List Node
table_at ts i = slice_index_or (map (λ x. x.now) ts) i []

-- the rule to grade by: the table if check accepts it, and else the one that does nothing
abbrev pub chosen : Result (Com × ℕ) Fault → List Node → List Node
chosen (Ok c) nodes = nodes
chosen (Err f) nodes = node 6 0 (pos 0) 0 0 0 ∷ []

-- the lengths of three work lists
abbrev pub Lists : Type 0
Lists = ℕ × ℕ × ℕ

-- of a replay's lists: those of a check, and those of a run
abbrev pub check_lengths : ReplayLists → Lists
check_lengths lists = (length lists.lens.now, length lists.names.now, length lists.types.now)

abbrev pub run_lengths : ReplayLists → Lists
run_lengths lists = (length lists.lens.now, length lists.bindings.now, length lists.levels.now)

abbrev pub SameLengths : ReplayLists → ReplayLists → Type 0
SameLengths before after = (check_lengths after ≡ check_lengths before) × (run_lengths after ≡ run_lengths before)

abbrev pub checked : List Node → Lists → List Node
checked nodes l = chosen (check nodes l.0 l.1 l.2) nodes

-- what a call asks of the piece, where check and grade have these work lists
abbrev pub Meant : List (Bor (List Node)) → Lists → Lists → Call → calls.Call → Type 0
Meant ts l w (Lay n) c = c ≡ calls.lay n
Meant ts l w (Open t) c = c ≡ calls.open_to t
Meant ts l w (Grade q) c = (r : Accepted) × (r.table ≡ checked (table_at ts q.table) l) × (c ≡ calls.grade q.ticket q.point r q.allowance w)
Meant ts l w (Keep m) c = c ≡ calls.keep m
Meant ts l w (Undo m) c = c ≡ calls.undo m
Meant ts l w (Show k) c = c ≡ calls.show k

-- a history, the latest event first, of these calls with these answers
abbrev pub Told : List (Bor (List Node)) → Lists → Lists → List Call → List Reply → History → Type 0
Told ts l w cs xs [] = (cs ≡ []) × (xs ≡ [])
Told ts l w cs xs (e ∷ h) =
    (c : Call) × (before : List Call) × (told : List Reply)
    × (cs ≡ before ++ c ∷ []) × (xs ≡ told ++ e.1 ∷ []) × Meant ts l w c e.0 × Told ts l w before told h

-- a piece set down on the store and asked these calls gives these answers, and all that is promised of its history holds
pub record Replayed (p : Start) (ts : List (Bor (List Node))) (l w : Lists) (cs : List Call) (xs : List Reply) : Type 0 where
  pub history : History
  pub told : Told ts l w cs xs history
  pub after : State
  pub reached : Reached p history after
  pub here : Here p history after

-- a piece at its beginning, on a store
abbrev pub start : {S : Type 0} → Ghosts S → S → ℕ → Start
start g s n = record { number = n; limit = g.bound s; held = g.at s; low = high_dead (g.at s) (g.low s) }
