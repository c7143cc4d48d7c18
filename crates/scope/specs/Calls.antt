-- What the calls answer, and what they leave.
use Rattle.std.specs.Prelude.{ℕ, cond, ◌&&◌, List, [], ◌∷◌, Some, None, Ok, Err, Option, Result, nat_le, nat_lt}
use Rattle.language.specs.Sight.{Sight}
use Rattle.scope.specs.Sight.{in_sight}
use Rattle.scope.specs.declared.Record.{Record}
use Rattle.scope.specs.declared.NoRoom.{NoRoom}
use Rattle.scope.specs.declared.NotThere.{NotThere}

-- enter, of the records in use and the records there are
abbrev pub enter_answer : ℕ → ℕ → Result (Unit {0}) NoRoom
enter_answer top room = cond (nat_lt top room) (Ok tt) (Err (record {}))

-- back_to and see_from, of what is asked for and the records in use
abbrev pub go_answer : ℕ → ℕ → Result (Unit {0}) NotThere
go_answer asked top = cond (nat_le asked top) (Ok tt) (Err (record {}))

-- restore, of the position and the number of records asked for and the records in use
abbrev pub restore_answer : (position asked top : ℕ) → Result (Unit {0}) NotThere
restore_answer position asked top = cond (nat_le position asked && nat_le asked top) (Ok tt) (Err (record {}))

abbrev pub latest : {E : Type 0} → Sight E → Option E
latest [] = None
latest (e ∷ ρ) = Some e.1

-- entry_at, of the records in use and a position
abbrev pub entered : {E : Type 0} → List (Record E) → ℕ → ℕ → Option E
entered rs top position = cond (nat_le position top) (latest (in_sight rs position)) None

-- a call that is refused changes nothing
abbrev pub after : {A R X : Type 0} → Result A R → (new old : X) → X
after (Ok a) new old = new
after (Err e) new old = old

abbrev pub linked : {E : Type 0} → ℕ → E → ℕ → Record E
linked m e h = record { name = m; entry = e; next = h }
