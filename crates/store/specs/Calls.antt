-- What each call of a store answers, and what every location holds afterwards.
use Rattle.std.specs.Prelude.{◌≡◌, ℕ, ◌<◌, cond, Some, None, Ok, Err, Option, Result}
use Rattle.language.specs.declared.values.Value.{Value}
use Rattle.language.specs.Values.{sort, alike}
use Rattle.language.specs.Memory.{Memory, put, live}
use Rattle.store.specs.declared.Full.{Full}
use Rattle.store.specs.declared.Dead.{Dead}
use Rattle.store.specs.declared.WriteRefusal.{WriteRefusal}
use Rattle.store.specs.declared.WriteRefusal.TheVariants.{Dead as NotLive, Kind}

-- take: some location that was not live now holds the value, or the store is full and stays as it was
abbrev pub Taken : (limit : ℕ) (before after : Memory) → Value → Result ℕ Full → Type 0
Taken limit before after v (Ok l) =
    (l < 65536) × (before l ≡ None) × (live before < limit) × (after ≡ put before l (Some v))
Taken limit before after v (Err full) = (live before ≡ limit) × (after ≡ before)

-- read, of what is at the location
abbrev pub read_answer : Option Value → Result Value Dead
read_answer None = Err (record {})
read_answer (Some v) = Ok v

-- write, of what is at the location and the value to be written
abbrev pub write_answer : Option Value → Value → Result (Unit {0}) WriteRefusal
write_answer None v = Err NotLive
write_answer (Some old) v = cond (alike (sort old) (sort v)) (Ok tt) (Err Kind)

-- release, of what is at the location
abbrev pub release_answer : Option Value → Result (Unit {0}) Dead
release_answer None = Err (record {})
release_answer (Some v) = Ok tt

-- a call that was refused leaves the store as it was; else the location holds w
abbrev pub after_call : {A E : Type 0} → Result A E → Memory → ℕ → Option Value → Memory
after_call (Ok a) before l w = put before l w
after_call (Err e) before l w = before
