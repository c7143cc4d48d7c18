-- What a store means: a map from locations to values, and how many locations are live.
use Rattle.std.specs.Prelude.{ℕ, zero, suc, ◌+◌, cond, Some, None, Option, ◌==◌}
use Rattle.language.specs.declared.values.Value.{Value}

-- what each location holds, if it is live
abbrev pub Memory : Type 0
Memory = ℕ → Option Value

-- the map f, with w at l
abbrev pub put : Memory → ℕ → Option Value → Memory
put f l w q = cond (q == l) w (f q)

abbrev pub one : Option Value → ℕ
one None = 0
one (Some v) = 1

-- how many of the first n locations are live
unfoldable pub live_below : Memory → ℕ → ℕ
live_below f zero = 0
live_below f (suc n) = live_below f n + one (f n)

-- how many locations are live: none is past 65,535
unfoldable pub live : Memory → ℕ
live f = live_below f 65536
