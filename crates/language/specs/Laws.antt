-- What is proved of the language as a whole.
use Rattle.std.specs.Prelude.{◌≡◌, ℕ, zero, suc, ◌+◌, ◌-◌, ◌<◌, ◌≤◌, true, cond, ◌↔◌, List, [], ◌∷◌, length, ℤ, Ok, Err, Result, ◌≢◌, slice_index}
use Rattle.language.specs.declared.tables.Node.{Node}
use Rattle.language.specs.declared.values.Stop.{Stop}
use Rattle.language.specs.declared.values.Stop.TheVariants.{Sum, Unit as UnitStop, Stuck}
use Rattle.language.specs.Values.{fits}
use Rattle.language.specs.Memory.{Memory, live}
use Rattle.language.specs.Results.{◌>>=◌}
use Rattle.language.specs.Tree.{Com}
use Rattle.language.specs.Table.{build}
use Rattle.language.specs.Spelling.{Spells}
use Rattle.language.specs.Names.{check_rule}
use Rattle.language.specs.Check.{check}
use Rattle.language.specs.WellFormed.{Formed}
use Rattle.language.specs.Meaning.{begins, adds, Trace, Means}
use Rattle.language.specs.Reference.{graded, answer}
use Rattle.language.specs.Runs.{Out, ended, stopped, runs}

-- a table is read into a tree exactly when it is that tree written out
abbrev pub ReadExactly : Type 0
ReadExactly = (nodes : List Node) (c : Com) → (build nodes ≡ Ok c) ↔ Spells nodes c

-- the names check accepts exactly the well-formed rules
abbrev pub AcceptedExactly : Type 0
AcceptedExactly = (c : Com) → ((need : ℕ) × (check_rule c ≡ Ok need)) ↔ Formed c

-- a table is accepted exactly when its size is right, the work lists are long enough, and it is a well-formed rule written out
abbrev pub JudgedExactly : Type 0
JudgedExactly =
    (nodes : List Node) (l m k : ℕ) (c : Com) →
    ((need : ℕ) × (check nodes l m k ≡ Ok (c, need)))
    ↔ ((1 ≤ length nodes) × (length nodes ≤ 4096) × (length nodes + 2 ≤ l) × (length nodes + 2 ≤ m) × (length nodes + 2 ≤ k)
    × Spells nodes c × Formed c)

-- the commands that began, in order, by their nodes: each takes a unit
abbrev pub commands : Trace → List ℕ
commands [] = []
commands (begins i ∷ t) = i ∷ commands t
commands (adds i z ∷ t) = commands t

abbrev pub units : Trace → ℕ
units t = length (commands t)

-- every sum stays in range
abbrev pub AllFit : Trace → Type 0
AllFit [] = Unit {0}
AllFit (begins i ∷ t) = AllFit t
AllFit (adds i z ∷ t) = (fits z ≡ true) × AllFit t

-- the reference gives a shift exactly when the rule means it, every sum stays in range and the units fit the allowance
abbrev pub GivesExactly : Type 0
GivesExactly =
    (c : Com) (step : ℤ) (allowance : ℕ) (z : ℤ) (u : ℕ) →
    (answer c step allowance ≡ Ok (graded z u))
    ↔ ((t : Trace) × Means c step t z × (units t ≡ u) × (u ≤ allowance) × AllFit t)

-- the first event of a trace that the units or the range do not allow, or else the units left
abbrev pub spend : Trace → ℕ → Result ℕ Stop
spend [] u = Ok u
spend (begins i ∷ t) zero = Err (UnitStop i)
spend (begins i ∷ t) (suc u) = spend t u
spend (adds i z ∷ t) u = cond (fits z) (spend t u) (Err (Sum i))

-- where a rule means something, its meaning settles the answer at every allowance, the place of a stop too
abbrev pub Settled : Type 0
Settled =
    (c : Com) (step : ℤ) (t : Trace) (z : ℤ) → Means c step t z →
    (allowance : ℕ) → answer c step allowance ≡ (spend t allowance >>= λ left. Ok (graded z (allowance - left)))

-- a shift after u units is the answer at every allowance from u on; below u the run stops at the command that wanted the unit
abbrev pub Steady : Type 0
Steady =
    (c : Com) (step : ℤ) (allowance : ℕ) (z : ℤ) (u : ℕ) → answer c step allowance ≡ Ok (graded z u) →
    (t : Trace) × Means c step t z × (units t ≡ u)
    × ((a : ℕ) → u ≤ a → answer c step a ≡ Ok (graded z u))
    × ((a : ℕ) → a < u → answer c step a ≡ Err (UnitStop (slice_index (commands t) a)))

-- an outcome is never stuck, it is the reference's, and the store is as it was
abbrev pub AsAnswered : Com → ℤ → ℕ → Memory → Out ℤ → Type 0
AsAnswered c step a σ (stopped s τ) = (s ≢ Stuck) × (answer c step a ≡ Err s) × (τ ≡ σ)
AsAnswered c step a σ (ended z τ u) = (u ≤ a) × (answer c step a ≡ Ok (graded z (a - u))) × (τ ≡ σ)

-- every run of an accepted rule, on any store with room for its need
abbrev pub SoundRuns : Type 0
SoundRuns =
    (limit : ℕ) (σ : Memory) (c : Com) (need : ℕ) (step : ℤ) (a : ℕ) → check_rule c ≡ Ok need → live σ + need ≤ limit
    → (o : Out ℤ) → runs limit c step σ a o → AsAnswered c step a σ o

-- and there is such a run, where the limit is at most the number of locations
abbrev pub RunsExist : Type 0
RunsExist =
    (limit : ℕ) (σ : Memory) (c : Com) (need : ℕ) (step : ℤ) (a : ℕ) → check_rule c ≡ Ok need → live σ + need ≤ limit → limit ≤ 65536
    → (o : Out ℤ) × runs limit c step σ a o

-- the reference itself is never stuck on an accepted rule
abbrev pub NeverStuck : Type 0
NeverStuck = (c : Com) (need : ℕ) (step : ℤ) (a : ℕ) → check_rule c ≡ Ok need → need ≤ 65536 → answer c step a ≢ Err Stuck
