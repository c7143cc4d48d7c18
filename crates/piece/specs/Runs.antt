-- What a grade learns of its run.
use Rattle.std.specs.Prelude.{◌≡◌, ℕ, length, ℤ, pos, Some, Ok, Err, Option, Result}
use Rattle.language.specs.declared.values.Graded.{Graded}
use Rattle.language.specs.declared.faults.Fault.{Fault}
use Rattle.language.specs.declared.faults.Layer.{Layer}
use Rattle.language.specs.declared.faults.Layer.TheVariants.{Table, Names, Run, Piece}
use Rattle.language.specs.Runs.{Out, runs}
use Rattle.run.specs.declared.runs.RunLists.{RunLists}
use Rattle.history.specs.Histories.{RunAnswer, run_refusal}
use Rattle.history.specs.Promise.{Tells}
use Rattle.history.specs.States.{Accepted, Mode, bare, laid, opened, State, store_of, at_point}

-- a grade adds the point to the refusals that come from below
abbrev pub from_below : ℕ → Fault → Layer → Fault
from_below k f (Table cause) = at_point k f
from_below k f (Names cause) = at_point k f
from_below k f (Run cause) = at_point k f
from_below k f (Piece cause) = f

abbrev pub below : ℕ → Result Graded Fault → Result Graded Fault
below k (Ok g) = Ok g
below k (Err f) = Err (from_below k f f.layer)

-- what a run came to, if a grade's result tells of one
abbrev pub run_in : Result Graded Fault → Option RunAnswer
run_in (Ok g) = Some (Ok g)
run_in (Err f) = run_refusal f.layer f.place

-- the lengths of a run's lists
abbrev pub lengths : RunLists → ℕ × ℕ × ℕ
lengths lists = (length lists.lens.now, length lists.names.now, length lists.levels.now)

-- the step of the open resize
abbrev pub new_step : Mode → ℤ
new_step (bare σ) = pos 0
new_step (laid ls zs) = pos 0
new_step (opened t ls zs bs gs) = t

-- a grade that tells of a run tells an outcome of a run of its rule, at the resize's step, on the piece's own store
abbrev pub RanOn : State → Accepted → ℕ → Result Graded Fault → Type 0
RanOn s r a x =
    (y : Result Graded Fault) → run_in x ≡ Some y
    → (o : Out ℤ) × runs s.limit r.tree (new_step s.mode) (store_of s.mode) a o × Tells y a (store_of s.mode) o
