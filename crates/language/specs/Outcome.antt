-- What is told of a table at a step with an allowance: check's refusal, or what the run gives.
use Rattle.std.specs.Prelude.{ℕ, List, ℤ, Some, None, Ok, Err, Option, Result}
use Rattle.language.specs.declared.tables.Node.{Node}
use Rattle.language.specs.declared.values.Stop.{Stop}
use Rattle.language.specs.declared.values.Stop.TheVariants.{Sum, Unit as UnitStop, Stuck}
use Rattle.language.specs.declared.values.Graded.{Graded}
use Rattle.language.specs.declared.faults.Fault.{Fault}
use Rattle.language.specs.declared.faults.Layer.TheVariants.{Run}
use Rattle.language.specs.declared.faults.RunCause.TheVariants.{Sum as SumCause, Unit as UnitCause}
use Rattle.language.specs.Faults.{fault}
use Rattle.language.specs.Tree.{Com}
use Rattle.language.specs.Check.{check}
use Rattle.language.specs.Reference.{answer}

-- a stuck run has nothing to tell
abbrev pub told : Result Graded Stop → Option (Result Graded Fault)
told (Ok g) = Some (Ok g)
told (Err (Sum i)) = Some (Err (fault (Run SumCause) i))
told (Err (UnitStop i)) = Some (Err (fault (Run UnitCause) i))
told (Err Stuck) = None

abbrev pub outcome_of : Result (Com × ℕ) Fault → ℤ → ℕ → Option (Result Graded Fault)
outcome_of (Err f) step allowance = Some (Err f)
outcome_of (Ok r) step allowance = told (answer r.0 step allowance)

-- with three work lists of l records
abbrev pub outcome : List Node → (l : ℕ) → ℤ → ℕ → Option (Result Graded Fault)
outcome nodes l = outcome_of (check nodes l l l)
