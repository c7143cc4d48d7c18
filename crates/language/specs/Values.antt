-- Values and their types, the range of the numbers, and the three operators.
use Rattle.std.specs.Prelude.{ℕ, ◌^◌, Bool, true, false, cond, ◌||◌, ℤ, pos, ◌+ℤ◌, Ok, Err, Result, int_lt, nat_lt}
use Rattle.std.specs.Int.Signed.{mag}
use Rattle.language.specs.declared.values.Scalar.{Scalar}
use Rattle.language.specs.declared.values.Scalar.TheVariants.{Whole as wholes, Truth as truths}
use Rattle.language.specs.declared.values.Value.{Value}
use Rattle.language.specs.declared.values.Value.TheVariants.{Whole as whole_value, Truth as truth_value}
use Rattle.language.specs.declared.values.Stop.{Stop}
use Rattle.language.specs.declared.values.Stop.TheVariants.{Sum, Stuck}

-- the numbers that the engine has: signed, of 32 bits
abbrev pub fits : ℤ → Bool
fits z = nat_lt (mag z) (2 ^ 31)

abbrev pub sort : Value → Scalar
sort (truth_value b) = truths
sort (whole_value z) = wholes

abbrev pub alike : Scalar → Scalar → Bool
alike wholes wholes = true
alike wholes truths = false
alike truths wholes = false
alike truths truths = true

-- what a variable holds when it is taken
abbrev pub initial_value : Scalar → Value
initial_value wholes = whole_value (pos 0)
initial_value truths = truth_value false

-- the plus at the node i
abbrev pub sum : ℕ → Value → Value → Result Value Stop
sum i (truth_value b) w = Err Stuck
sum i (whole_value x) (truth_value c) = Err Stuck
sum i (whole_value x) (whole_value y) = cond (fits (x +ℤ y)) (Ok (whole_value (x +ℤ y))) (Err (Sum i))

abbrev pub less_than : Value → Value → Result Value Stop
less_than (truth_value b) w = Err Stuck
less_than (whole_value x) (truth_value c) = Err Stuck
less_than (whole_value x) (whole_value y) = Ok (truth_value (int_lt x y))

abbrev pub either_true : Value → Value → Result Value Stop
either_true (whole_value x) w = Err Stuck
either_true (truth_value b) (whole_value y) = Err Stuck
either_true (truth_value b) (truth_value c) = Ok (truth_value (b || c))
