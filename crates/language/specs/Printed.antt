-- What is printed of a value, of an answer and of a refusal, as its bytes.
use Rattle.std.specs.Prelude.{ℕ, Bool, true, false, List, ◌++◌, codes, decimal}
use Rattle.std.specs.Fmt.{signed_decimal}
use Rattle.language.specs.declared.values.Value.{Value}
use Rattle.language.specs.declared.values.Value.TheVariants.{Truth, Whole}
use Rattle.language.specs.declared.values.Graded.{Graded}
use Rattle.language.specs.declared.faults.Fault.{Fault}
use Rattle.language.specs.Faults.{number_of}

abbrev pub truth_text : Bool → List ℕ
truth_text true = codes "true"
truth_text false = codes "false"

abbrev pub value_text : Value → List ℕ
value_text (Truth b) = truth_text b
value_text (Whole z) = signed_decimal z

-- that it is an answer, the shift and the units
abbrev pub graded_text : Graded → List ℕ
graded_text g = codes "ok " ++ signed_decimal g.shift ++ codes " " ++ decimal g.units

-- that it is none, the number of the question that said no, and the place
abbrev pub fault_text : Fault → List ℕ
fault_text f = codes "no " ++ decimal (number_of f.layer) ++ codes " " ++ decimal f.place
