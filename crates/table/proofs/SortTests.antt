-- The code's test for the same sort.
use Rattle.std.proofs.Common.{◌≡◌, refl}
use denote.Enum.Bare.{sameb}
use Rattle.table.specs.contracts.node.Sort.{the_type}
use Rattle.table.specs.declared.node.Sort.{Sort}
use Rattle.table.specs.declared.node.Sort.TheVariants.{Expression, Command, Argument, Declaration, Procedure}
use Rattle.table.specs.Sorts.{same_sort}

pub tells_sorts : (a b : Sort) → sameb the_type a b ≡ same_sort a b
tells_sorts Expression Expression = refl
tells_sorts Expression Command = refl
tells_sorts Expression Argument = refl
tells_sorts Expression Declaration = refl
tells_sorts Expression Procedure = refl
tells_sorts Command Expression = refl
tells_sorts Command Command = refl
tells_sorts Command Argument = refl
tells_sorts Command Declaration = refl
tells_sorts Command Procedure = refl
tells_sorts Argument Expression = refl
tells_sorts Argument Command = refl
tells_sorts Argument Argument = refl
tells_sorts Argument Declaration = refl
tells_sorts Argument Procedure = refl
tells_sorts Declaration Expression = refl
tells_sorts Declaration Command = refl
tells_sorts Declaration Argument = refl
tells_sorts Declaration Declaration = refl
tells_sorts Declaration Procedure = refl
tells_sorts Procedure Expression = refl
tells_sorts Procedure Command = refl
tells_sorts Procedure Argument = refl
tells_sorts Procedure Declaration = refl
tells_sorts Procedure Procedure = refl
