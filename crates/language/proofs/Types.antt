-- Types that are alike are equal, and what an accepted use of a name found.
use Rattle.std.proofs.Common.{◌≡◌, ℕ, true, List, [], ◌∷◌, Some, None, Ok, Option, refl, ap}
use Rattle.std.proofs.lemmas.Bool.{and_parts, and_from, false≢true}
use Rattle.language.specs.declared.values.Scalar.{Scalar}
use Rattle.language.specs.declared.values.Scalar.TheVariants.{Whole as wholes, Truth as truths}
use Rattle.language.specs.Values.{alike}
use Rattle.language.specs.Names.{Entry, variable, procedure, all_alike, as_variable, as_procedure}
use Rattle.language.proofs.Binds.{no_ok, ok_is}

pub alike_eq : (t u : Scalar) → alike t u ≡ true → t ≡ u
alike_eq wholes wholes h = refl
alike_eq wholes truths h = absurd (false≢true h)
alike_eq truths wholes h = absurd (false≢true h)
alike_eq truths truths h = refl

pub alike_self : (t : Scalar) → alike t t ≡ true
alike_self wholes = refl
alike_self truths = refl

pub all_alike_eq : (ts us : List Scalar) → all_alike ts us ≡ true → ts ≡ us
all_alike_eq [] [] h = refl
all_alike_eq [] (u ∷ us) h = absurd (false≢true h)
all_alike_eq (t ∷ ts) [] h = absurd (false≢true h)
all_alike_eq (t ∷ ts) (u ∷ us) h =
    let (p, q) = and_parts (alike t u) (all_alike ts us) h in
    cc (alike_eq t u p, all_alike_eq ts us q)

pub all_alike_self : (ts : List Scalar) → all_alike ts ts ≡ true
all_alike_self [] = refl
all_alike_self (t ∷ ts) = and_from (alike t t) (all_alike ts ts) (alike_self t) (all_alike_self ts)

pub variable_found : (i : ℕ) (o : Option Entry) (t : Scalar) → as_variable i o ≡ Ok t → o ≡ Some (variable t)
variable_found i None t h = absurd (no_ok _ t h)
variable_found i (Some (variable u)) t h = ap (λ t. Some (variable t)) (ok_is h)
variable_found i (Some (procedure ts n)) t h = absurd (no_ok _ t h)

pub procedure_found : (i : ℕ) (o : Option Entry) (p : List Scalar × ℕ) → as_procedure i o ≡ Ok p → o ≡ Some (procedure p.0 p.1)
procedure_found i None p h = absurd (no_ok _ p h)
procedure_found i (Some (variable t)) p h = absurd (no_ok _ p h)
procedure_found i (Some (procedure ts n)) p h = ap (λ (p : List Scalar × ℕ). Some (procedure p.0 p.1)) (ok_is h)
