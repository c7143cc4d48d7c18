-- A call, from what was found of its arguments and its procedure.
use Rattle.std.proofs.Common.{◌≡◌, ℕ, suc, ◌+◌, ◌-◌, ◌≤◌, Bool, true, false, List, [], ◌∷◌, length, take, drop, Ok, Err, Result, MutBor, sym, refl, ap, ◌∙◌, ap₂, arith}
use Rattle.std.proofs.lemmas.List.{length-take-le, length-drop}
use Rattle.std.proofs.lemmas.Bool.{eq-eqb, ne_eqb}
use Rattle.language.specs.declared.tables.Node.{Node}
use Rattle.language.specs.declared.values.Scalar.{Scalar}
use Rattle.language.specs.declared.faults.Fault.{Fault}
use Rattle.language.specs.declared.faults.NamesCause.TheVariants.{Arguments, Types}
use Rattle.language.specs.Sight.{look}
use Rattle.language.specs.Tree.{Arg, call}
use Rattle.language.specs.Names.{refusal, as_procedure, check_args, check_com, all_alike}
use Rattle.rule.specs.declared.checker.Checker.{Checker}
use Rattle.rule.specs.declared.entries.Routine.{Routine}
use Rattle.rule.specs.Seen.{Names, types_in, Kept}
use Rattle.rule.specs.Rows.{ArgsSaid}

pub args_err : (r : Result (Unit {0}) Fault) (f : Fault) (o : Result (List Scalar) Fault) (ts : List Scalar) → r ≡ Err f → o ≡ Err f → ArgsSaid r o ts
args_err r f o ts e h = rw e h

-- other types in the list
pub with_types : {a b : Checker} → Kept a b → (ts : MutBor (List Scalar)) (le : length b.table.now ≤ length ts.now) → Kept a (record { table = b.table; scope = b.scope; types = ts; roomy = le })
with_types k ts le = record { table = k.table; top = k.top; head = k.head; long = k.long; older = k.older }

pub types_long : (ns : List Node) → length (types_in ns) ≡ length ns
types_long [] = refl
types_long (n ∷ ns) = ap suc (types_long ns)

module _ (table : List Node) (ρ : Names) (i m n : ℕ) (xs : List Arg) (ts : List Scalar) (q : Routine) (long : n ≤ length ts)
    (args : check_args ρ xs ≡ Ok (take n ts))
    (found : (as_procedure i (look m ρ) ≡ Ok (types_in (take q.count (drop q.first table)), q.need)) × (q.first + q.count ≤ length table)) where
  formals : List Scalar
  formals = types_in (take q.count (drop q.first table))

  many : length (types_in (take q.count (drop q.first table))) ≡ q.count
  many = types_long (take q.count (drop q.first table)) ∙ length-take-le q.count (drop q.first table) (omega (arith, found.1, length-drop q.first table))

  pub called_count : (f : Fault) → f ≡ refusal Arguments i → (n ≡ q.count → ⊥) → Err f ≡ check_com ρ (call i m xs)
  called_count f e ne =
      rw (e, args, found.0, ne_eqb (length (take n ts)) (length (types_in (take q.count (drop q.first table)))) (λ k. ne (sym (length-take-le n ts long) ∙ k ∙ many))) refl

  -- the formals as the code cut them out
  module _ (fs : List Node) (b : Bool) (cut : fs ≡ take (q.first + q.count - q.first) (drop q.first table)) (same : n ≡ q.count)
      (alike : b ≡ all_alike (take (length fs) ts) (types_in fs)) where
    fs_are : fs ≡ take q.count (drop q.first table)
    fs_are = let e : q.first + q.count - q.first ≡ q.count = omega arith in cut ∙ ap (λ (k : ℕ). take k (drop q.first table)) e

    fs_long : length fs ≡ n
    fs_long = ap (λ (l : List Node). length l) fs_are ∙ length-take-le q.count (drop q.first table) (omega (arith, found.1, length-drop q.first table)) ∙ sym same

    tested : all_alike (take n ts) (types_in (take q.count (drop q.first table))) ≡ b
    tested = sym (alike ∙ ap₂ (λ (k : ℕ) (l : List Node). all_alike (take k ts) (types_in l)) fs_long fs_are)

    counted : length (take n ts) ≡ length (types_in (take q.count (drop q.first table)))
    counted = length-take-le n ts long ∙ same ∙ sym many

    pub called_types : (f : Fault) → f ≡ refusal Types i → b ≡ false → Err f ≡ check_com ρ (call i m xs)
    called_types f e t = rw (e, args, found.0, eq-eqb _ _ counted, tested ∙ t) refl

    pub called_well : b ≡ true → Ok q.need ≡ check_com ρ (call i m xs)
    called_well t = rw (args, found.0, eq-eqb _ _ counted, tested ∙ t) refl
