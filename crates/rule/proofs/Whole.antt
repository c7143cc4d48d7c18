-- The table as a whole.
use Rattle.std.proofs.Common.{◌≡◌, ℕ, ◌+◌, ◌≤◌, true, List, [], ◌∷◌, length, get_or, take, drop, Ok, Err, Result, sym, refl, ap, ◌∙◌, subst, arith}
use Rattle.std.proofs.lemmas.List.{get_or-take, take_all}
use Rattle.std.proofs.lemmas.Bool.{eqb-true, and_parts}
use Rattle.language.proofs.Binds.{asked_ok}
use Rattle.language.specs.declared.tables.Node.{Node}
use Rattle.language.specs.declared.values.Scalar.TheVariants.{Whole as wholes}
use Rattle.language.specs.declared.faults.Fault.{Fault}
use Rattle.language.specs.Tree.{Com}
use Rattle.language.specs.Results.{◌>>=◌}
use Rattle.language.specs.Table.{build}
use Rattle.language.specs.Names.{variable, outset, check_rule, check_com}
use Rattle.language.specs.Check.{right_size, long_enough, read_rule, check}
use Rattle.table.specs.Stretches.{node_at, ComAt}
use Rattle.table.specs.Measured.{Lengths}
use Rattle.rule.specs.declared.checker.Checker.{Checker}
use Rattle.rule.specs.declared.entries.Entry.TheVariants.{Variable}
use Rattle.rule.specs.declared.parts.Part.{Part}
use Rattle.rule.specs.Pieces.{long, Lies, IsCom}
use Rattle.rule.specs.Seen.{Looks, Sees, sight, room, Grown}
use Rattle.rule.specs.Said.{SomeCom, ComSays}
use Rattle.rule.specs.Accepted.{has_need, accepted, Accepted, need_of, verdict}
use Rattle.rule.proofs.Bounds.{com_bound}
use Rattle.rule.proofs.Cuts.{com_cut}
use Rattle.rule.proofs.Grows.{looks_as}
use Rattle.rule.proofs.Passes.{lies_on}
use Rattle.rule.proofs.Sights.{looks_cons}

-- the part that is all of the table
module _ (p : Part) (ls : List ℕ) (first : p.first ≡ 0) (lens : p.lens.now ≡ take (long p) ls) (enough : long p ≤ length ls) (most : long p ≤ 4096) where
  pub whole_is : (w : Lengths p.nodes.now ls) → IsCom p w.rule
  whole_is w =
      let o : 0 + 0 ≡ p.first = omega arith in
      record {
        at = subst (λ (o : ℕ). ComAt p.nodes.now p.lens.now o 0 w.rule) o
            (com_cut p.nodes.now p.nodes.now ls p.lens.now 0 0 (long p) (λ k lt. ap (node_at p.nodes.now) (omega arith))
            (λ k lt. ap (λ (l : List ℕ). get_or l k 0) lens ∙ get_or-take (long p) ls k 0 lt ∙ ap (λ (i : ℕ). get_or ls i 0) (omega arith))
            w.rule 0 0 (omega arith) (omega (arith, w.whole)) w.stands);
        whole = sym w.whole;
      }

  pub whole_lies : Lies p.nodes.now p
  whole_lies =
      record { nodes = sym (ap (λ (k : ℕ). take (long p) (drop k p.nodes.now)) first ∙ take_all (long p) p.nodes.now (omega arith)); within = omega arith }

-- `in` and `out` are in sight
outset_sees : {a b c : Checker} → sight a ≡ [] → sight b ≡ (0, Variable wholes) ∷ sight a → sight c ≡ (1, Variable wholes) ∷ sight b → Grown a b 1 → Grown b c 1 → Sees c outset
outset_sees {a} {b} {c} h p q g k =
    let empty : Looks a.table.now [] [] = record { says = λ m. refl; stands = λ m. tt } in
    looks_as k.table q (looks_cons b.table.now 1 (Variable wholes) (variable wholes) refl tt
    (looks_as g.table p (looks_cons a.table.now 0 (Variable wholes) (variable wholes) refl tt (looks_as refl h empty))))

-- the checker c at the outset of the check, in which `in` and `out` were entered
module _ (p : Part) (ls : List ℕ) {a b c : Checker} (first : p.first ≡ 0) (lens : p.lens.now ≡ take (long p) ls) (enough : long p ≤ length ls) (most : long p ≤ 4096)
    (w : Lengths p.nodes.now ls) (none : sight a ≡ []) (first_in : sight b ≡ (0, Variable wholes) ∷ sight a) (then_out : sight c ≡ (1, Variable wholes) ∷ sight b) (g : Grown a b 1) (k : Grown b c 1) where
  pub whole_given : a.table.now ≡ p.nodes.now → a.scope.top ≡ 0 → long p + 2 ≤ room a → SomeCom c p
  whole_given table t roomy =
      record {
        c = w.rule;
        is = whole_is p ls first lens enough most w;
        lies = lies_on (k.table ∙ g.table ∙ table) (whole_lies p ls first lens enough most);
        seen = record { ρ = outset; B = 0; looks = outset_sees none first_in then_out g k; bounded = (tt, (tt, tt)); fits = omega arith };
        roomy = omega (arith, g.top, g.long, k.top, k.long);
      }

  pub whole_says : (r : Result ℕ Fault) → ComSays c p r → r ≡ check_com outset w.rule
  whole_says r says = says w.rule outset (whole_is p ls first lens enough most w) (outset_sees none first_in then_out g k)

-- the names of a table that is built
back : (c : Com) (r : Result ℕ Fault) → need_of (r >>= λ need. Ok (c, need)) ≡ r
back c (Ok n) = refl
back c (Err f) = refl

read_is : (ns : List Node) (c : Com) → build ns ≡ Ok c → need_of (read_rule ns) ≡ check_rule c
read_is ns c e = rw e (back c (check_rule c))

module _ {table : List Node} {ls : List ℕ} (w : Lengths table ls) where
  pub whole_bad : (f : Fault) → Err f ≡ check_com outset w.rule → Err f ≡ need_of (read_rule table)
  whole_bad f h = sym (read_is table w.rule w.built ∙ ap (λ (r : Result ℕ Fault). r >>= λ n. Ok (n + 2)) (sym h))

  pub whole_well : (n : ℕ) → Ok n ≡ check_com outset w.rule → Ok (n + 2) ≡ need_of (read_rule table)
  whole_well n h = sym (read_is table w.rule w.built ∙ ap (λ (r : Result ℕ Fault). r >>= λ n. Ok (n + 2)) (sym h))

  pub whole_small : (n : ℕ) → Ok n ≡ check_com outset w.rule → n ≤ length table
  whole_small n h = omega (arith, w.whole, com_bound w.rule 0 outset n (tt, (tt, tt)) (sym h))

-- ---- the test of acceptance
has_reads : (o : Result (Com × ℕ) Fault) (n : ℕ) → has_need o n ≡ true → (c : Com) × (o ≡ Ok (c, n))
has_reads (Ok p) n h = (p.0, ap (λ (m : ℕ). Ok (p.0, m)) (eqb-true p.1 n h))
has_reads (Err f) n h = cc

pub accepted_is : (ns : List Node) (n : ℕ) → accepted ns n ≡ true → Accepted ns n
accepted_is ns n h =
    let (s, r) = and_parts (right_size (length ns)) (has_need (read_rule ns) n) h in
    let (c, e) = has_reads (read_rule ns) n r in
    record { rule = c; reads = e; sized = s }

-- what an answer with a need says of the table
need_ok : (o : Result (Com × ℕ) Fault) (n : ℕ) → Ok n ≡ need_of o → (c : Com) × (o ≡ Ok (c, n))
need_ok (Ok p) n h = let z : n ≡ p.1 = cc in (p.0, ap (λ (m : ℕ). Ok (p.0, m)) (sym z))
need_ok (Err f) n h = cc

pub check_ok : (ns : List Node) (l m k n : ℕ) → Ok n ≡ need_of (check ns l m k) → (verdict (check ns l m k) ≡ Ok tt) × Accepted ns n
check_ok ns l m k n h =
    let w = need_ok (check ns l m k) n h in
    let s = asked_ok (right_size (length ns)) _ _ _ w.1 in
    let e = asked_ok (long_enough (length ns) l m k) _ _ _ s.1 in
    (ap verdict w.1, record { rule = w.0; reads = e.1; sized = s.0 })
