-- What is known of an accepted rule. Assumes nothing.
use Rattle.std.proofs.Common.{◌≡◌, ℕ, ◌+◌, ◌≤◌, leb, List, [], ◌∷◌, length, ℤ, Ok, Err, sym, refl, ap, ◌∙◌, arith}
use Rattle.std.proofs.lemmas.List.{length-append}
use Rattle.std.proofs.lemmas.Bool.{and_parts, leb-true}
use Rattle.language.specs.declared.values.Stop.TheVariants.{Stuck}
use Rattle.language.specs.Tree.{Decl, Arg, Expr, Com, Procs, Coms, truth, whole, read, plus, less, or, null, assign, if, while, call, block, pnil, pcons, cnil, ccons}
use Rattle.language.specs.Table.{build}
use Rattle.language.specs.Names.{check_com, check_rule, outset}
use Rattle.language.specs.Spelling.{spell_expr, spell_args, spell_decls, spell, spell_procs, spell_coms, size_expr, size, size_procs, size_coms}
use Rattle.language.specs.Reference.{answer}
use Rattle.language.proofs.Binds.{bind_ok, ok_is}
use Rattle.language.proofs.Read.{built_exactly}
use Rattle.language.proofs.Sound.{never_stuck}
use Rattle.rule.proofs.Bounds.{com_bound}
use Rattle.history.specs.States.{Accepted}

expr_long : (e : Expr) → length (spell_expr e) ≡ size_expr e
expr_long (truth b) = refl
expr_long (whole z) = refl
expr_long (read i m) = refl
expr_long (plus i e f) = simp length-append (omega (arith, expr_long e, expr_long f))
expr_long (less i e f) = simp length-append (omega (arith, expr_long e, expr_long f))
expr_long (or i e f) = simp length-append (omega (arith, expr_long e, expr_long f))

args_long : (xs : List Arg) → length (spell_args xs) ≡ length xs
args_long [] = refl
args_long (x ∷ xs) = omega (arith, args_long xs)

decls_long : (ds : List Decl) → length (spell_decls ds) ≡ length ds
decls_long [] = refl
decls_long (d ∷ ds) = omega (arith, decls_long ds)

mutual
  spell_long : (c : Com) → length (spell c) ≡ size c
  spell_long (null i) = refl
  spell_long (assign i m e) = simp length-append (omega (arith, expr_long e))
  spell_long (if i e c d) = simp length-append (omega (arith, expr_long e, spell_long c, spell_long d))
  spell_long (while i e c) = simp length-append (omega (arith, expr_long e, spell_long c))
  spell_long (call i m xs) = simp length-append (omega (arith, args_long xs))
  spell_long (block i ds ps cs) = simp length-append (omega (arith, decls_long ds, procs_long ps, coms_long cs))

  procs_long : (ps : Procs) → length (spell_procs ps) ≡ size_procs ps
  procs_long pnil = refl
  procs_long (pcons i m fs c ps) = simp length-append (omega (arith, decls_long fs, spell_long c, procs_long ps))

  coms_long : (cs : Coms) → length (spell_coms cs) ≡ size_coms cs
  coms_long cnil = refl
  coms_long (ccons c cs) = simp length-append (omega (arith, spell_long c, coms_long cs))

record Parts (r : Accepted) : Type 0 where
  built : build r.table ≡ Ok r.tree
  checked : check_rule r.tree ≡ Ok r.need

parts : (r : Accepted) → Parts r
parts r =
    let (c, built, q) = bind_ok (build r.table) _ (r.tree, r.need) r.reads in
    let (n, checked, e) = bind_ok (check_rule c) _ (r.tree, r.need) q in
    let same = ok_is e in
    let is : c ≡ r.tree = ap (λ x. x.0) same in
    let needs : n ≡ r.need = ap (λ x. x.1) same in
    record {
      built = built ∙ ap Ok is;
      checked = ap check_rule (sym is) ∙ checked ∙ ap Ok needs;
    }

pub passed : (r : Accepted) → check_rule r.tree ≡ Ok r.need
passed r = (parts r).checked

small : (r : Accepted) → r.need ≤ 65536
small r =
    let p = parts r in
    let (n, checked, e) = bind_ok (check_com outset r.tree) _ r.need p.checked in
    let is : n + 2 ≡ r.need = ok_is e in
    let b = com_bound r.tree 0 outset n (tt, (tt, tt)) checked in
    let l = ap length ((built_exactly r.table r.tree).0 p.built).0 in
    let s = spell_long r.tree in
    let m : length r.table ≤ 4096 = leb-true (length r.table) 4096 (and_parts (leb 1 (length r.table)) (leb (length r.table) 4096) r.sized).1 in
    omega arith

pub not_stuck : (r : Accepted) (step : ℤ) (a : ℕ) → answer r.tree step a ≡ Err Stuck → ⊥
not_stuck r step a = never_stuck r.tree r.need step a (passed r) (small r)
