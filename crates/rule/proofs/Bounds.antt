-- A rule needs no more locations than it has nodes.
use Rattle.std.proofs.Common.{◌≡◌, ℕ, ◌+◌, ◌≤◌, max, Bool, true, false, cond, not, eqb, List, [], ◌∷◌, length, Some, None, Ok, Option, ap, subst, arith}
use Rattle.language.proofs.Binds.{bind_ok}
use Rattle.language.specs.declared.values.Scalar.{Scalar}
use Rattle.language.specs.declared.values.Scalar.TheVariants.{Truth as truths}
use Rattle.language.specs.declared.faults.NamesCause.TheVariants.{Repeated, Arguments, Types}
use Rattle.language.specs.Same.{same}
use Rattle.language.specs.Tree.{Decl, Com, Procs, Coms, null, assign, if, while, call, block, pnil, pcons, cnil, ccons}
use Rattle.language.specs.Results.{asked}
use Rattle.language.specs.Values.{alike}
use Rattle.language.specs.Sight.{look, member, without}
use Rattle.language.specs.Names.{Entry, variable, procedure, refusal, variables, proc_names, types, all_alike, as_variable, as_procedure, check_expr, check_args, check_decls, check_com, check_procs, check_coms}
use Rattle.language.specs.Spelling.{size, size_procs, size_coms}
use Rattle.rule.specs.Seen.{Names, Bounded, Below}

below_more : (B D : ℕ) (e : Entry) → B ≤ D → Below B e → Below D e
below_more B D (variable t) le h = tt
below_more B D (procedure ts n) le h = omega arith

pub bounded_more : (B D : ℕ) (ρ : Names) → B ≤ D → Bounded B ρ → Bounded D ρ
bounded_more B D [] le h = tt
bounded_more B D (e ∷ ρ) le h = (below_more B D e.1 le h.0, bounded_more B D ρ le h.1)

pub bounded_vars : (B : ℕ) (ds : List Decl) (ρ : Names) → Bounded B ρ → Bounded B (variables ds ρ)
bounded_vars B [] ρ h = h
bounded_vars B (d ∷ ds) ρ h = bounded_vars B ds ((d.name, variable d.type) ∷ ρ) (tt, h)

pub bounded_without : (B : ℕ) (ms : List ℕ) (ρ : Names) → Bounded B ρ → Bounded B (without ms ρ)
bounded_without B ms [] h = tt
bounded_without B ms (e ∷ ρ) h = go (member e.0 ms) (bounded_without B ms ρ h.1)
  where
    go : (b : Bool) → Bounded B (without ms ρ) → Bounded B (cond b (without ms ρ) (e ∷ without ms ρ))
    go true k = k
    go false k = (h.0, k)

bounded_look : (B : ℕ) (m : ℕ) (ρ : Names) (ts : List Scalar) (n : ℕ) → Bounded B ρ → look m ρ ≡ Some (procedure ts n) → n ≤ B
bounded_look B m [] ts n h q = cc
bounded_look B m (e ∷ ρ) ts n h q = go (same m e.0) q (λ k. bounded_look B m ρ ts n h.1 k)
  where
    go : (b : Bool) → cond b (Some e.1) (look m ρ) ≡ Some (procedure ts n) → (look m ρ ≡ Some (procedure ts n) → n ≤ B) → n ≤ B
    go true q k = let z : e.1 ≡ procedure ts n = cc in subst (λ (x : Entry). Below B x) z h.0
    go false q k = k q

as_proc : (i : ℕ) (o : Option Entry) (p : List Scalar × ℕ) → as_procedure i o ≡ Ok p → o ≡ Some (procedure p.0 p.1)
as_proc i None p h = cc
as_proc i (Some (variable t)) p h = cc
as_proc i (Some (procedure ts n)) p h = let z : (ts, n) ≡ p = cc in ap (λ q. Some (procedure q.0 q.1)) z

mutual
  pub com_bound : (c : Com) (B : ℕ) (ρ : Names) (n : ℕ) → Bounded B ρ → check_com ρ c ≡ Ok n → n ≤ B + size c
  com_bound (null i) B ρ n h q = let z : 0 ≡ n = cc in omega arith
  com_bound (assign i m e) B ρ n h q =
      let (t, _, q₁) = bind_ok (check_expr ρ e) _ n q in
      let (u, _, q₂) = bind_ok (as_variable i (look m ρ)) _ n q₁ in
      let (_, _, q₃) = bind_ok (asked (alike t u) (refusal Types i)) _ n q₂ in
      let z : 0 ≡ n = cc in omega arith
  com_bound (if i e c d) B ρ n h q =
      let (t, _, q₁) = bind_ok (check_expr ρ e) _ n q in
      let (x, hx, q₂) = bind_ok (check_com ρ c) _ n q₁ in
      let (y, hy, q₃) = bind_ok (check_com ρ d) _ n q₂ in
      let (_, _, q₄) = bind_ok (asked (alike t truths) (refusal Types i)) _ n q₃ in
      let z : max x y ≡ n = cc in
      omega (arith, com_bound c B ρ x h hx, com_bound d B ρ y h hy)
  com_bound (while i e c) B ρ n h q =
      let (t, _, q₁) = bind_ok (check_expr ρ e) _ n q in
      let (x, hx, q₂) = bind_ok (check_com ρ c) _ n q₁ in
      let (_, _, q₄) = bind_ok (asked (alike t truths) (refusal Types i)) _ n q₂ in
      let z : x ≡ n = cc in
      omega (arith, com_bound c B ρ x h hx)
  com_bound (call i m xs) B ρ n h q =
      let (ts, _, q₁) = bind_ok (check_args ρ xs) _ n q in
      let (p, hp, q₂) = bind_ok (as_procedure i (look m ρ)) _ n q₁ in
      let (_, _, q₃) = bind_ok (asked (eqb (length ts) (length p.0)) (refusal Arguments i)) _ n q₂ in
      let (_, _, q₄) = bind_ok (asked (all_alike ts p.0) (refusal Types i)) _ n q₃ in
      let z : p.1 ≡ n = cc in
      omega (arith, bounded_look B m ρ p.0 p.1 h (as_proc i (look m ρ) p hp))
  com_bound (block i ds ps cs) B ρ n h q =
      let inner = variables ds (without (proc_names ps) ρ) in
      let (_, _, q₁) = bind_ok (check_decls [] ds) _ n q in
      let (ρ₁, hp, q₂) = bind_ok (check_procs inner [] ps (variables ds ρ)) _ n q₁ in
      let (x, hx, q₃) = bind_ok (check_coms ρ₁ cs) _ n q₂ in
      let z : length ds + x ≡ n = cc in
      let b = procs_bound ps B B inner [] (variables ds ρ) ρ₁ (bounded_vars B ds _ (bounded_without B (proc_names ps) ρ h)) (bounded_vars B ds ρ h) (omega arith) hp in
      omega (arith, coms_bound cs (B + size_procs ps) ρ₁ x b hx)

  pub procs_bound : (ps : Procs) (B D : ℕ) (inner : Names) (seen : List ℕ) (ρ τ : Names) → Bounded B inner → Bounded D ρ → B ≤ D
      → check_procs inner seen ps ρ ≡ Ok τ → Bounded (D + size_procs ps) τ
  procs_bound pnil B D inner seen ρ τ h k le q = let z : ρ ≡ τ = cc in subst (λ (x : Names). Bounded (D + 0) x) z (bounded_more D (D + 0) ρ (omega arith) k)
  procs_bound (pcons i m fs c ps) B D inner seen ρ τ h k le q =
      let (_, _, q₁) = bind_ok (check_decls [] fs) _ τ q in
      let (x, hx, q₂) = bind_ok (check_com (variables fs inner) c) _ τ q₁ in
      let (_, _, q₃) = bind_ok (asked (not (member m seen)) (refusal Repeated i)) _ τ q₂ in
      let b : x ≤ B + size c = com_bound c B (variables fs inner) x (bounded_vars B fs inner h) hx in
      let E : ℕ = D + (length fs + size c + 1) in
      let y : E + size_procs ps ≡ D + (length fs + size c + 1 + size_procs ps) = omega arith in
      subst (λ (n : ℕ). Bounded n τ) y
      (procs_bound ps B E inner (m ∷ seen) ((m, procedure (types fs) x) ∷ ρ) τ h
      (omega arith, bounded_more D E ρ (omega arith) k) (omega arith) q₃)

  pub coms_bound : (cs : Coms) (B : ℕ) (ρ : Names) (n : ℕ) → Bounded B ρ → check_coms ρ cs ≡ Ok n → n ≤ B + size_coms cs
  coms_bound cnil B ρ n h q = let z : 0 ≡ n = cc in omega arith
  coms_bound (ccons c cs) B ρ n h q =
      let (x, hx, q₁) = bind_ok (check_com ρ c) _ n q in
      let (y, hy, q₂) = bind_ok (check_coms ρ cs) _ n q₁ in
      let z : max x y ≡ n = cc in
      omega (arith, com_bound c B ρ x h hx, coms_bound cs B ρ y h hy)
