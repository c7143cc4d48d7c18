-- A rule passes the questions exactly when it is well formed.
use Rattle.std.proofs.Common.{◌≡◌, ℕ, ◌+◌, max, Bool, true, false, cond, not, eqb, ◌↔◌, List, [], ◌∷◌, length, Some, None, Ok, Option, sym, refl, ap, ◌∙◌, subst, arith}
use mathlib.Core.Path.{subst⁻¹}
use Rattle.std.proofs.lemmas.Bool.{or_parts, or_from, eq-eqb, not-true}
use Rattle.language.specs.declared.values.Scalar.{Scalar}
use Rattle.language.specs.declared.values.Scalar.TheVariants.{Whole as wholes, Truth as truths}
use Rattle.language.specs.Tree.{Decl, Arg, Expr, Com, Procs, Coms, truth, whole, read, plus, less, or, null, assign, if, while, call, block, pnil, pcons, cnil, ccons}
use Rattle.language.specs.Values.{alike}
use Rattle.language.specs.Same.{same}
use Rattle.language.specs.Sight.{Sight, look, member, without}
use Rattle.language.specs.Names.{Entry, variable, procedure, all_alike, as_variable, as_procedure, check_expr, check_args, check_decls, types, variables, proc_names, check_com, check_procs, check_coms, outset, check_rule}
use Rattle.language.specs.WellFormed as WF
use Rattle.language.specs.WellFormed.{Attr, Has, Distinct, names, Args, WellFormed, Bodies, AllFormed, Formed}
use Rattle.language.proofs.Types.{variable_found, procedure_found, alike_eq, alike_self, all_alike_eq, all_alike_self}
use Rattle.language.proofs.Checked.{two_operands}
use Rattle.language.proofs.Sameness.{same_swap}
use Rattle.language.proofs.Binds.{bind_ok, asked_ok}

abbrev pub erase_entry : Entry → Attr
erase_entry (variable t) = WF.variable t
erase_entry (procedure ts n) = WF.procedure ts

abbrev pub erase : Sight Entry → Sight Attr
erase [] = []
erase (e ∷ ρ) = (e.0, erase_entry e.1) ∷ erase ρ

abbrev erase_found : Option Entry → Option Attr
erase_found None = None
erase_found (Some e) = Some (erase_entry e)

look_erase : (m : ℕ) (ρ : Sight Entry) → look m (erase ρ) ≡ erase_found (look m ρ)
look_erase m [] = refl
look_erase m (e ∷ ρ) = go (same m e.0) (look_erase m ρ)
  where
    go : (b : Bool) → look m (erase ρ) ≡ erase_found (look m ρ) → cond b (Some (erase_entry e.1)) (look m (erase ρ)) ≡ erase_found (cond b (Some e.1) (look m ρ))
    go true h = refl
    go false h = h

erase_variables : (ds : List Decl) (ρ : Sight Entry) → erase (variables ds ρ) ≡ WF.variables ds (erase ρ)
erase_variables [] ρ = refl
erase_variables (d ∷ ds) ρ = erase_variables ds ((d.name, variable d.type) ∷ ρ)

erase_without : (ms : List ℕ) (ρ : Sight Entry) → erase (without ms ρ) ≡ without ms (erase ρ)
erase_without ms [] = refl
erase_without ms (e ∷ ρ) = go (member e.0 ms) (erase_without ms ρ)
  where
    go : (b : Bool) → erase (without ms ρ) ≡ without ms (erase ρ)
        → erase (cond b (without ms ρ) (e ∷ without ms ρ)) ≡ cond b (without ms (erase ρ)) ((e.0, erase_entry e.1) ∷ without ms (erase ρ))
    go true h = h
    go false h = cc

is_variable : (i m : ℕ) (ρ : Sight Entry) (t : Scalar) → as_variable i (look m ρ) ≡ Ok t → look m (erase ρ) ≡ Some (WF.variable t)
is_variable i m ρ t h = look_erase m ρ ∙ ap erase_found (variable_found i (look m ρ) t h)

be_variable : (i m : ℕ) (ρ : Sight Entry) (t : Scalar) → look m (erase ρ) ≡ Some (WF.variable t) → as_variable i (look m ρ) ≡ Ok t
be_variable i m ρ t h = go (look m ρ) (sym (look_erase m ρ) ∙ h)
  where
    go : (o : Option Entry) → erase_found o ≡ Some (WF.variable t) → as_variable i o ≡ Ok t
    go None h = cc
    go (Some (variable u)) h = cc
    go (Some (procedure ts n)) h = cc

has_type : (ρ : Sight Entry) (e : Expr) (t : Scalar) → check_expr ρ e ≡ Ok t → Has (erase ρ) e t
has_type ρ (truth b) t h = cc
has_type ρ (whole z) t h = cc
has_type ρ (read i m) t h = is_variable i m ρ t h
has_type ρ (plus i e f) t h =
    let (p, q, r) = two_operands wholes wholes t _ (check_expr ρ e) (check_expr ρ f) h in
    (has_type ρ e wholes p, has_type ρ f wholes q, sym r)
has_type ρ (less i e f) t h =
    let (p, q, r) = two_operands wholes truths t _ (check_expr ρ e) (check_expr ρ f) h in
    (has_type ρ e wholes p, has_type ρ f wholes q, sym r)
has_type ρ (or i e f) t h =
    let (p, q, r) = two_operands truths truths t _ (check_expr ρ e) (check_expr ρ f) h in
    (has_type ρ e truths p, has_type ρ f truths q, sym r)

types_as : (ρ : Sight Entry) (e : Expr) (t : Scalar) → Has (erase ρ) e t → check_expr ρ e ≡ Ok t
types_as ρ (truth b) t h = cc
types_as ρ (whole z) t h = cc
types_as ρ (read i m) t h = be_variable i m ρ t h
types_as ρ (plus i e f) t h = rw (types_as ρ e wholes h.0, types_as ρ f wholes h.1) (cc h.2)
types_as ρ (less i e f) t h = rw (types_as ρ e wholes h.0, types_as ρ f wholes h.1) (cc h.2)
types_as ρ (or i e f) t h = rw (types_as ρ e truths h.0, types_as ρ f truths h.1) (cc h.2)

-- names that differ from some names
abbrev Apart : List ℕ → List ℕ → Type 0
Apart seen [] = Unit {0}
Apart seen (x ∷ xs) = (member x seen ≡ false) × Apart seen xs

apart_none : (xs : List ℕ) → Apart [] xs
apart_none [] = tt
apart_none (x ∷ xs) = (refl, apart_none xs)

apart_push : (x : ℕ) (seen xs : List ℕ) → Apart seen xs → member x xs ≡ false → Apart (x ∷ seen) xs
apart_push x seen [] a h = tt
apart_push x seen (y ∷ ys) a h =
    let (p, q) = or_parts (same x y) (member x ys) h in
    (or_from (same y x) (member y seen) (sym (same_swap x y) ∙ p) a.0, apart_push x seen ys a.1 q)

apart_pop : (x : ℕ) (seen xs : List ℕ) → Apart (x ∷ seen) xs → Apart seen xs × (member x xs ≡ false)
apart_pop x seen [] a = (tt, refl)
apart_pop x seen (y ∷ ys) a =
    let (p, q) = or_parts (same y x) (member y seen) a.0 in
    let (b, r) = apart_pop x seen ys a.1 in
    ((q, b), or_from (same x y) (member x ys) (sym (same_swap y x) ∙ p) r)

declared : (seen : List ℕ) (ds : List Decl) (u : Unit {0}) → check_decls seen ds ≡ Ok u → Distinct (names ds) × Apart seen (names ds)
declared seen [] u h = (tt, tt)
declared seen (d ∷ ds) u h =
    let (p, q) = asked_ok (not (member d.name seen)) _ _ tt h in
    let (a, b) = declared (d.name ∷ seen) ds tt q in
    let (r, s) = apart_pop d.name seen (names ds) b in
    ((s, a), (not-true (member d.name seen) p, r))

declares : (seen : List ℕ) (ds : List Decl) → Distinct (names ds) → Apart seen (names ds) → check_decls seen ds ≡ Ok tt
declares seen [] a b = refl
declares seen (d ∷ ds) a b = rw b.0 (declares (d.name ∷ seen) ds a.1 (apart_push d.name seen (names ds) b.1 a.0))

args_fit : (ρ : Sight Entry) (xs : List Arg) (ts : List Scalar) → check_args ρ xs ≡ Ok ts → Args (erase ρ) xs ts
args_fit ρ [] [] h = tt
args_fit ρ [] (t ∷ ts) h = let z : ◌≡◌ {A = ℕ} 0 1 = cc in absurd (omega arith)
args_fit ρ (x ∷ xs) [] h =
    let (u, p, q) = bind_ok (as_variable x.at (look x.name ρ)) _ [] h in
    let (us, r, s) = bind_ok (check_args ρ xs) _ [] q in
    let z : ◌≡◌ {A = ℕ} 0 1 = cc in absurd (omega arith)
args_fit ρ (x ∷ xs) (t ∷ ts) h =
    let (u, p, q) = bind_ok (as_variable x.at (look x.name ρ)) _ (t ∷ ts) h in
    let (us, r, s) = bind_ok (check_args ρ xs) _ (t ∷ ts) q in
    (is_variable x.at x.name ρ t (cc), args_fit ρ xs ts (cc))

fit_args : (ρ : Sight Entry) (xs : List Arg) (ts : List Scalar) → Args (erase ρ) xs ts → check_args ρ xs ≡ Ok ts
fit_args ρ [] [] h = refl
fit_args ρ [] (t ∷ ts) h = elim h [ ]
fit_args ρ (x ∷ xs) [] h = elim h [ ]
fit_args ρ (x ∷ xs) (t ∷ ts) h = rw (be_variable x.at x.name ρ t h.0, fit_args ρ xs ts h.1) refl

is_procedure : (i m : ℕ) (ρ : Sight Entry) (p : List Scalar × ℕ) → as_procedure i (look m ρ) ≡ Ok p → look m (erase ρ) ≡ Some (WF.procedure p.0)
is_procedure i m ρ p h = look_erase m ρ ∙ ap erase_found (procedure_found i (look m ρ) p h)

be_procedure : (i m : ℕ) (ρ : Sight Entry) (ts : List Scalar) → look m (erase ρ) ≡ Some (WF.procedure ts) → (n : ℕ) × (as_procedure i (look m ρ) ≡ Ok (ts, n))
be_procedure i m ρ ts h = go (look m ρ) (sym (look_erase m ρ) ∙ h)
  where
    go : (o : Option Entry) → erase_found o ≡ Some (WF.procedure ts) → (n : ℕ) × (as_procedure i o ≡ Ok (ts, n))
    go None h = (0, cc)
    go (Some (variable u)) h = (0, cc)
    go (Some (procedure us n)) h = (n, cc)

mutual
  pub formed : (ρ : Sight Entry) (c : Com) (n : ℕ) → check_com ρ c ≡ Ok n → WellFormed (erase ρ) c
  formed ρ (null i) n h = tt
  formed ρ (assign i m e) n h =
      let (t, p, q) = bind_ok (check_expr ρ e) _ n h in
      let (u, r, s) = bind_ok (as_variable i (look m ρ)) _ n q in
      let (a, b) = asked_ok (alike t u) _ _ n s in
      (u, is_variable i m ρ u r, subst (Has (erase ρ) e) (alike_eq t u a) (has_type ρ e t p))
  formed ρ (if i e c d) n h =
      let (t, p, q) = bind_ok (check_expr ρ e) _ n h in
      let (k, r, s) = bind_ok (check_com ρ c) _ n q in
      let (l, r', s') = bind_ok (check_com ρ d) _ n s in
      let (a, b) = asked_ok (alike t truths) _ _ n s' in
      (subst (Has (erase ρ) e) (alike_eq t truths a) (has_type ρ e t p), formed ρ c k r, formed ρ d l r')
  formed ρ (while i e c) n h =
      let (t, p, q) = bind_ok (check_expr ρ e) _ n h in
      let (k, r, s) = bind_ok (check_com ρ c) _ n q in
      let (a, b) = asked_ok (alike t truths) _ _ n s in
      (subst (Has (erase ρ) e) (alike_eq t truths a) (has_type ρ e t p), formed ρ c k r)
  formed ρ (call i m xs) n h =
      let (ts, p, q) = bind_ok (check_args ρ xs) _ n h in
      let (f, r, s) = bind_ok (as_procedure i (look m ρ)) _ n q in
      let (a, b) = asked_ok (eqb (length ts) (length f.0)) _ _ n s in
      let (a', b') = asked_ok (all_alike ts f.0) _ _ n b in
      (f.0, is_procedure i m ρ f r, subst (Args (erase ρ) xs) (all_alike_eq ts f.0 a') (args_fit ρ xs ts p))
  formed ρ (block i ds ps cs) n h =
      let (t, p, q) = bind_ok (check_decls [] ds) _ n h in
      let (ρ', r, s) = bind_ok (check_procs (variables ds (without (proc_names ps) ρ)) [] ps (variables ds ρ)) _ n q in
      let (k, a, b) = bind_ok (check_coms ρ' cs) _ n s in
      let (x, y, z, w) = bodies (variables ds (without (proc_names ps) ρ)) [] ps (variables ds ρ) ρ' r in
      ((declared [] ds t p).0, y, subst (λ v. Bodies v ps) (erase_variables ds (without (proc_names ps) ρ) ∙ ap (WF.variables ds) (erase_without (proc_names ps) ρ)) x, subst (λ v. AllFormed v cs) (w ∙ ap (WF.procedures ps) (erase_variables ds ρ)) (all_formed ρ' cs k a))

  pub bodies : (inner : Sight Entry) (seen : List ℕ) (ps : Procs) (ρ ρ' : Sight Entry) → check_procs inner seen ps ρ ≡ Ok ρ'
      → Bodies (erase inner) ps × Distinct (proc_names ps) × Apart seen (proc_names ps) × (erase ρ' ≡ WF.procedures ps (erase ρ))
  bodies inner seen pnil ρ ρ' h = (tt, tt, tt, cc)
  bodies inner seen (pcons i m fs c ps) ρ ρ' h =
      let (t, p, q) = bind_ok (check_decls [] fs) _ ρ' h in
      let (k, r, s) = bind_ok (check_com (variables fs inner) c) _ ρ' q in
      let (a, b) = asked_ok (not (member m seen)) _ _ ρ' s in
      let (x, y, z, w) = bodies inner (m ∷ seen) ps ((m, procedure (types fs) k) ∷ ρ) ρ' b in
      let (z', v) = apart_pop m seen (proc_names ps) z in
      (((declared [] fs t p).0, subst (λ v. WellFormed v c) (erase_variables fs inner) (formed (variables fs inner) c k r), x), (v, y), (not-true (member m seen) a, z'), w)

  pub all_formed : (ρ : Sight Entry) (cs : Coms) (n : ℕ) → check_coms ρ cs ≡ Ok n → AllFormed (erase ρ) cs
  all_formed ρ cnil n h = tt
  all_formed ρ (ccons c cs) n h =
      let (k, p, q) = bind_ok (check_com ρ c) _ n h in
      let (l, r, s) = bind_ok (check_coms ρ cs) _ n q in
      (formed ρ c k p, all_formed ρ cs l r)

mutual
  pub accepted : (ρ : Sight Entry) (c : Com) → WellFormed (erase ρ) c → (n : ℕ) × (check_com ρ c ≡ Ok n)
  accepted ρ (null i) h = (0, refl)
  accepted ρ (assign i m e) h = (0, rw (types_as ρ e h.0 h.2, be_variable i m ρ h.0 h.1, alike_self h.0) refl)
  accepted ρ (if i e c d) h =
      let (n, p) = accepted ρ c h.1 in
      let (m, q) = accepted ρ d h.2 in
      (max n m, rw (types_as ρ e truths h.0, p, q) refl)
  accepted ρ (while i e c) h = let (n, p) = accepted ρ c h.1 in (n, rw (types_as ρ e truths h.0, p) refl)
  accepted ρ (call i m xs) h =
      let (n, p) = be_procedure i m ρ h.0 h.1 in
      (n, rw (fit_args ρ xs h.0 h.2, p, eq-eqb (length h.0) (length h.0) refl, all_alike_self h.0) refl)
  accepted ρ (block i ds ps cs) h =
      let inner = variables ds (without (proc_names ps) ρ) in
      let same_inner = erase_variables ds (without (proc_names ps) ρ) ∙ ap (WF.variables ds) (erase_without (proc_names ps) ρ) in
      let (ρ', p, q) = accepted_bodies inner [] ps (variables ds ρ) (subst⁻¹ (λ v. Bodies v ps) same_inner h.2) h.1 (apart_none (proc_names ps)) in
      let (n, r) = accepted_all ρ' cs (subst⁻¹ (λ v. AllFormed v cs) (q ∙ ap (WF.procedures ps) (erase_variables ds ρ)) h.3) in
      (length ds + n, rw (declares [] ds h.0 (apart_none (names ds)), p, r) refl)

  pub accepted_bodies : (inner : Sight Entry) (seen : List ℕ) (ps : Procs) (ρ : Sight Entry) → Bodies (erase inner) ps → Distinct (proc_names ps)
      → Apart seen (proc_names ps) → (ρ' : Sight Entry) × (check_procs inner seen ps ρ ≡ Ok ρ') × (erase ρ' ≡ WF.procedures ps (erase ρ))
  accepted_bodies inner seen pnil ρ h d a = (ρ, refl, refl)
  accepted_bodies inner seen (pcons i m fs c ps) ρ h d a =
      let (n, p) = accepted (variables fs inner) c (subst⁻¹ (λ v. WellFormed v c) (erase_variables fs inner) h.1) in
      let (ρ', q, r) = accepted_bodies inner (m ∷ seen) ps ((m, procedure (types fs) n) ∷ ρ) h.2 d.1 (apart_push m seen (proc_names ps) a.1 d.0) in
      (ρ', rw (declares [] fs h.0 (apart_none (names fs)), p, a.0) q, r)

  pub accepted_all : (ρ : Sight Entry) (cs : Coms) → AllFormed (erase ρ) cs → (n : ℕ) × (check_coms ρ cs ≡ Ok n)
  accepted_all ρ cnil h = (0, refl)
  accepted_all ρ (ccons c cs) h =
      let (n, p) = accepted ρ c h.0 in
      let (m, q) = accepted_all ρ cs h.1 in
      (max n m, rw (p, q) refl)

pub accepted_exactly : (c : Com) → ((n : ℕ) × (check_rule c ≡ Ok n)) ↔ Formed c
accepted_exactly c = (
  λ h. formed outset c (bind_ok (check_com outset c) _ h.0 h.1).0 (bind_ok (check_com outset c) _ h.0 h.1).1,
  λ f. ((accepted outset c f).0 + 2, rw (accepted outset c f).1 refl),
)
