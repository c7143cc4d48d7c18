-- Laws of the definition: rows from their end, and the sight that procedures add to.
use Rattle.std.proofs.Common.{◌≡◌, ℕ, max, Bool, true, false, cond, not, List, [], ◌∷◌, Some, Ok, Err, Result, refl, ap, ◌∙◌, arith}
use Rattle.language.specs.declared.faults.Fault.{Fault}
use Rattle.language.specs.declared.faults.NamesCause.TheVariants.{Repeated}
use Rattle.language.specs.Same.{same}
use Rattle.language.specs.Tree.{Decl, Com, Procs, Coms, pnil, pcons, cnil, ccons}
use Rattle.language.specs.Results.{◌>>=◌, asked}
use Rattle.language.specs.Sight.{look, member}
use Rattle.language.specs.Names.{Entry, variable, procedure, refusal, variables, proc_names, types, check_decls, check_com, check_procs, check_coms}
use Rattle.rule.specs.Seen.{Names}
use Rattle.rule.specs.Said.{seen_after, body_said}
use Rattle.rule.proofs.Snocs.{psnoc, csnoc}

abbrev pub largest : Result ℕ Fault → Result ℕ Fault → Result ℕ Fault
largest a b = a >>= λ n. b >>= λ m. Ok (max n m)

largest_zero : (a : Result ℕ Fault) → largest a (Ok 0) ≡ largest (Ok 0) a
largest_zero (Err f) = refl
largest_zero (Ok n) = ap Ok (omega arith)

largest_assoc : (a b c : Result ℕ Fault) → largest a (largest b c) ≡ largest (largest a b) c
largest_assoc (Err f) b c = refl
largest_assoc (Ok x) (Err f) c = refl
largest_assoc (Ok x) (Ok y) (Err f) = refl
largest_assoc (Ok x) (Ok y) (Ok z) = ap Ok (omega arith)

pub coms_snoc : (ρ : Names) (cs : Coms) (c : Com) → check_coms ρ (csnoc cs c) ≡ largest (check_coms ρ cs) (check_com ρ c)
unfolding csnoc
coms_snoc ρ cnil c = largest_zero (check_com ρ c)
coms_snoc ρ (ccons d cs) c = ap (largest (check_com ρ d)) (coms_snoc ρ cs c) ∙ largest_assoc (check_com ρ d) (check_coms ρ cs) (check_com ρ c)

-- one procedure more
abbrev pub one_proc : Names → List ℕ → ℕ → ℕ → List Decl → Com → Names → Result Names Fault
one_proc inner seen i m fs c ρ =
    check_decls [] fs >>= λ _. check_com (variables fs inner) c >>= λ n. asked (not (member m seen)) (refusal Repeated i) >>= λ _. Ok ((m, procedure (types fs) n) ∷ ρ)

three : (a : Result (Unit {0}) Fault) (b : Result ℕ Fault) (h : Result (Unit {0}) Fault) (f g : ℕ → Result Names Fault) (k : Names → Result Names Fault) → ((x : ℕ) → f x ≡ (g x >>= k))
    → (a >>= λ _. b >>= λ x. h >>= λ _. f x) ≡ ((a >>= λ _. b >>= λ x. h >>= λ _. g x) >>= k)
three (Err e) b h f g k q = refl
three (Ok u) (Err e) h f g k q = refl
three (Ok u) (Ok x) (Err e) f g k q = refl
three (Ok u) (Ok x) (Ok v) f g k q = q x

pub procs_snoc : (inner : Names) (seen : List ℕ) (ps : Procs) (i m : ℕ) (fs : List Decl) (c : Com) (ρ : Names)
    → check_procs inner seen (psnoc ps i m fs c) ρ ≡ (check_procs inner seen ps ρ >>= one_proc inner (seen_after ps seen) i m fs c)
unfolding psnoc
procs_snoc inner seen pnil i m fs c ρ = refl
procs_snoc inner seen (pcons j n gs d ps) i m fs c ρ =
    three (check_decls [] gs) (check_com (variables gs inner) d) (asked (not (member n seen)) (refusal Repeated j)) _ _ _
    (λ x. procs_snoc inner (n ∷ seen) ps i m fs c ((n, procedure (types gs) x) ∷ ρ))

-- the sights agree but for these names
abbrev pub Agree : List ℕ → Names → Names → Type 0
Agree ms ρ τ = (m : ℕ) → member m ms ≡ false → look m ρ ≡ look m τ

pub data Pairs (r q : Result Names Fault) : Type 0 where
  errs : (f : Fault) → r ≡ Err f → q ≡ Err f → Pairs r q
  oks : (a b : Names) → r ≡ Ok a → q ≡ Ok b → ((m : ℕ) → look m a ≡ look m b) → Pairs r q

paired : (a : Result (Unit {0}) Fault) (b : Result ℕ Fault) (h : Result (Unit {0}) Fault) (f g : ℕ → Result Names Fault) → ((x : ℕ) → Pairs (f x) (g x))
    → Pairs (a >>= λ _. b >>= λ x. h >>= λ _. f x) (a >>= λ _. b >>= λ x. h >>= λ _. g x)
paired (Err e) b h f g q = errs e refl refl
paired (Ok u) (Err e) h f g q = errs e refl refl
paired (Ok u) (Ok x) (Err e) f g q = errs e refl refl
paired (Ok u) (Ok x) (Ok v) f g q = q x

agree_cons : (m : ℕ) (ms : List ℕ) (e : Entry) (ρ τ : Names) → Agree (m ∷ ms) ρ τ → Agree ms ((m, e) ∷ ρ) ((m, e) ∷ τ)
agree_cons m ms e ρ τ h n k = go (same n m) refl
  where
    go : (b : Bool) → same n m ≡ b → cond b (Some e) (look n ρ) ≡ cond b (Some e) (look n τ)
    go true q = refl
    go false q = h n (rw q k)

pub procs_agree : (inner : Names) (seen : List ℕ) (ps : Procs) (ρ τ : Names) → Agree (proc_names ps) ρ τ
    → Pairs (check_procs inner seen ps ρ) (check_procs inner seen ps τ)
procs_agree inner seen pnil ρ τ h = oks ρ τ refl refl (λ m. h m refl)
procs_agree inner seen (pcons i m fs c ps) ρ τ h =
    paired (check_decls [] fs) (check_com (variables fs inner) c) (asked (not (member m seen)) (refusal Repeated i)) _ _
    (λ x. procs_agree inner (m ∷ seen) ps ((m, procedure (types fs) x) ∷ ρ) ((m, procedure (types fs) x) ∷ τ) (agree_cons m (proc_names ps) _ ρ τ h))

agree_more : (m : ℕ) (ms : List ℕ) (e : Entry) (ρ τ : Names) → Agree ms ρ τ → Agree ms ((m, e) ∷ ρ) ((m, e) ∷ τ)
agree_more m ms e ρ τ h n k = ap (cond (same n m) (Some e)) (h n k)

pub variables_agree : (ds : List Decl) (ms : List ℕ) (ρ τ : Names) → Agree ms ρ τ → Agree ms (variables ds ρ) (variables ds τ)
variables_agree [] ms ρ τ h = h
variables_agree (d ∷ ds) ms ρ τ h = variables_agree ds ms _ _ (agree_more d.name ms (variable d.type) ρ τ h)

module _ (inner : Names) (seen : List ℕ) (i m : ℕ) (fs : List Decl) (c : Com) (ρ : Names) where
  body_first : (k : ℕ → Result Names Fault) → (check_decls [] fs >>= λ _. check_com (variables fs inner) c >>= k) ≡ (body_said inner fs c >>= k)
  body_first k = go (check_decls [] fs)
    where
      go : (r : Result (Unit {0}) Fault) → (r >>= λ _. check_com (variables fs inner) c >>= k) ≡ ((r >>= λ _. check_com (variables fs inner) c) >>= k)
      go (Ok u) = refl
      go (Err f) = refl

  pub one_bad : (f : Fault) → body_said inner fs c ≡ Err f → one_proc inner seen i m fs c ρ ≡ Err f
  one_bad f h = body_first _ ∙ rw h refl

  pub one_twice : (n : ℕ) → body_said inner fs c ≡ Ok n → member m seen ≡ true → one_proc inner seen i m fs c ρ ≡ Err (refusal Repeated i)
  one_twice n h t = body_first _ ∙ rw (h, t) refl

  pub one_well : (n : ℕ) → body_said inner fs c ≡ Ok n → member m seen ≡ false → one_proc inner seen i m fs c ρ ≡ Ok ((m, procedure (types fs) n) ∷ ρ)
  one_well n h t = body_first _ ∙ rw (h, t) refl
