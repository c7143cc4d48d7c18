-- What the check of a command that was accepted says of its parts.
use Rattle.std.proofs.Common.{◌≡◌, ℕ, ◌+◌, max, not, ◌&&◌, eqb, List, [], ◌∷◌, length, Some, Ok, Err, Result, ap, ◌∙◌}
use Rattle.std.proofs.lemmas.Bool.{and_parts}
use Rattle.language.specs.declared.faults.Fault.{Fault}
use Rattle.language.specs.Results.{◌>>=◌, asked}
use Rattle.language.specs.declared.values.Scalar.{Scalar}
use Rattle.language.specs.declared.values.Scalar.TheVariants.{Truth as truths}
use Rattle.language.specs.Values.{alike}
use Rattle.language.specs.Sight.{Sight, look, member, without}
use Rattle.language.specs.Tree.{Decl, Arg, Expr, Com, Procs, Coms, assign, if, while, call, block, pcons, ccons}
use Rattle.language.specs.Names.{Entry, variable, procedure, all_alike, as_variable, as_procedure, check_expr, check_args, check_decls, types, variables, proc_names, check_com, check_procs, check_coms}
use Rattle.language.proofs.Binds.{no_ok, ok_is, bind_ok, asked_ok}
use Rattle.language.proofs.Types.{alike_eq, all_alike_eq, variable_found, procedure_found}

-- an accepted operator has operands of its type
pub two_operands : (w z t : Scalar) (f : Fault) (r₁ r₂ : Result Scalar Fault)
    → (r₁ >>= λ a. r₂ >>= λ b. asked (alike a w && alike b w) f >>= λ _. Ok z) ≡ Ok t
    → (r₁ ≡ Ok w) × (r₂ ≡ Ok w) × (z ≡ t)
two_operands w z t f (Ok a) (Ok b) q =
    let (h, g) = asked_ok (alike a w && alike b w) f (λ _. Ok z) t q in
    let (p, r) = and_parts (alike a w) (alike b w) h in
    (ap Ok (alike_eq a w p), ap Ok (alike_eq b w r), ok_is g)
two_operands w z t f (Ok a) (Err e) q = absurd (no_ok _ t q)
two_operands w z t f (Err e) r₂ q = absurd (no_ok _ t q)

pub assign_parts : (Γ : Sight Entry) (i m : ℕ) (e : Expr) (n : ℕ) → check_com Γ (assign i m e) ≡ Ok n
    → (t : Scalar) × (check_expr Γ e ≡ Ok t) × (look m Γ ≡ Some (variable t))
assign_parts Γ i m e n q =
    let (t, q₁, r₁) = bind_ok (check_expr Γ e) _ n q in
    let (u, q₂, r₂) = bind_ok (as_variable i (look m Γ)) _ n r₁ in
    let (h, _) = asked_ok (alike t u) _ _ n r₂ in
    (u, q₁ ∙ ap Ok (alike_eq t u h), variable_found i (look m Γ) u q₂)

pub if_parts : (Γ : Sight Entry) (i : ℕ) (e : Expr) (c d : Com) (n : ℕ) → check_com Γ (if i e c d) ≡ Ok n
    → (check_expr Γ e ≡ Ok truths) × ((a : ℕ) × (b : ℕ) × (check_com Γ c ≡ Ok a) × (check_com Γ d ≡ Ok b) × (max a b ≡ n))
if_parts Γ i e c d n q =
    let (t, q₁, r₁) = bind_ok (check_expr Γ e) _ n q in
    let (a, q₂, r₂) = bind_ok (check_com Γ c) _ n r₁ in
    let (b, q₃, r₃) = bind_ok (check_com Γ d) _ n r₂ in
    let (h, r₄) = asked_ok (alike t truths) _ _ n r₃ in
    (q₁ ∙ ap Ok (alike_eq t truths h), (a, b, q₂, q₃, ok_is r₄))

pub while_parts : (Γ : Sight Entry) (i : ℕ) (e : Expr) (c : Com) (n : ℕ) → check_com Γ (while i e c) ≡ Ok n
    → (check_expr Γ e ≡ Ok truths) × (check_com Γ c ≡ Ok n)
while_parts Γ i e c n q =
    let (t, q₁, r₁) = bind_ok (check_expr Γ e) _ n q in
    let (a, q₂, r₂) = bind_ok (check_com Γ c) _ n r₁ in
    let (h, r₃) = asked_ok (alike t truths) _ _ n r₂ in
    (q₁ ∙ ap Ok (alike_eq t truths h), q₂ ∙ r₃)

pub call_parts : (Γ : Sight Entry) (i m : ℕ) (xs : List Arg) (n : ℕ) → check_com Γ (call i m xs) ≡ Ok n
    → (tys : List Scalar) × (check_args Γ xs ≡ Ok tys) × (look m Γ ≡ Some (procedure tys n))
call_parts Γ i m xs n q =
    let (ts, q₁, r₁) = bind_ok (check_args Γ xs) _ n q in
    let (p, q₂, r₂) = bind_ok (as_procedure i (look m Γ)) _ n r₁ in
    let (_, r₃) = asked_ok (eqb (length ts) (length p.0)) _ _ n r₂ in
    let (h, r₄) = asked_ok (all_alike ts p.0) _ _ n r₃ in
    let a = all_alike_eq ts p.0 h in
    let b = ok_is r₄ in
    let c = procedure_found i (look m Γ) p q₂ in
    (ts, q₁, (cc))

pub block_parts : (Γ : Sight Entry) (i : ℕ) (ds : List Decl) (ps : Procs) (cs : Coms) (n : ℕ) → check_com Γ (block i ds ps cs) ≡ Ok n
    → (Γ' : Sight Entry) × (k : ℕ) × (check_procs (variables ds (without (proc_names ps) Γ)) [] ps (variables ds Γ) ≡ Ok Γ') × (check_coms Γ' cs ≡ Ok k) × (length ds + k ≡ n)
block_parts Γ i ds ps cs n q =
    let (_, q₁, r₁) = bind_ok (check_decls [] ds) _ n q in
    let (Γ', q₂, r₂) = bind_ok (check_procs (variables ds (without (proc_names ps) Γ)) [] ps (variables ds Γ)) _ n r₁ in
    let (k, q₃, r₃) = bind_ok (check_coms Γ' cs) _ n r₂ in
    (Γ', k, q₂, q₃, ok_is r₃)

pub procs_parts : (inner : Sight Entry) (seen : List ℕ) (i m : ℕ) (fs : List Decl) (c : Com) (ps : Procs) (Γ Γ' : Sight Entry)
    → check_procs inner seen (pcons i m fs c ps) Γ ≡ Ok Γ'
    → (n : ℕ) × (check_com (variables fs inner) c ≡ Ok n) × (check_procs inner (m ∷ seen) ps ((m, procedure (types fs) n) ∷ Γ) ≡ Ok Γ')
procs_parts inner seen i m fs c ps Γ Γ' q =
    let (_, q₁, r₁) = bind_ok (check_decls [] fs) _ Γ' q in
    let (n, q₂, r₂) = bind_ok (check_com (variables fs inner) c) _ Γ' r₁ in
    let (_, r₃) = asked_ok (not (member m seen)) _ _ Γ' r₂ in
    (n, q₂, r₃)

pub coms_parts : (Γ : Sight Entry) (c : Com) (cs : Coms) (n : ℕ) → check_coms Γ (ccons c cs) ≡ Ok n
    → (a : ℕ) × (b : ℕ) × (check_com Γ c ≡ Ok a) × (check_coms Γ cs ≡ Ok b) × (max a b ≡ n)
coms_parts Γ c cs n q =
    let (a, q₁, r₁) = bind_ok (check_com Γ c) _ n q in
    let (b, q₂, r₂) = bind_ok (check_coms Γ cs) _ n r₁ in
    (a, b, q₁, q₂, ok_is r₂)
