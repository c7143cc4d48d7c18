-- The names in sight of the reference, read as meanings; and what an expression gives, in both.
use Rattle.std.proofs.Common.{◌≡◌, ℕ, Bool, true, false, cond, ◌||◌, [], ◌∷◌, ◌++◌, length, ℤ, ◌+ℤ◌, Ok, Err, Result, sym, refl, ap, ◌∙◌, subst, append-nil}
use mathlib.Core.Path.{subst⁻¹}
use mathlib.Core.Option.{Option as FoundBy, some, none}
use lib.Signed.{lt_z}
use Rattle.language.specs.declared.values.Value.{Value}
use Rattle.language.specs.declared.values.Value.TheVariants.{Whole as whole_value, Truth as truth_value}
use Rattle.language.specs.declared.values.Stop.{Stop}
use Rattle.language.specs.declared.values.Stop.TheVariants.{Sum}
use Rattle.language.specs.Values.{fits, sum, less_than, either_true}
use Rattle.language.specs.Results.{◌>>=◌}
use Rattle.language.specs.Same.{same}
use Rattle.language.specs.Sight.{Bound, Env, find, placed}
use Rattle.language.specs.Sight as S
use Rattle.language.specs.Stack.{Stack, value_at}
use Rattle.language.specs.Tree.{Expr, truth, whole, read, plus, less, or}
use Rattle.language.specs.Reference as R
use Rattle.language.specs.Reference.{Found, nothing, a_place, a_proc, located, eval}
use Rattle.language.specs.Meaning.{adds, Trace, Effect, Place, IsValue, CommandMeans}
use Rattle.language.specs.Laws.{spend}
use Rattle.language.proofs.Binds.{no_ok, ok_is, bind_ok, or_else_ok}
use Rattle.language.proofs.Traces.{spend_append}

-- a procedure means what its body means where it was declared
abbrev pub meant : R.Env → Env Effect
meant R.empty = []
meant (R.place n l ρ) = (n, S.place l) ∷ meant ρ
meant (R.proc n fs c seen ρ) = (n, S.procedure (length fs) (λ ls. CommandMeans (placed fs ls (meant seen)) c)) ∷ meant ρ

abbrev pub meant_found : Found → FoundBy (Bound Effect)
meant_found nothing = none
meant_found (a_place l) = some (S.place l)
meant_found (a_proc fs c seen) = some (S.procedure (length fs) (λ ls. CommandMeans (placed fs ls (meant seen)) c))

pub look_meant : (m : ℕ) (ρ : R.Env) → find m (meant ρ) ≡ meant_found (R.look m ρ)
look_meant m R.empty = refl
look_meant m (R.place n l ρ) = go (same m n) (look_meant m ρ)
  where
    go : (b : Bool) → find m (meant ρ) ≡ meant_found (R.look m ρ)
        → cond b (some (S.place l)) (find m (meant ρ)) ≡ meant_found (cond b (a_place l) (R.look m ρ))
    go true h = refl
    go false h = h
look_meant m (R.proc n fs c seen ρ) = go (same m n) (look_meant m ρ)
  where
    go : (b : Bool) → find m (meant ρ) ≡ meant_found (R.look m ρ)
        → cond b (meant_found (a_proc fs c seen)) (find m (meant ρ)) ≡ meant_found (cond b (a_proc fs c seen) (R.look m ρ))
    go true h = refl
    go false h = h

pub place_of : (m : ℕ) (ρ : R.Env) (l : ℕ) → located (R.look m ρ) ≡ Ok l → Place (find m (meant ρ)) l
place_of m ρ l h = subst⁻¹ (λ o. Place o l) (look_meant m ρ) (go (R.look m ρ) h)
  where
    go : (f : Found) → located f ≡ Ok l → Place (meant_found f) l
    go nothing h = absurd (no_ok _ l h)
    go (a_place k) h = ok_is h
    go (a_proc fs c seen) h = absurd (no_ok _ l h)

pub of_place : (m : ℕ) (ρ : R.Env) (l : ℕ) → Place (find m (meant ρ)) l → located (R.look m ρ) ≡ Ok l
of_place m ρ l h = go (R.look m ρ) (subst (λ o. Place o l) (look_meant m ρ) h)
  where
    go : (f : Found) → Place (meant_found f) l → located f ≡ Ok l
    go nothing h = elim h [ ]
    go (a_place k) h = ap Ok h
    go (a_proc fs c seen) h = elim h [ ]

-- a trace that takes no unit, and whose sums are in range
abbrev pub Free : Trace → Type 0
Free t = (u : ℕ) → spend t u ≡ Ok u

pub free_append : (s r : Trace) → Free s → Free r → Free (s ++ r)
free_append s r f g u = spend_append s r u ∙ rw (f u) (g u)

sum_parts : (i : ℕ) (x y v : Value) → sum i x y ≡ Ok v
    → (a b : ℤ) × (x ≡ whole_value a) × (y ≡ whole_value b) × (v ≡ whole_value (a +ℤ b)) × (fits (a +ℤ b) ≡ true)
sum_parts i (truth_value a) y v h = absurd (no_ok _ v h)
sum_parts i (whole_value a) (truth_value b) v h = absurd (no_ok _ v h)
sum_parts i (whole_value a) (whole_value b) v h = go (fits (a +ℤ b)) refl h
  where
    go : (t : Bool) → fits (a +ℤ b) ≡ t → cond t (Ok (whole_value (a +ℤ b))) (Err (Sum i)) ≡ Ok v
        → (c d : ℤ) × (whole_value a ≡ whole_value c) × (whole_value b ≡ whole_value d) × (v ≡ whole_value (c +ℤ d)) × (fits (c +ℤ d) ≡ true)
    go true e h = (a, b, refl, refl, sym (ok_is h), e)
    go false e h = absurd (no_ok _ v h)

less_parts : (x y v : Value) → less_than x y ≡ Ok v
    → (a b : ℤ) × (x ≡ whole_value a) × (y ≡ whole_value b) × (v ≡ truth_value (lt_z a b))
less_parts (truth_value a) y v h = absurd (no_ok _ v h)
less_parts (whole_value a) (truth_value b) v h = absurd (no_ok _ v h)
less_parts (whole_value a) (whole_value b) v h = (a, b, refl, refl, sym (ok_is h))

either_parts : (x y v : Value) → either_true x y ≡ Ok v
    → (a b : Bool) × (x ≡ truth_value a) × (y ≡ truth_value b) × (v ≡ truth_value (a || b))
either_parts (whole_value a) y v h = absurd (no_ok _ v h)
either_parts (truth_value a) (whole_value b) v h = absurd (no_ok _ v h)
either_parts (truth_value a) (truth_value b) v h = (a, b, refl, refl, sym (ok_is h))

-- from the reference to the meaning
pub valued : (ρ : R.Env) (σ : Stack) (e : Expr) (v : Value) → eval ρ σ e ≡ Ok v → (t : Trace) × IsValue (meant ρ) e σ t v × Free t
valued ρ σ (truth b) v h = ([], (sym (ok_is h), refl), λ u. refl)
valued ρ σ (whole z) v h = ([], (sym (ok_is h), refl), λ u. refl)
valued ρ σ (read i m) v h =
    let (l, p, q) = bind_ok (located (R.look m ρ)) _ v h in
    ([], (l, place_of m ρ l p, or_else_ok _ (value_at σ l) v q, refl), λ u. refl)
valued ρ σ (plus i e f) v h =
    let (x, p, q) = bind_ok (eval ρ σ e) _ v h in
    let (y, r, s) = bind_ok (eval ρ σ f) _ v q in
    let (a, b, ea, eb, ev, ok) = sum_parts i x y v s in
    let (t₁, m₁, f₁) = valued ρ σ e x p in
    let (t₂, m₂, f₂) = valued ρ σ f y r in (
      t₁ ++ (t₂ ++ (adds i (a +ℤ b) ∷ [])),
      (a, b, t₁, t₂, subst (IsValue (meant ρ) e σ t₁) ea m₁, subst (IsValue (meant ρ) f σ t₂) eb m₂, ev, refl),
      free_append t₁ (t₂ ++ (adds i (a +ℤ b) ∷ [])) f₁ (free_append t₂ (adds i (a +ℤ b) ∷ []) f₂ (λ u. rw ok refl)),
    )
valued ρ σ (less i e f) v h =
    let (x, p, q) = bind_ok (eval ρ σ e) _ v h in
    let (y, r, s) = bind_ok (eval ρ σ f) _ v q in
    let (a, b, ea, eb, ev) = less_parts x y v s in
    let (t₁, m₁, f₁) = valued ρ σ e x p in
    let (t₂, m₂, f₂) = valued ρ σ f y r in
    (t₁ ++ t₂, (a, b, t₁, t₂, subst (IsValue (meant ρ) e σ t₁) ea m₁, subst (IsValue (meant ρ) f σ t₂) eb m₂, ev, refl), free_append t₁ t₂ f₁ f₂)
valued ρ σ (or i e f) v h =
    let (x, p, q) = bind_ok (eval ρ σ e) _ v h in
    let (y, r, s) = bind_ok (eval ρ σ f) _ v q in
    let (a, b, ea, eb, ev) = either_parts x y v s in
    let (t₁, m₁, f₁) = valued ρ σ e x p in
    let (t₂, m₂, f₂) = valued ρ σ f y r in
    (t₁ ++ t₂, (a, b, t₁, t₂, subst (IsValue (meant ρ) e σ t₁) ea m₁, subst (IsValue (meant ρ) f σ t₂) eb m₂, ev, refl), free_append t₁ t₂ f₁ f₂)

-- from the meaning to the reference: the value, or the stop at the first sum out of range
pub data Worked (r : Result Value Stop) (t : Trace) (v : Value) : Type 0 where
  gives : r ≡ Ok v → Free t → Worked r t v
  stops : (s : Stop) → r ≡ Err s → ((u : ℕ) → spend t u ≡ Err s) → Worked r t v

stop_append : (s r : Trace) (x : Stop) → ((u : ℕ) → spend s u ≡ Err x) → (u : ℕ) → spend (s ++ r) u ≡ Err x
stop_append s r x f u = spend_append s r u ∙ rw (f u) refl

stop_after : (s r : Trace) (x : Stop) → Free s → ((u : ℕ) → spend r u ≡ Err x) → (u : ℕ) → spend (s ++ r) u ≡ Err x
stop_after s r x f g u = spend_append s r u ∙ rw (f u) (g u)

-- both operands, and then what the operator adds to the trace
both_worked : (r₁ r₂ : Result Value Stop) (op : Value → Value → Result Value Stop) (t₁ t₂ t₃ : Trace) (v₁ v₂ v : Value)
    → Worked r₁ t₁ v₁ → Worked r₂ t₂ v₂ → Worked (op v₁ v₂) t₃ v
    → Worked (r₁ >>= λ x. r₂ >>= λ y. op x y) (t₁ ++ (t₂ ++ t₃)) v
both_worked r₁ r₂ op t₁ t₂ t₃ v₁ v₂ v (stops s e f) w₂ w₃ = stops s (rw e refl) (stop_append t₁ (t₂ ++ t₃) s f)
both_worked r₁ r₂ op t₁ t₂ t₃ v₁ v₂ v (gives e₁ f₁) (stops s e f) w₃ =
    stops s (rw (e₁, e) refl) (stop_after t₁ (t₂ ++ t₃) s f₁ (stop_append t₂ t₃ s f))
both_worked r₁ r₂ op t₁ t₂ t₃ v₁ v₂ v (gives e₁ f₁) (gives e₂ f₂) (stops s e f) =
    stops s (rw (e₁, e₂) e) (stop_after t₁ (t₂ ++ t₃) s f₁ (stop_after t₂ t₃ s f₂ f))
both_worked r₁ r₂ op t₁ t₂ t₃ v₁ v₂ v (gives e₁ f₁) (gives e₂ f₂) (gives e f) =
    gives (rw (e₁, e₂) e) (free_append t₁ (t₂ ++ t₃) f₁ (free_append t₂ t₃ f₂ f))

sum_worked : (i : ℕ) (x y : ℤ) → Worked (sum i (whole_value x) (whole_value y)) (adds i (x +ℤ y) ∷ []) (whole_value (x +ℤ y))
sum_worked i x y = go (fits (x +ℤ y)) refl
  where
    go : (b : Bool) → fits (x +ℤ y) ≡ b → Worked (sum i (whole_value x) (whole_value y)) (adds i (x +ℤ y) ∷ []) (whole_value (x +ℤ y))
    go true e = gives (rw e refl) (λ u. rw e refl)
    go false e = stops (Sum i) (rw e refl) (λ u. rw e refl)

-- an operator that adds nothing
quiet : (r : Result Value Stop) (t₁ t₂ : Trace) (v : Value) → Worked r (t₁ ++ (t₂ ++ [])) v → Worked r (t₁ ++ t₂) v
quiet r t₁ t₂ v w = subst (λ (t : Trace). Worked r (t₁ ++ t) v) (append-nil t₂) w

told : (r : Result Value Stop) (t t' : Trace) (v v' : Value) → t ≡ t' → v ≡ v' → Worked r t' v' → Worked r t v
told r t t' v v' p q w = rw (p, q) w

pub worked : (ρ : R.Env) (σ : Stack) (e : Expr) (t : Trace) (v : Value) → IsValue (meant ρ) e σ t v → Worked (eval ρ σ e) t v
worked ρ σ (truth b) t v h = told _ t [] v _ h.1 h.0 (gives refl (λ u. refl))
worked ρ σ (whole z) t v h = told _ t [] v _ h.1 h.0 (gives refl (λ u. refl))
worked ρ σ (read i m) t v h = told _ t [] v v h.3 refl (gives (rw (of_place m ρ h.0 h.1, h.2) refl) (λ u. refl))
worked ρ σ (plus i e f) t v h =
    let (x, y, s, r, he, hf, hv, ht) = h in
    told _ t _ v _ ht hv
    (both_worked (eval ρ σ e) (eval ρ σ f) (sum i) s r (adds i (x +ℤ y) ∷ []) (whole_value x) (whole_value y) (whole_value (x +ℤ y))
    (worked ρ σ e s (whole_value x) he) (worked ρ σ f r (whole_value y) hf) (sum_worked i x y))
worked ρ σ (less i e f) t v h =
    let (x, y, s, r, he, hf, hv, ht) = h in
    told _ t _ v _ ht hv
    (quiet _ s r _ (both_worked (eval ρ σ e) (eval ρ σ f) less_than s r [] (whole_value x) (whole_value y) (truth_value (lt_z x y))
    (worked ρ σ e s (whole_value x) he) (worked ρ σ f r (whole_value y) hf) (gives refl (λ u. refl))))
worked ρ σ (or i e f) t v h =
    let (x, y, s, r, he, hf, hv, ht) = h in
    told _ t _ v _ ht hv
    (quiet _ s r _ (both_worked (eval ρ σ e) (eval ρ σ f) either_true s r [] (truth_value x) (truth_value y) (truth_value (x || y))
    (worked ρ σ e s (truth_value x) he) (worked ρ σ f r (truth_value y) hf) (gives refl (λ u. refl))))
