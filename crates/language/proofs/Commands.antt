-- The reference and the meaning of commands: the meaning's trace settles what the reference answers.
use Rattle.std.proofs.Common.{◌≡◌, ℕ, zero, suc, ◌-◌, ◌≤◌, Bool, true, false, cond, ◌⊎◌, List, [], ◌∷◌, ◌++◌, length, ℤ, pos, Some, None, Ok, Err, Option, Result, sym, refl, ap, ◌∙◌, subst, inl, inr, append-nil, arith}
use mathlib.Core.Path.{subst⁻¹}
use Rattle.language.specs.declared.values.Value.{Value}
use Rattle.language.specs.declared.values.Value.TheVariants.{Whole as whole_value, Truth as truth_value}
use Rattle.language.specs.declared.values.Stop.{Stop}
use Rattle.language.specs.declared.values.Stop.TheVariants.{Unit as UnitStop, Stuck}
use Rattle.language.specs.declared.values.Graded.{Graded}
use Rattle.language.specs.Values.{sort, alike}
use Rattle.language.specs.Results.{◌>>=◌, or_else}
use Rattle.language.specs.Sight.{Env, placed}
use Rattle.language.specs.Stack.{Stack, value_at, with_value}
use Rattle.language.specs.Tree.{Decl, Arg, Expr, Com, Procs, Coms, null, assign, if, while, call, block, pnil, pcons, cnil, ccons}
use Rattle.language.specs.Reference as R
use Rattle.language.specs.Reference.{Found, nothing, a_place, a_proc, located, write, as_truth, as_whole, allot, procs, bind_formals, called, eval, node_of, Left, each, exec, graded, finished, answer}
use Rattle.language.specs.Meaning.{begins, Trace, Effect, Places, Invoked, IsValue, CommandMeans, CommandsMean, procedures, fresh, Loop, leaves, again, Means}
use Rattle.language.specs.Laws.{units, AllFit, spend, GivesExactly, Settled, Steady}
use Rattle.language.proofs.Binds.{no_ok, ok_is, bind_ok, or_else_ok}
use Rattle.language.proofs.Types.{alike_eq, alike_self}
use Rattle.language.proofs.Traces.{spend_append, paid, pays, falls_short}
use Rattle.language.proofs.Expressions.{meant, meant_found, look_meant, place_of, of_place, Free, valued, Worked, gives, stops, worked}

-- a block's names and variables
meant_procs : (seen : R.Env) (ps : Procs) (ρ : R.Env) → meant (procs seen ps ρ) ≡ procedures (meant seen) ps (meant ρ)
meant_procs seen pnil ρ = refl
meant_procs seen (pcons i m fs c ps) ρ = meant_procs seen ps (R.proc m fs c seen ρ)

allot_stack : (ds : List Decl) (ρ : R.Env) (σ : Stack) → (allot ds ρ σ).1 ≡ (fresh ds σ).1
allot_stack [] ρ σ = refl
allot_stack (d ∷ ds) ρ σ = allot_stack ds _ _

allot_env : (ds : List Decl) (ρ : R.Env) (σ : Stack) → meant (allot ds ρ σ).0 ≡ placed ds (fresh ds σ).0 (meant ρ)
allot_env [] ρ σ = refl
allot_env (d ∷ ds) ρ σ = allot_env ds _ _

block_env : (ds : List Decl) (ps : Procs) (ρ : R.Env) (σ : Stack)
    → meant (procs (allot ds ρ σ).0 ps (allot ds ρ σ).0)
    ≡ procedures (placed ds (fresh ds σ).0 (meant ρ)) ps (placed ds (fresh ds σ).0 (meant ρ))
block_env ds ps ρ σ = meant_procs (allot ds ρ σ).0 ps (allot ds ρ σ).0 ∙ ap (λ (x : Env Effect). procedures x ps x) (allot_env ds ρ σ)

-- a call's names
called_is : (f : Found) (p : List Decl × Com × R.Env) → called f ≡ Ok p → f ≡ a_proc p.0 p.1 p.2
called_is nothing p h = absurd (no_ok _ p h)
called_is (a_place l) p h = absurd (no_ok _ p h)
called_is (a_proc fs c seen) p h = cc

bound_parts : (ρ : R.Env) (fs : List Decl) (seen : R.Env) (xs : List Arg) (ρ' : R.Env) → bind_formals ρ fs seen xs ≡ Ok ρ'
    → (ls : List ℕ) × Places (meant ρ) xs ls × (length xs ≡ length fs) × (meant ρ' ≡ placed fs ls (meant seen))
bound_parts ρ [] seen [] ρ' h = ([], tt, refl, ap meant (sym (ok_is h)))
bound_parts ρ [] seen (x ∷ xs) ρ' h = absurd (no_ok _ ρ' h)
bound_parts ρ (f ∷ fs) seen [] ρ' h = absurd (no_ok _ ρ' h)
bound_parts ρ (f ∷ fs) seen (x ∷ xs) ρ' h =
    let (l, p, q) = bind_ok (located (R.look x.name ρ)) _ ρ' h in
    let (ls, a, b, c) = bound_parts ρ fs (R.place f.name l seen) xs ρ' q in
    (l ∷ ls, (place_of x.name ρ l p, a), ap suc b, c)

binds : (ρ : R.Env) (fs : List Decl) (seen : R.Env) (xs : List Arg) (ls : List ℕ) → Places (meant ρ) xs ls → length xs ≡ length fs
    → (ρ' : R.Env) × (bind_formals ρ fs seen xs ≡ Ok ρ') × (meant ρ' ≡ placed fs ls (meant seen))
binds ρ [] seen [] [] h e = (seen, refl, refl)
binds ρ [] seen [] (l ∷ ls) h e = elim h [ ]
binds ρ [] seen (x ∷ xs) ls h e = absurd (omega arith)
binds ρ (f ∷ fs) seen [] ls h e = absurd (omega arith)
binds ρ (f ∷ fs) seen (x ∷ xs) [] h e = elim h [ ]
binds ρ (f ∷ fs) seen (x ∷ xs) (l ∷ ls) h e =
    let (ρ', p, q) = binds ρ fs (R.place f.name l seen) xs ls h.1 (omega arith) in
    (ρ', rw (of_place x.name ρ l h.0) p, q)

-- from the reference to the meaning
abbrev Ran : Effect → Stack → ℕ → Left → Type 0
Ran f σ u s = (t : Trace) × f σ t s.0 × (spend t u ≡ Ok s.1)

abbrev Sound : ℕ → Type 0
Sound n = (ρ : R.Env) (c : Com) (σ : Stack) (u : ℕ) (s : Left) → exec n ρ c σ u ≡ Ok s → Ran (CommandMeans (meant ρ) c) σ u s

spent : (t r : Trace) (u w v : ℕ) → spend t u ≡ Ok w → spend r w ≡ Ok v → spend (t ++ r) u ≡ Ok v
spent t r u w v p q = spend_append t r u ∙ rw p q

each_sound : (n : ℕ) → Sound n → (ρ : R.Env) (cs : Coms) (σ : Stack) (u : ℕ) (s : Left) → each (exec n ρ) cs σ u ≡ Ok s
    → Ran (CommandsMean (meant ρ) cs) σ u s
each_sound n ih ρ cnil σ u s h = let e = ok_is h in ([], (refl, ap (λ (x : Left). x.0) (sym e)), ap (λ (x : Left). Ok x.1) e)
each_sound n ih ρ (ccons c cs) σ u s h =
    let (m, p, q) = bind_ok (exec n ρ c σ u) _ s h in
    let (t₁, a₁, e₁) = ih ρ c σ u m p in
    let (t₂, a₂, e₂) = each_sound n ih ρ cs m.0 m.1 s q in
    (t₁ ++ t₂, (m.0, t₁, t₂, a₁, a₂, refl), spent t₁ t₂ u m.1 s.1 e₁ e₂)

truth_of : (v : Value) (b : Bool) → as_truth v ≡ Ok b → v ≡ truth_value b
truth_of (truth_value a) b h = ap truth_value (ok_is h)
truth_of (whole_value z) b h = absurd (no_ok _ b h)

tested : (ρ : R.Env) (σ : Stack) (e : Expr) (b : Bool) → (eval ρ σ e >>= as_truth) ≡ Ok b
    → (t : Trace) × IsValue (meant ρ) e σ t (truth_value b) × Free t
tested ρ σ e b h =
    let (v, p, q) = bind_ok (eval ρ σ e) as_truth b h in
    valued ρ σ e (truth_value b) (p ∙ ap Ok (truth_of v b q))

write_parts : (σ : Stack) (l : ℕ) (v : Value) (σ' : Stack) → write σ l v ≡ Ok σ'
    → (w : Value) × (value_at σ l ≡ Some w) × (sort w ≡ sort v) × (σ' ≡ with_value σ l v)
write_parts σ l v σ' h =
    let (w, p, q) = bind_ok (or_else Stuck (value_at σ l)) _ σ' h in
    go w (or_else_ok _ (value_at σ l) w p) (alike (sort w) (sort v)) refl q
  where
    go : (w : Value) → value_at σ l ≡ Some w → (b : Bool) → alike (sort w) (sort v) ≡ b → cond b (Ok (with_value σ l v)) (Err Stuck) ≡ Ok σ'
        → (x : Value) × (value_at σ l ≡ Some x) × (sort x ≡ sort v) × (σ' ≡ with_value σ l v)
    go w p true e h = (w, p, alike_eq (sort w) (sort v) e, sym (ok_is h))
    go w p false e h = absurd (no_ok _ σ' h)

sound_step : (n : ℕ) → Sound n → Sound (suc n)
sound_step n ih ρ c σ zero s h = absurd (no_ok _ s h)
sound_step n ih ρ (null i) σ (suc u) s h =
    let e = ok_is h in (begins i ∷ [], (refl, ap (λ (x : Left). x.0) (sym e)), ap (λ (x : Left). Ok x.1) e)
sound_step n ih ρ (assign i m e) σ (suc u) s h =
    let (v, p, q) = bind_ok (eval ρ σ e) _ s h in
    let (l, p₂, q₂) = bind_ok (located (R.look m ρ)) _ s q in
    let (σ', p₃, q₃) = bind_ok (write σ l v) _ s q₂ in
    let (w, a, b, c) = write_parts σ l v σ' p₃ in
    let (t, m₁, f) = valued ρ σ e v p in
    let x = ok_is q₃ in
    (begins i ∷ t, (l, v, w, t, place_of m ρ l p₂, m₁, a, b, ap (λ (y : Left). y.0) (sym x) ∙ c, refl), f u ∙ ap (λ (y : Left). Ok y.1) x)
sound_step n ih ρ (if i e c d) σ (suc u) s h =
    let (b, p, q) = bind_ok (eval ρ σ e >>= as_truth) _ s h in
    let (t, m, f) = tested ρ σ e b p in
    go b t m f q
  where
    go : (b : Bool) (t : Trace) → IsValue (meant ρ) e σ t (truth_value b) → Free t
        → cond b (exec n ρ c σ u) (exec n ρ d σ u) ≡ Ok s → Ran (CommandMeans (meant ρ) (if i e c d)) σ (suc u) s
    go true t m f q =
        let (r, a, x) = ih ρ c σ u s q in
        (begins i ∷ (t ++ r), (true, t, r, m, a, refl), spent t r u u s.1 (f u) x)
    go false t m f q =
        let (r, a, x) = ih ρ d σ u s q in
        (begins i ∷ (t ++ r), (false, t, r, m, a, refl), spent t r u u s.1 (f u) x)
sound_step n ih ρ (while i e c) σ (suc u) s h =
    let (b, p, q) = bind_ok (eval ρ σ e >>= as_truth) _ s h in
    let (t, m, f) = tested ρ σ e b p in
    go b t m f q
  where
    go : (b : Bool) (t : Trace) → IsValue (meant ρ) e σ t (truth_value b) → Free t
        → cond b (exec n ρ c σ u >>= λ s. exec n ρ (while i e c) s.0 s.1) (Ok (σ, u)) ≡ Ok s
        → Ran (CommandMeans (meant ρ) (while i e c)) σ (suc u) s
    go true t m f q =
        let (k, p, q') = bind_ok (exec n ρ c σ u) _ s q in
        let (t₁, a₁, x₁) = ih ρ c σ u k p in
        let (t₂, a₂, x₂) = ih ρ (while i e c) k.0 k.1 s q' in
        (begins i ∷ (t ++ (t₁ ++ t₂)), again m a₁ a₂, spent t (t₁ ++ t₂) u u s.1 (f u) (spent t₁ t₂ u k.1 s.1 x₁ x₂))
    go false t m f q =
        let x = ok_is q in
        let y : σ ≡ s.0 = ap (λ (z : Left). z.0) x in
        (begins i ∷ t, subst (λ (r : Stack). Loop i (IsValue (meant ρ) e) (CommandMeans (meant ρ) c) σ (begins i ∷ t) r) y (leaves m), f u ∙ ap (λ (z : Left). Ok z.1) x)
sound_step n ih ρ (call i m xs) σ (suc u) s h =
    let (p, a, b) = bind_ok (called (R.look m ρ)) _ s h in
    let (ρ', a₂, b₂) = bind_ok (bind_formals ρ p.0 p.2 xs) _ s b in
    let (ls, x, y, z) = bound_parts ρ p.0 p.2 xs ρ' a₂ in
    let (t, r, e) = ih ρ' p.1 σ u s b₂ in (
      begins i ∷ t,
      (
        ls,
        t,
        x,
        subst⁻¹ (λ o. Invoked o (length xs) ls σ t s.0) (look_meant m ρ ∙ ap meant_found (called_is (R.look m ρ) p a))
            (y, subst (λ (g : Env Effect). CommandMeans g p.1 σ t s.0) z r),
        refl,
      ),
      e,
    )
sound_step n ih ρ (block i ds ps cs) σ (suc u) s h =
    let (k, p, q) = bind_ok (each (exec n (procs (allot ds ρ σ).0 ps (allot ds ρ σ).0)) cs (allot ds ρ σ).1 u) _ s h in
    let (t, a, e) = each_sound n ih (procs (allot ds ρ σ).0 ps (allot ds ρ σ).0) cs (allot ds ρ σ).1 u k p in
    let x = ok_is q in (
      begins i ∷ t,
      (
        k.0,
        t,
        subst (λ (g : Env Effect). CommandsMean g cs (fresh ds σ).1 t k.0) (block_env ds ps ρ σ)
            (subst (λ (μ : Stack). CommandsMean (meant (procs (allot ds ρ σ).0 ps (allot ds ρ σ).0)) cs μ t k.0) (allot_stack ds ρ σ) a),
        ap (λ (y : Left). y.0) (sym x),
        refl,
      ),
      e ∙ ap (λ (y : Left). Ok y.1) x,
    )

sound : (n : ℕ) → Sound n
sound zero = λ ρ c σ u s h. absurd (no_ok _ s h)
sound (suc n) = sound_step n (sound n)

-- from the meaning to the reference
loop_parts : {i : ℕ} {test : Stack → Trace → Value → Type 0} {body : Effect} {σ : Stack} {t : Trace} {σ' : Stack} → Loop i test body σ t σ'
    → ((s : Trace) × test σ s (truth_value false) × (t ≡ begins i ∷ s) × (σ' ≡ σ))
    ⊎ ((s r q : Trace) × (τ : Stack) × test σ s (truth_value true) × body σ r τ × Loop i test body τ q σ' × (t ≡ begins i ∷ (s ++ (r ++ q))))
loop_parts (leaves {t = s} h) = inl (s, h, refl, refl)
loop_parts (again {σ' = τ} {t = s} {r} {s = q} h b l) = inr (s, r, q, τ, h, b, l, refl)

begins_first : (ρ : Env Effect) (c : Com) (σ : Stack) (t : Trace) (σ' : Stack) → CommandMeans ρ c σ t σ' → (r : Trace) × (t ≡ begins (node_of c) ∷ r)
begins_first ρ (null i) σ t σ' h = ([], h.0)
begins_first ρ (assign i m e) σ t σ' h = (h.3, h.9)
begins_first ρ (if i e c d) σ t σ' h = (h.1 ++ h.2, h.5)
begins_first ρ (while i e c) σ t σ' h = go (loop_parts h)
  where
    go : ((s : Trace) × IsValue ρ e σ s (truth_value false) × (t ≡ begins i ∷ s) × (σ' ≡ σ))
        ⊎ ((s r q : Trace) × (τ : Stack) × IsValue ρ e σ s (truth_value true) × CommandMeans ρ c σ r τ × Loop i (IsValue ρ e) (CommandMeans ρ c) τ q σ' × (t ≡ begins i ∷ (s ++ (r ++ q))))
        → (r : Trace) × (t ≡ begins i ∷ r)
    go (inl x) = (x.0, x.2)
    go (inr x) = (x.0 ++ (x.1 ++ x.2), x.7)
begins_first ρ (call i m xs) σ t σ' h = (h.1, h.4)
begins_first ρ (block i ds ps cs) σ t σ' h = (h.1, h.4)

-- what the trace leaves, with the variables
abbrev after : Trace → ℕ → Stack → Result Left Stop
after t u σ = spend t u >>= λ w. Ok (σ, w)

abbrev Complete : ℕ → Type 0
Complete n = (ρ : R.Env) (c : Com) (σ : Stack) (u : ℕ) (t : Trace) (σ' : Stack) → CommandMeans (meant ρ) c σ t σ' → u ≤ n → exec n ρ c σ u ≡ after t u σ'

no_unit : (ρ : R.Env) (c : Com) (σ : Stack) (t : Trace) (σ' : Stack) → CommandMeans (meant ρ) c σ t σ' → Err (UnitStop (node_of c)) ≡ after t zero σ'
no_unit ρ c σ t σ' h = let (r, e) = begins_first (meant ρ) c σ t σ' h in rw e refl

-- one trace after the other, where the second part goes on from what the first leaves
in_turn : (x : Result Left Stop) (k : Left → Result Left Stop) (s r : Trace) (u n : ℕ) (τ σ' : Stack) → u ≤ n → x ≡ after s u τ
    → ((w : ℕ) → w ≤ n → k (τ, w) ≡ after r w σ') → (x >>= k) ≡ after (s ++ r) u σ'
in_turn x k s r u n τ σ' le e h = rw (e, spend_append s r u) (go (spend s u) refl)
  where
    go : (y : Result ℕ Stop) → spend s u ≡ y → ((y >>= λ w. Ok (τ, w)) >>= k) ≡ ((y >>= λ w. spend r w) >>= λ w. Ok (σ', w))
    go (Ok w) q = let (p, f) = paid s u w q in h w (omega arith)
    go (Err z) q = refl

-- an expression first: its trace takes no unit
worked_first : (x : Result Value Stop) (k : Value → Result Left Stop) (s r : Trace) (v : Value) (u : ℕ) (σ' : Stack) → Worked x s v
    → k v ≡ after r u σ' → (x >>= k) ≡ after (s ++ r) u σ'
worked_first x k s r v u σ' (gives e f) h = rw (e, spend_append s r u, f u) h
worked_first x k s r v u σ' (stops z e f) h = rw (e, spend_append s r u, f u) refl

each_complete : (n : ℕ) → Complete n → (ρ : R.Env) (cs : Coms) (σ : Stack) (u : ℕ) (t : Trace) (σ' : Stack) → CommandsMean (meant ρ) cs σ t σ'
    → u ≤ n → each (exec n ρ) cs σ u ≡ after t u σ'
each_complete n ih ρ cnil σ u t σ' h le = rw (h.0, h.1) refl
each_complete n ih ρ (ccons c cs) σ u t σ' h le =
    let (τ, s, r, a, b, x) = h in
    rw x (in_turn (exec n ρ c σ u) _ s r u n τ σ' le (ih ρ c σ u s τ a le) (λ w lw. each_complete n ih ρ cs τ w r σ' b lw))

-- a test, and then what it says
test_first : (ρ : R.Env) (σ : Stack) (e : Expr) (k : Bool → Result Left Stop) (s r : Trace) (b : Bool) (u : ℕ) (σ' : Stack)
    → IsValue (meant ρ) e σ s (truth_value b) → k b ≡ after r u σ' → (eval ρ σ e >>= as_truth >>= k) ≡ after (s ++ r) u σ'
test_first ρ σ e k s r b u σ' h q = go (worked ρ σ e s (truth_value b) h)
  where
    go : Worked (eval ρ σ e) s (truth_value b) → (eval ρ σ e >>= as_truth >>= k) ≡ after (s ++ r) u σ'
    go (gives e f) = rw (e, spend_append s r u, f u) q
    go (stops z e f) = rw (e, spend_append s r u, f u) refl

append_none : (s : Trace) (u : ℕ) (σ : Stack) → after (s ++ []) u σ ≡ after s u σ
append_none s u σ = ap (λ (t : Trace). after t u σ) (append-nil s)

complete_step : (n : ℕ) → Complete n → Complete (suc n)
complete_step n ih ρ c σ zero t σ' h le = no_unit ρ c σ t σ' h
complete_step n ih ρ (null i) σ (suc u) t σ' h le = rw (h.0, h.1) refl
complete_step n ih ρ (assign i m e) σ (suc u) t σ' h le =
    let (l, v, w, r, hl, hv, hw, hk, hs, ht) = h in
    let like : alike (sort w) (sort v) ≡ true = rw hk (alike_self (sort v)) in
    rw ht (worked_first (eval ρ σ e) _ r [] v u σ' (worked ρ σ e r v hv) (rw (of_place m ρ l hl, hw, like, hs) refl) ∙ append_none r u σ')
complete_step n ih ρ (if i e c d) σ (suc u) t σ' h le =
    let (b, s, r, hv, hc, ht) = h in
    rw ht (test_first ρ σ e _ s r b u σ' hv (go b r hc))
  where
    go : (b : Bool) (r : Trace) → cond b (CommandMeans (meant ρ) c σ r σ') (CommandMeans (meant ρ) d σ r σ') → cond b (exec n ρ c σ u) (exec n ρ d σ u) ≡ after r u σ'
    go true r h = ih ρ c σ u r σ' h (omega arith)
    go false r h = ih ρ d σ u r σ' h (omega arith)
complete_step n ih ρ (while i e c) σ (suc u) t σ' h le = go (loop_parts h)
  where
    go : ((s : Trace) × IsValue (meant ρ) e σ s (truth_value false) × (t ≡ begins i ∷ s) × (σ' ≡ σ))
        ⊎ ((s r q : Trace) × (τ : Stack) × IsValue (meant ρ) e σ s (truth_value true) × CommandMeans (meant ρ) c σ r τ
        × Loop i (IsValue (meant ρ) e) (CommandMeans (meant ρ) c) τ q σ' × (t ≡ begins i ∷ (s ++ (r ++ q))))
        → exec (suc n) ρ (while i e c) σ (suc u) ≡ after t (suc u) σ'
    go (inl x) =
        let (s, hv, ht, hs) = x in
        rw ht (test_first ρ σ e _ s [] false u σ' hv (rw hs refl) ∙ append_none s u σ')
    go (inr x) =
        let (s, r, q, τ, hv, hc, hl, ht) = x in
        rw ht (test_first ρ σ e _ s (r ++ q) true u σ' hv
        (in_turn (exec n ρ c σ u) _ r q u n τ σ' (omega arith) (ih ρ c σ u r τ hc (omega arith)) (λ w lw. ih ρ (while i e c) τ w q σ' hl lw)))
complete_step n ih ρ (call i m xs) σ (suc u) t σ' h le =
    let (ls, r, hp, hi, ht) = h in
    go ls r hp (R.look m ρ) refl (subst (λ o. Invoked o (length xs) ls σ r σ') (look_meant m ρ) hi) ht
  where
    go : (ls : List ℕ) (r : Trace) → Places (meant ρ) xs ls → (f : Found) → R.look m ρ ≡ f → Invoked (meant_found f) (length xs) ls σ r σ'
        → t ≡ begins i ∷ r → exec (suc n) ρ (call i m xs) σ (suc u) ≡ after t (suc u) σ'
    go ls r hp nothing e hi ht = elim hi [ ]
    go ls r hp (a_place l) e hi ht = elim hi [ ]
    go ls r hp (a_proc fs c seen) e hi ht =
        let (ρ', p, q) = binds ρ fs seen xs ls hp hi.0 in
        rw (ht, e, p) (ih ρ' c σ u r σ' (subst⁻¹ (λ (g : Env Effect). CommandMeans g c σ r σ') q hi.1) (omega arith))
complete_step n ih ρ (block i ds ps cs) σ (suc u) t σ' h le =
    let (τ, r, hc, hs, ht) = h in
    let a = subst⁻¹ (λ (μ : Stack). CommandsMean (meant (procs (allot ds ρ σ).0 ps (allot ds ρ σ).0)) cs μ r τ) (allot_stack ds ρ σ)
    (subst⁻¹ (λ (g : Env Effect). CommandsMean g cs (fresh ds σ).1 r τ) (block_env ds ps ρ σ) hc) in
    rw ht (in_turn (each (exec n (procs (allot ds ρ σ).0 ps (allot ds ρ σ).0)) cs (allot ds ρ σ).1 u) _ r [] u n τ σ' (omega arith)
    (each_complete n ih (procs (allot ds ρ σ).0 ps (allot ds ρ σ).0) cs (allot ds ρ σ).1 u r τ a (omega arith)) (λ w lw. rw hs refl) ∙ append_none r u σ')

complete : (n : ℕ) → Complete n
complete zero = λ ρ c σ u t σ' h le. let e : u ≡ zero = omega arith in rw e (no_unit ρ c σ t σ' h)
complete (suc n) = complete_step n (complete n)

-- the whole run
abbrev start_env : R.Env
start_env = R.place 1 1 (R.place 0 0 R.empty)

abbrev start_stack : ℤ → Stack
start_stack step = whole_value (pos 0) ∷ whole_value step ∷ []

pub settled : Settled
settled c step t z h a =
    let (σ, m, v) = h in
    let e = complete a start_env c (start_stack step) a t σ m (omega arith) in
    rw e (go (spend t a))
  where
    go : (y : Result ℕ Stop) → ((y >>= λ w. Ok (h.0, w)) >>= finished a) ≡ (y >>= λ left. Ok (graded z (a - left)))
    go (Ok w) = rw h.2 refl
    go (Err s) = refl

finished_parts : (a : ℕ) (s : Left) (g : Graded) → finished a s ≡ Ok g → (value_at s.0 1 ≡ Some (whole_value g.shift)) × (a - s.1 ≡ g.units)
finished_parts a s g h = go (value_at s.0 1) h
  where
    go : (o : Option Value) → (or_else Stuck o >>= as_whole >>= λ z. Ok (graded z (a - s.1))) ≡ Ok g
        → (o ≡ Some (whole_value g.shift)) × (a - s.1 ≡ g.units)
    go None h = absurd (no_ok _ g h)
    go (Some (truth_value b)) h = absurd (no_ok _ g h)
    go (Some (whole_value y)) h =
        let e = ok_is h in (ap (λ (x : Graded). Some (whole_value x.shift)) e, ap (λ (x : Graded). x.units) e)

pub gives_exactly : GivesExactly
gives_exactly c step a z u = (there, back)
  where
    there : answer c step a ≡ Ok (graded z u) → (t : Trace) × Means c step t z × (units t ≡ u) × (u ≤ a) × AllFit t
    there h =
        let (s, p, q) = bind_ok (exec a start_env c (start_stack step) a) (finished a) (graded z u) h in
        let (t, m, e) = sound a start_env c (start_stack step) a s p in
        let (v, w) = finished_parts a s (graded z u) q in
        let (k, f) = paid t a s.1 e in
        (t, (s.0, m, v), omega arith, omega arith, f)

    back : ((t : Trace) × Means c step t z × (units t ≡ u) × (u ≤ a) × AllFit t) → answer c step a ≡ Ok (graded z u)
    back h =
        let (t, m, e, le, f) = h in
        let p = pays t a (a - u) f (omega arith) in
        let w : a - (a - u) ≡ u = omega arith in
        settled c step t z m a ∙ rw p (ap (λ k. Ok (graded z k)) w)

pub steady : Steady
steady c step a z u h =
    let (t, m, e, le, f) = (gives_exactly c step a z u).0 h in
    (t, m, e, λ b l. (gives_exactly c step b z u).1 (t, m, e, l, f), λ b l. settled c step t z m b ∙ rw (falls_short t b f (omega arith)) refl)
