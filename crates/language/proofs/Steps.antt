-- The small steps: reading, writing, taking and releasing locations, and the value of an expression.
use Rattle.std.proofs.Common.{◌≡◌, ℕ, suc, ◌+◌, ◌<◌, ◌≤◌, Bool, true, false, cond, List, [], ◌∷◌, length, ℤ, ◌+ℤ◌, Some, None, Ok, Err, Option, Result, sym, refl, ap, ◌∙◌, subst, inl, inr, arith}
use mathlib.Core.Option.{Option as Found, some}
use lib.Signed.{lt_z}
use Rattle.language.specs.declared.values.Scalar.{Scalar}
use Rattle.language.specs.declared.values.Scalar.TheVariants.{Whole as wholes, Truth as truths}
use Rattle.language.specs.declared.values.Value.{Value}
use Rattle.language.specs.declared.values.Value.TheVariants.{Whole as whole_value, Truth as truth_value}
use Rattle.language.specs.declared.values.Stop.{Stop}
use Rattle.language.specs.declared.values.Stop.TheVariants.{Sum, Stuck}
use Rattle.language.specs.Values.{fits, sort, alike, initial_value, sum, less_than, either_true}
use Rattle.language.specs.Results as Q
use Rattle.language.specs.Results.{or_else}
use Rattle.language.specs.Memory.{Memory, put, live}
use Rattle.language.specs.Stack.{value_at, with_value}
use Rattle.language.specs.Sight.{Sight, look, Bound, find}
use Rattle.language.specs.Sight as S
use Rattle.language.specs.Tree.{Decl, Arg, Expr, truth, whole, read, plus, less, or}
use Rattle.language.specs.Names.{Entry, variable, types, as_variable, check_expr, check_args}
use Rattle.language.specs.Reference as R
use Rattle.language.specs.Runs as M
use Rattle.language.specs.Runs.{Out, ended, stopped, Step, Env, give, stop, answered, fetch, change, take_one, take_all, release, release_all, located, locations}
use Rattle.language.proofs.Binds.{no_ok, ok_is, bind_ok}
use Rattle.language.proofs.Types.{alike_self, variable_found}
use Rattle.language.proofs.Checked.{two_operands}
use Rattle.language.proofs.Sim.{Sim, Agree, ends, bind, gives, answers, sum≢stuck, end≢stop, moved}
use Rattle.language.proofs.World.{overlay, Typed, Fine, Where, pushed, reads, writes, free, counts, Live, cleared, room_left}
use Rattle.language.proofs.Names.{Rel, a_variable, Related, Matched, places, Runs, Back}

-- a step that leaves the store and the units as they are
abbrev pub Yields : {A X : Type 0} → ℕ → (Memory → Type 0) → Memory → ℕ → (A → X → Type 0) → Step A → Result X Stop → Type 0
Yields limit B σ u T m x = Sim limit B m σ u (λ _ _. σ) (λ _ _. u) T x

-- a value of a type
abbrev pub OfType : Scalar → Value → Value → Type 0
OfType t v w = (v ≡ w) × (sort w ≡ t)

pub located_sim : {limit : ℕ} {B : Memory → Type 0} {σ : Memory} {ls : List ℕ} {ts : List Scalar} {t : Scalar} {b : Found (Bound (Step (Unit {0})))} {f : R.Found} (τ : Memory) (u : ℕ)
    → Rel limit σ ls ts (variable t) b f → Yields {A = ℕ} {X = ℕ} limit B τ u (λ l k. Where k l t ls ts) (located b) (R.located f)
located_sim τ u (a_variable l k t w) = gives l _ _ _ k refl refl w

fetch_some : (σ : Memory) (l : ℕ) (v : Value) (u : ℕ) → σ l ≡ Some v → (o : Out Value) → fetch l σ u o → o ≡ ended v σ u
fetch_some σ l v u e o h = subst (λ (w : Option Value). answered (or_else Stuck w) σ u o) e h

fetch_goes : (σ : Memory) (l : ℕ) (v : Value) (u : ℕ) → σ l ≡ Some v → fetch l σ u (ended v σ u)
fetch_goes σ l v u e = subst (λ (w : Option Value). answered (or_else Stuck w) σ u (ended v σ u)) (sym e) refl

-- a run's locations and values
pub record World (σ : Memory) (ls : List ℕ) (ts : List Scalar) (vs : List Value) : Type 0 where
  pub fine : Fine σ ls
  pub typed : Typed ls ts vs

pub fetch_sim : {limit : ℕ} {B : Memory → Type 0} {σ : Memory} {ls : List ℕ} {ts : List Scalar} {vs : List Value} (u k l : ℕ) (t : Scalar) → World σ ls ts vs → Where k l t ls ts
    → Yields limit B (overlay σ ls vs) u (OfType t) (fetch l) (or_else Stuck (value_at vs k))
fetch_sim {σ} {ls} {ts} {vs} u k l t W w =
    let (v, em, er, et) = reads σ k l t ls ts vs W.fine W.typed w in
    record {
      run = λ o q. ends v v (fetch_some (overlay σ ls vs) l v u em o q) (ap (or_else Stuck) er) (refl, et);
      goes = λ _. (ended v (overlay σ ls vs) u, fetch_goes (overlay σ ls vs) l v u em);
    }

-- what comes after a value
pub bind_value : {limit : ℕ} {B : Memory → Type 0} {C Y : Type 0} (m : Step Value) (k : Value → Step C) {σ : Memory} {u : ℕ} {t : Scalar} {x : Result Value Stop}
    {mem : C → Y → Memory} {left : C → Y → ℕ} {T : C → Y → Type 0} (j : Value → Result Y Stop)
    → Yields limit B σ u (OfType t) m x
    → ((v : Value) → sort v ≡ t → Sim limit B (k v) σ u mem left T (j v))
    → Sim limit B (M.◌>>=◌ m k) σ u mem left T (Q.◌>>=◌ x j)
bind_value {limit} {B} m k {σ} {u} {mem} {left} {T} j S K =
    bind m k j S (λ a y p. subst (λ a. Sim limit B (k a) σ u mem left T (j y)) (sym p.0) (K y p.1))

abbrev IsTruths : Scalar → Type 0
IsTruths wholes = ⊥
IsTruths truths = Unit {0}

pub truths≢wholes : {A : Type 0} → truths ≡ wholes → A
truths≢wholes e = absurd (subst IsTruths e tt)

-- the operators, on operands of their types
abbrev Works : Result Value Stop → Scalar → Type 0
Works r t = (r ≡ Err Stuck → ⊥) × ((v : Value) → r ≡ Ok v → sort v ≡ t)

ok_stuck : {A : Type 0} (a : A) → Ok a ≡ Err Stuck → ⊥
ok_stuck a e = no_ok Stuck a (sym e)

works_ok : (v : Value) (t : Scalar) → sort v ≡ t → Works (Ok v) t
works_ok v t e = (ok_stuck v, λ w h. ap sort (sym (ok_is h)) ∙ e)

sum_works : (i : ℕ) (v w : Value) → sort v ≡ wholes → sort w ≡ wholes → Works (sum i v w) wholes
sum_works i (truth_value b) w e f = truths≢wholes e
sum_works i (whole_value x) (truth_value b) e f = truths≢wholes f
sum_works i (whole_value x) (whole_value y) e f = go (fits (x +ℤ y))
  where
    go : (b : Bool) → Works (cond b (Ok (whole_value (x +ℤ y))) (Err (Sum i))) wholes
    go true = works_ok (whole_value (x +ℤ y)) wholes refl
    go false = (λ e. sum≢stuck {i = i} (cc), λ v h. absurd (no_ok _ v h))

less_works : (v w : Value) → sort v ≡ wholes → sort w ≡ wholes → Works (less_than v w) truths
less_works (truth_value b) w e f = truths≢wholes e
less_works (whole_value x) (truth_value b) e f = truths≢wholes f
less_works (whole_value x) (whole_value y) e f = works_ok (truth_value (lt_z x y)) truths refl

either_works : (v w : Value) → sort v ≡ truths → sort w ≡ truths → Works (either_true v w) truths
either_works (whole_value x) w e f = truths≢wholes (sym e)
either_works (truth_value x) (whole_value y) e f = truths≢wholes (sym f)
either_works (truth_value x) (truth_value y) e f = works_ok _ truths refl

pub truth_sim : {limit : ℕ} {B : Memory → Type 0} (σ : Memory) (u : ℕ) (v : Value) → sort v ≡ truths → Yields {A = Bool} {X = Bool} limit B σ u (λ a b. a ≡ b) (answered (R.as_truth v)) (R.as_truth v)
truth_sim σ u (truth_value b) e = gives b _ _ _ b refl refl refl
truth_sim σ u (whole_value z) e = truths≢wholes (sym e)

pub whole_sim : {limit : ℕ} {B : Memory → Type 0} (σ : Memory) (u : ℕ) (v : Value) → sort v ≡ wholes → Yields {A = ℤ} {X = ℤ} limit B σ u (λ a b. a ≡ b) (answered (R.as_whole v)) (R.as_whole v)
whole_sim σ u (whole_value z) e = gives z _ _ _ z refl refl refl
whole_sim σ u (truth_value b) e = truths≢wholes e

binary : {limit : ℕ} {B : Memory → Type 0} {σ : Memory} {u : ℕ} {t : Scalar} (w z : Scalar) (m₁ m₂ : Step Value) (x₁ x₂ : Result Value Stop) (op : Value → Value → Result Value Stop)
    → B σ → Yields limit B σ u (OfType w) m₁ x₁ → Yields limit B σ u (OfType w) m₂ x₂ → ((a b : Value) → sort a ≡ w → sort b ≡ w → Works (op a b) z) → z ≡ t
    → Yields limit B σ u (OfType t) (M.◌>>=◌ m₁ (λ a. M.◌>>=◌ m₂ (λ b. answered (op a b)))) (Q.◌>>=◌ x₁ (λ a. Q.◌>>=◌ x₂ (λ b. op a b)))
binary {limit} {B} {σ} {u} w z m₁ m₂ x₁ x₂ op b S₁ S₂ K e =
    subst (λ t. Yields limit B σ u (OfType t) (M.◌>>=◌ m₁ (λ a. M.◌>>=◌ m₂ (λ b. answered (op a b)))) (Q.◌>>=◌ x₁ (λ a. Q.◌>>=◌ x₂ (λ b. op a b)))) e
    (bind_value m₁ (λ a. M.◌>>=◌ m₂ (λ b. answered (op a b))) (λ a. Q.◌>>=◌ x₂ (λ b. op a b)) S₁
    (λ x p. bind_value m₂ (λ y. answered (op x y)) (op x) S₂ (λ y r. let k = K x y p r in answers (λ v. sort v ≡ z) (op x y) k.0 b k.1)))

module _ {limit : ℕ} {B : Memory → Type 0} {σ : Memory} {ls : List ℕ} {ts : List Scalar} {vs : List Value} {Γ : Sight Entry} {ρ : Env} {ρ' : R.Env} (u : ℕ)
    (b : B (overlay σ ls vs)) (W : World σ ls ts vs) (E : Related limit σ ls ts Γ ρ ρ') where
  pub value_sim : (e : Expr) (t : Scalar) → check_expr Γ e ≡ Ok t → Yields limit B (overlay σ ls vs) u (OfType t) (M.value ρ e) (R.eval ρ' vs e)
  value_sim (truth x) t q = gives _ _ _ _ (truth_value x) refl refl (refl, ok_is q)
  value_sim (whole z) t q = gives _ _ _ _ (whole_value z) refl refl (refl, ok_is q)
  value_sim (read i m) t q =
      bind (located (find m ρ)) fetch (λ l. or_else Stuck (value_at vs l))
      (located_sim (overlay σ ls vs) u (E.named m (variable t) (variable_found i (look m Γ) t q)))
      (λ l k w. fetch_sim u k l t W w)
  value_sim (plus i e f) t q =
      let (p, r, z) = two_operands wholes wholes t _ (check_expr Γ e) (check_expr Γ f) q in
      binary wholes wholes (M.value ρ e) (M.value ρ f) (R.eval ρ' vs e) (R.eval ρ' vs f) (sum i) b
      (value_sim e wholes p) (value_sim f wholes r) (sum_works i) z
  value_sim (less i e f) t q =
      let (p, r, z) = two_operands wholes truths t _ (check_expr Γ e) (check_expr Γ f) q in
      binary wholes truths (M.value ρ e) (M.value ρ f) (R.eval ρ' vs e) (R.eval ρ' vs f) less_than b
      (value_sim e wholes p) (value_sim f wholes r) less_works z
  value_sim (or i e f) t q =
      let (p, r, z) = two_operands truths truths t _ (check_expr Γ e) (check_expr Γ f) q in
      binary truths truths (M.value ρ e) (M.value ρ f) (R.eval ρ' vs e) (R.eval ρ' vs f) either_true b
      (value_sim e truths p) (value_sim f truths r) either_works z

  pub test_sim : (e : Expr) → check_expr Γ e ≡ Ok truths
      → Yields {A = Bool} {X = Bool} limit B (overlay σ ls vs) u (λ a b. a ≡ b) (M.test ρ e) (Q.◌>>=◌ (R.eval ρ' vs e) R.as_truth)
  test_sim e q = bind_value (M.value ρ e) (λ v. answered (R.as_truth v)) R.as_truth (value_sim e truths q) (λ v h. truth_sim (overlay σ ls vs) u v h)

-- a value stored at a variable's location
pub store_sim : {limit : ℕ} {σ : Memory} {ls : List ℕ} {ts : List Scalar} {vs : List Value} (fuel u k l : ℕ) (t : Scalar) (v : Value) → World σ ls ts vs → Where k l t ls ts → sort v ≡ t → u ≤ fuel
    → Runs limit σ ls ts fuel (M.store l v) vs u (Q.◌>>=◌ {B = R.Left} (R.write vs k v) (λ vs'. Ok (vs', u)))
store_sim {σ} {ls} {ts} {vs} fuel u k l t v W w e le =
    record { run = go; goes = λ _. (ended tt (put (overlay σ ls vs) l (Some v)) u, inr (r.0, overlay σ ls vs, u, fetch_goes (overlay σ ls vs) l r.0 u r.1, may)) }
  where
    r : (w : Value) × (overlay σ ls vs l ≡ Some w) × (value_at vs k ≡ Some w) × (sort w ≡ t)
    r = reads σ k l t ls ts vs W.fine W.typed w

    like : alike (sort r.0) (sort v) ≡ true
    like = rw (r.3 ∙ sym e) (alike_self (sort v))

    may : cond (alike (sort r.0) (sort v)) (change l (Some v)) (stop Stuck) (overlay σ ls vs) u (ended tt (put (overlay σ ls vs) l (Some v)) u)
    may = rw like refl

    wrote : Q.◌>>=◌ {B = R.Left} (R.write vs k v) (λ vs'. Ok (vs', u)) ≡ Ok (with_value vs k v, u)
    wrote = rw (r.2, like) refl

    go : (o : Out (Unit {0})) → M.store l v (overlay σ ls vs) u o → Agree (Back σ ls ts) (λ _ y. overlay σ ls y.0) (λ _ y. y.1) (λ _ y. Typed ls ts y.0 × (y.1 ≤ fuel)) o (Q.◌>>=◌ {B = R.Left} (R.write vs k v) (λ vs'. Ok (vs', u)))
    go o (inl h) = absurd (end≢stop (sym (fetch_some (overlay σ ls vs) l r.0 u r.1 (stopped h.0 h.1) h.2)))
    go o (inr h) =
        let q = moved (λ w. cond (alike (sort w) (sort v)) (change l (Some v)) (stop Stuck))
        (fetch_some (overlay σ ls vs) l r.0 u r.1 (ended h.0 h.1 h.2) h.3) h.4 in
        let p = writes σ k l t v ls ts vs W.fine W.typed w e in
        ends tt (with_value vs k v, u) ((rw like at q) ∙ ap (λ τ. ended tt τ u) p.0) wrote (p.1, le)

-- the locations of a call's arguments
pub record FoundArgs (limit : ℕ) (B : Memory → Type 0) (σ : Memory) (ls : List ℕ) (ts : List Scalar) (vs : List Value) (u : ℕ) (ρ : Env) (ρ' : R.Env) (xs : List Arg) (tys : List Scalar) : Type 0 where
  pub ks : List ℕ
  pub ys : List ℕ
  pub matched : Matched ks ys tys ls ts
  pub many : length xs ≡ length tys
  pub bound : (fs : List Decl) (seen : R.Env) → length fs ≡ length tys → R.bind_formals ρ' fs seen xs ≡ Ok (places fs ks seen)
  pub found : Yields {A = List ℕ} {X = Unit {0}} limit B (overlay σ ls vs) u (λ zs _. zs ≡ ys) (locations ρ xs) (Ok (Prim.tt {0}))

rel_variable : {limit : ℕ} {σ : Memory} {ls : List ℕ} {ts : List Scalar} {t : Scalar} {b : Found (Bound (Step (Unit {0})))} {f : R.Found} → Rel limit σ ls ts (variable t) b f
    → (l : ℕ) × (k : ℕ) × (b ≡ some (S.place l)) × (f ≡ R.a_place k) × Where k l t ls ts
rel_variable (a_variable l k t w) = (l, k, refl, refl, w)

module _ {limit : ℕ} {B : Memory → Type 0} {σ : Memory} {ls : List ℕ} {ts : List Scalar} {vs : List Value} {Γ : Sight Entry} {ρ : Env} {ρ' : R.Env} (u : ℕ)
    (E : Related limit σ ls ts Γ ρ ρ') where
  one_more : (x : Arg) (t : Scalar) (xs : List Arg) (tys : List Scalar) (l k : ℕ) → find x.name ρ ≡ some (S.place l) → R.look x.name ρ' ≡ R.a_place k → Where k l t ls ts
      → FoundArgs limit B σ ls ts vs u ρ ρ' xs tys → FoundArgs limit B σ ls ts vs u ρ ρ' (x ∷ xs) (t ∷ tys)
  one_more x t xs tys l k eb ef w F =
      record {
        ks = k ∷ F.ks;
        ys = l ∷ F.ys;
        matched = (w, F.matched);
        many = ap suc F.many;
        bound = elim [ [] ↦ λ seen q. absurd (omega arith) | f ∷ fs ↦ λ seen q. rw ef (F.bound fs (R.place f.name k seen) (omega arith)) ];
        found =
            bind (located (find x.name ρ)) (λ a. M.◌>>=◌ (locations ρ xs) (λ zs. give (a ∷ zs)))
            {mem = λ _ _. overlay σ ls vs} {left = λ _ _. u} {T = λ a _. a ≡ l} {x = Ok (Prim.tt {0})} (λ _. Ok tt)
            (record {
              run = λ o h. ends l tt (subst (λ b. located b (overlay σ ls vs) u o) eb h) refl refl;
              goes = λ _. (ended l (overlay σ ls vs) u, subst (λ b. located b (overlay σ ls vs) u (ended l (overlay σ ls vs) u)) (sym eb) refl);
            })
            (λ a _ p. bind (locations ρ xs) (λ zs. give (a ∷ zs)) (λ _. Ok tt) F.found
            (λ zs _ q. gives (a ∷ zs) _ _ (λ zs _. zs ≡ l ∷ F.ys) (Prim.tt {0}) refl refl (cc)));
      }

  pub args_sim : (xs : List Arg) (tys : List Scalar) → check_args Γ xs ≡ Ok tys → FoundArgs limit B σ ls ts vs u ρ ρ' xs tys
  args_sim [] tys q =
      subst (FoundArgs limit B σ ls ts vs u ρ ρ' []) (ok_is q)
      (record { ks = []; ys = []; matched = tt; many = refl; bound = elim [ [] ↦ λ seen q. refl | f ∷ fs ↦ λ seen q. absurd (omega arith) ]; found = gives _ _ _ _ tt refl refl refl })
  args_sim (x ∷ xs) tys q =
      let (t, p, r) = bind_ok (as_variable x.at (look x.name Γ)) (λ t. Q.◌>>=◌ (check_args Γ xs) (λ ts. Ok (t ∷ ts))) tys q in
      let (us, p', r') = bind_ok (check_args Γ xs) (λ ts. Ok (t ∷ ts)) tys r in
      let (l, k, eb, ef, w) = rel_variable (E.named x.name (variable t) (variable_found x.at (look x.name Γ) t p)) in
      subst (FoundArgs limit B σ ls ts vs u ρ ρ' (x ∷ xs)) (ok_is r') (one_more x t xs us l k eb ef w (args_sim xs us p'))

-- a block's locations taken
pub taken_one : {limit : ℕ} {B : Memory → Type 0} {σ : Memory} {ls : List ℕ} {ts : List Scalar} {vs : List Value} (u : ℕ) (t : Scalar) (v : Value) → World σ ls ts vs → sort v ≡ t
    → live σ + length ls < limit
    → Sim limit B (take_one limit v) (overlay σ ls vs) u (λ l _. overlay σ (l ∷ ls) (v ∷ vs)) (λ _ _. u) (λ l _. World σ (l ∷ ls) (t ∷ ts) (v ∷ vs)) (Ok (Prim.tt {0}))
taken_one {limit} {σ} {ls} {ts} {vs} u t v W e room =
    let c = counts σ ls ts vs W.fine W.typed in
    record {
      run = λ o. elim [
        | inl h ↦ (let q = h.0 in absurd (omega arith))
        | inr h ↦ (let f = free σ h.0 ls ts vs W.typed h.3 in
            ends h.0 tt h.4 refl (record { fine = (f.0, f.1, h.2, W.fine); typed = (e, W.typed) }))
      ];
      goes = λ top. let (l, low, q) = room_left (overlay σ ls vs) (omega arith) in (ended l (put (overlay σ ls vs) l (Some v)) u, inr (l, omega arith, low, q, refl));
    }

first_sort : (t : Scalar) → sort (initial_value t) ≡ t
first_sort wholes = refl
first_sort truths = refl

pub taken_sim : {limit : ℕ} {B : Memory → Type 0} {σ : Memory} {ls : List ℕ} {ts : List Scalar} {vs : List Value} (u n : ℕ) (ds : List Decl) (ρ' : R.Env) → World σ ls ts vs
    → live σ + length ls + (length ds + n) ≤ limit
    → Sim limit B (take_all limit ds) (overlay σ ls vs) u (λ xs _. overlay σ (pushed xs ls) (R.allot ds ρ' vs).1) (λ _ _. u)
    (λ xs _. World σ (pushed xs ls) (pushed (types ds) ts) (R.allot ds ρ' vs).1 × (length xs ≡ length ds) × (length (pushed xs ls) ≡ length ls + length ds)) (Ok (Prim.tt {0}))
taken_sim u n [] ρ' W room = gives [] _ _ _ tt refl refl (W, refl, omega arith)
taken_sim {limit} {ls} {vs} u n (d ∷ ds) ρ' W room =
    bind (take_one limit (initial_value d.type)) (λ l. M.◌>>=◌ (take_all limit ds) (λ xs. give (l ∷ xs))) (λ _. Ok tt)
    (taken_one u d.type (initial_value d.type) W (first_sort d.type) (omega arith))
    (λ l _ W'. bind (take_all limit ds) (λ xs. give (l ∷ xs)) (λ _. Ok tt)
    (taken_sim u n ds (R.place d.name (length vs) ρ') W' (omega arith))
    (λ xs _ p. let a = p.1 in let b = p.2 in gives (l ∷ xs) _ _ _ tt refl refl (p.0, omega arith, omega arith)))

-- and released
release_one : {limit : ℕ} {B : Memory → Type 0} (l : ℕ) (σ : Memory) (u : ℕ) (v : Value) → σ l ≡ Some v → Sim limit B (release l) σ u (λ _ _. put σ l None) (λ _ _. u) (λ _ _. Unit {0}) (Ok (Prim.tt {0}))
release_one l σ u v e =
    bind (fetch l) (λ w. change l None) {mem = λ _ _. σ} {left = λ _ _. u} {T = λ _ _. Unit {0}} {x = Ok (Prim.tt {0})} (λ _. Ok tt)
    (record { run = λ o h. ends v tt (fetch_some σ l v u e o h) refl tt; goes = λ _. (ended v σ u, fetch_goes σ l v u e) })
    (λ a y t. record { run = λ o h. ends tt tt h refl tt; goes = λ _. (ended tt (put σ l None) u, refl) })

pub released_sim : {limit : ℕ} {B : Memory → Type 0} (xs : List ℕ) (σ : Memory) (u : ℕ) → Live xs σ → Sim limit B (release_all xs) σ u (λ _ _. cleared xs σ) (λ _ _. u) (λ _ _. Unit {0}) (Ok (Prim.tt {0}))
released_sim [] σ u h = gives tt _ _ _ tt refl refl tt
released_sim (x ∷ xs) σ u h =
    bind (release x) (λ _. release_all xs) (λ _. Ok tt) (release_one x σ u h.0.0 h.0.1) (λ _ _ _. released_sim xs (put σ x None) u h.1)
