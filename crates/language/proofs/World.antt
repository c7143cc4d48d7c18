-- A store known by its meaning, with the values of a run's locations over what was there at the start.
use Rattle.std.proofs.Common.{◌≡◌, ℕ, zero, suc, ◌+◌, ◌<◌, Bool, true, false, cond, eqb, ◌⊎◌, List, [], ◌∷◌, length, drop, Some, None, Option, sym, refl, ap, ◌∙◌, subst, inl, inr, arith}
use mathlib.Core.Path.{fun_ext}
use Rattle.std.proofs.lemmas.Bool.{eqb-true, eqb-false, eq-eqb, ne_eqb, cases_Bool}
use Rattle.language.specs.declared.values.Scalar.{Scalar}
use Rattle.language.specs.declared.values.Value.{Value}
use Rattle.language.specs.Values.{sort}
use Rattle.language.specs.Memory.{Memory, put, one, live_below, live}
use Rattle.language.specs.Counting.{live_put}
use Rattle.language.specs.Stack.{value_at, with_value}

abbrev pub overlay : Memory → List ℕ → List Value → Memory
overlay σ [] vs = σ
overlay σ (l ∷ ls) [] = σ
overlay σ (l ∷ ls) (v ∷ vs) = put (overlay σ ls vs) l (Some v)

-- as many locations as types and values, and each value of its type
abbrev pub Typed : List ℕ → List Scalar → List Value → Type 0
Typed [] [] [] = Unit {0}
Typed [] [] (v ∷ vs) = ⊥
Typed [] (t ∷ ts) vs = ⊥
Typed (l ∷ ls) [] vs = ⊥
Typed (l ∷ ls) (t ∷ ts) [] = ⊥
Typed (l ∷ ls) (t ∷ ts) (v ∷ vs) = (sort v ≡ t) × Typed ls ts vs

abbrev pub NotIn : ℕ → List ℕ → Type 0
NotIn l [] = Unit {0}
NotIn l (x ∷ xs) = (eqb l x ≡ false) × NotIn l xs

abbrev pub In : ℕ → List ℕ → Type 0
In l [] = ⊥
In l (x ∷ xs) = (l ≡ x) ⊎ In l xs

-- locations that are free at the start, each once
abbrev pub Fine : Memory → List ℕ → Type 0
Fine σ [] = Unit {0}
Fine σ (l ∷ ls) = NotIn l ls × (σ l ≡ None) × (l < 65536) × Fine σ ls

-- a variable of type t: its location, and its place in the reference's store
abbrev pub Where : ℕ → ℕ → Scalar → List ℕ → List Scalar → Type 0
Where k l t [] ts = ⊥
Where k l t (x ∷ ls) [] = ⊥
Where k l t (x ∷ ls) (s ∷ ts) = ((k ≡ length ls) × (l ≡ x) × (t ≡ s)) ⊎ Where k l t ls ts

pub as_long : (ls : List ℕ) (ts : List Scalar) (vs : List Value) → Typed ls ts vs → length vs ≡ length ls
as_long [] [] [] h = refl
as_long [] [] (v ∷ vs) h = absurd h
as_long [] (t ∷ ts) vs h = absurd h
as_long (l ∷ ls) [] vs h = absurd h
as_long (l ∷ ls) (t ∷ ts) [] h = absurd h
as_long (l ∷ ls) (t ∷ ts) (v ∷ vs) h = ap suc (as_long ls ts vs h.1)

pub where_in : (k l : ℕ) (t : Scalar) (ls : List ℕ) (ts : List Scalar) → Where k l t ls ts → In l ls
where_in k l t [] ts w = w
where_in k l t (x ∷ ls) [] w = absurd w
where_in k l t (x ∷ ls) (s ∷ ts) (inl w) = inl w.1
where_in k l t (x ∷ ls) (s ∷ ts) (inr w) = inr (where_in k l t ls ts w)

pub where_low : (k l : ℕ) (t : Scalar) (ls : List ℕ) (ts : List Scalar) → Where k l t ls ts → k < length ls
where_low k l t [] ts w = absurd w
where_low k l t (x ∷ ls) [] w = absurd w
where_low k l t (x ∷ ls) (s ∷ ts) (inl w) = let e = w.0 in omega arith
where_low k l t (x ∷ ls) (s ∷ ts) (inr w) = let h = where_low k l t ls ts w in omega arith

abbrev pub not_same : (l x : ℕ) (ls : List ℕ) → NotIn x ls → In l ls → eqb l x ≡ false
not_same l x [] n i = absurd i
not_same l x (y ∷ ls) n (inl e) = ne_eqb l x (λ q. eqb-false x y n.0 (sym q ∙ e))
not_same l x (y ∷ ls) n (inr i) = not_same l x ls n.1 i

-- what is at a variable's location, in both stores
pub reads : (σ : Memory) (k l : ℕ) (t : Scalar) (ls : List ℕ) (ts : List Scalar) (vs : List Value) → Fine σ ls → Typed ls ts vs → Where k l t ls ts
    → (v : Value) × (overlay σ ls vs l ≡ Some v) × (value_at vs k ≡ Some v) × (sort v ≡ t)
reads σ k l t [] ts vs f h w = absurd w
reads σ k l t (x ∷ ls) [] vs f h w = absurd w
reads σ k l t (x ∷ ls) (s ∷ ts) [] f h w = absurd h
reads σ k l t (x ∷ ls) (s ∷ ts) (v ∷ vs) f h (inl w) =
    (v, rw (eq-eqb l x w.1) refl, rw (eq-eqb k (length vs) (w.0 ∙ sym (as_long ls ts vs h.1))) refl, h.0 ∙ sym w.2)
reads σ k l t (x ∷ ls) (s ∷ ts) (v ∷ vs) f h (inr w) =
    let r = reads σ k l t ls ts vs f.3 h.1 w in
    let low = where_low k l t ls ts w in
    let e = as_long ls ts vs h.1 in
    (r.0, rw (not_same l x ls f.0 (where_in k l t ls ts w)) r.1, rw (ne_eqb k (length vs) (λ q. omega arith)) r.2, r.3)

-- another value at a variable's location, in both stores
put_under : (σ : Memory) (l x : ℕ) (v w : Option Value) → eqb l x ≡ false → put (put σ x v) l w ≡ put (put σ l w) x v
put_under σ l x v w n = fun_ext (λ k. go k (cases_Bool (eqb k l)))
  where
    go : (k : ℕ) → (eqb k l ≡ true) ⊎ (eqb k l ≡ false) → put (put σ x v) l w k ≡ put (put σ l w) x v k
    go k (inl e) = rw (e, subst (λ z. eqb z x ≡ false) (sym (eqb-true k l e)) n) refl
    go k (inr e) = rw e refl

put_over : (σ : Memory) (l : ℕ) (v w : Option Value) → put (put σ l v) l w ≡ put σ l w
put_over σ l v w = fun_ext (λ k. go (eqb k l) (σ k))
  where
    go : (b : Bool) (o : Option Value) → cond b w (cond b v o) ≡ cond b w o
    go true o = refl
    go false o = refl

pub writes : (σ : Memory) (k l : ℕ) (t : Scalar) (w : Value) (ls : List ℕ) (ts : List Scalar) (vs : List Value) → Fine σ ls → Typed ls ts vs → Where k l t ls ts → sort w ≡ t
    → (put (overlay σ ls vs) l (Some w) ≡ overlay σ ls (with_value vs k w)) × Typed ls ts (with_value vs k w)
writes σ k l t w [] ts vs f h i e = absurd i
writes σ k l t w (x ∷ ls) [] vs f h i e = absurd i
writes σ k l t w (x ∷ ls) (s ∷ ts) [] f h i e = absurd h
writes σ k l t w (x ∷ ls) (s ∷ ts) (v ∷ vs) f h (inl i) e =
    rw (eq-eqb k (length vs) (i.0 ∙ sym (as_long ls ts vs h.1))) (rw i.1 (put_over (overlay σ ls vs) x (Some v) (Some w)), (e ∙ i.2, h.1))
writes σ k l t w (x ∷ ls) (s ∷ ts) (v ∷ vs) f h (inr i) e =
    let low = where_low k l t ls ts i in
    let q = as_long ls ts vs h.1 in
    let r = writes σ k l t w ls ts vs f.3 h.1 i e in
    rw (ne_eqb k (length vs) (λ p. omega arith))
    (put_under (overlay σ ls vs) l x (Some v) (Some w) (not_same l x ls f.0 (where_in k l t ls ts i)) ∙ ap (λ σ. put σ x (Some v)) r.0, (h.0, r.1))

pub passes : (σ : Memory) (l : ℕ) (ls : List ℕ) (vs : List Value) → NotIn l ls → overlay σ ls vs l ≡ σ l
passes σ l [] vs n = refl
passes σ l (x ∷ ls) [] n = refl
passes σ l (x ∷ ls) (v ∷ vs) n = rw n.0 (passes σ l ls vs n.1)

abbrev IsSome : {A : Type 0} → Option A → Type 0
IsSome None = ⊥
IsSome (Some a) = Unit {0}

pub Some≢None : {A : Type 0} {a : A} → Some a ≡ None → ⊥
Some≢None e = subst IsSome e tt

is_none : {A : Type 0} (b : Bool) (v : A) (o : Option A) → cond b (Some v) o ≡ None → (b ≡ false) × (o ≡ None)
is_none true v o e = absurd (Some≢None e)
is_none false v o e = (refl, e)

pub free : (σ : Memory) (l : ℕ) (ls : List ℕ) (ts : List Scalar) (vs : List Value) → Typed ls ts vs → overlay σ ls vs l ≡ None → NotIn l ls × (σ l ≡ None)
free σ l [] ts vs h e = (tt, e)
free σ l (x ∷ ls) [] vs h e = absurd h
free σ l (x ∷ ls) (t ∷ ts) [] h e = absurd h
free σ l (x ∷ ls) (t ∷ ts) (v ∷ vs) h e =
    let p = is_none (eqb l x) v (overlay σ ls vs l) e in
    let r = free σ l ls ts vs h.1 p.1 in
    ((p.0, r.0), r.1)

-- how many locations are live
live_one : (σ : Memory) (l : ℕ) (v : Value) → l < 65536 → σ l ≡ None → live (put σ l (Some v)) ≡ suc (live σ)
live_one σ l v h e = let z : one (σ l) ≡ 0 = rw e refl in omega (arith, live_put σ l (Some v) h)

pub counts : (σ : Memory) (ls : List ℕ) (ts : List Scalar) (vs : List Value) → Fine σ ls → Typed ls ts vs → live (overlay σ ls vs) ≡ live σ + length ls
counts σ [] ts vs f h = omega arith
counts σ (l ∷ ls) [] vs f h = absurd h
counts σ (l ∷ ls) (t ∷ ts) [] f h = absurd h
counts σ (l ∷ ls) (t ∷ ts) (v ∷ vs) f h =
    let r = counts σ ls ts vs f.3 h.1 in
    let q = live_one (overlay σ ls vs) l v f.2 (passes σ l ls vs f.0 ∙ f.1) in
    omega arith

-- a block's locations, the first at the bottom
abbrev pub pushed {ℓ} : {A : Type ℓ} → List A → List A → List A
pushed [] ls = ls
pushed (x ∷ xs) ls = pushed xs (x ∷ ls)

fine_back : (σ : Memory) (xs ls : List ℕ) → Fine σ (pushed xs ls) → Fine σ ls
fine_back σ [] ls f = f
fine_back σ (x ∷ xs) ls f = (fine_back σ xs (x ∷ ls) f).3

apart : (σ : Memory) (xs ls : List ℕ) (l : ℕ) → Fine σ (pushed xs ls) → In l ls → NotIn l xs
apart σ [] ls l f i = tt
apart σ (x ∷ xs) ls l f i = (not_same l x ls (fine_back σ xs (x ∷ ls) f).0 i, apart σ xs (x ∷ ls) l f (inr i))

in_pushed : (xs ls : List ℕ) (l : ℕ) → In l ls → In l (pushed xs ls)
in_pushed [] ls l i = i
in_pushed (x ∷ xs) ls l i = in_pushed xs (x ∷ ls) l (inr i)

alive : (σ : Memory) (l : ℕ) (ls : List ℕ) (ts : List Scalar) (vs : List Value) → Typed ls ts vs → In l ls → (v : Value) × (overlay σ ls vs l ≡ Some v)
alive σ l [] ts vs h i = absurd i
alive σ l (x ∷ ls) [] vs h i = absurd h
alive σ l (x ∷ ls) (t ∷ ts) [] h i = absurd h
alive σ l (x ∷ ls) (t ∷ ts) (v ∷ vs) h (inl e) = (v, rw (eq-eqb l x e) refl)
alive σ l (x ∷ ls) (t ∷ ts) (v ∷ vs) h (inr i) = go (eqb l x) (alive σ l ls ts vs h.1 i)
  where
    go : (b : Bool) → (w : Value) × (overlay σ ls vs l ≡ Some w) → (w : Value) × (cond b (Some v) (overlay σ ls vs l) ≡ Some w)
    go true r = (v, refl)
    go false r = r

-- each is live when its turn comes to be released
abbrev pub Live : List ℕ → Memory → Type 0
Live [] σ = Unit {0}
Live (l ∷ ls) σ = ((v : Value) × (σ l ≡ Some v)) × Live ls (put σ l None)

abbrev pub cleared : List ℕ → Memory → Memory
cleared [] σ = σ
cleared (l ∷ ls) σ = cleared ls (put σ l None)

abbrev AllLive : List ℕ → Memory → Type 0
AllLive [] σ = Unit {0}
AllLive (l ∷ ls) σ = ((v : Value) × (σ l ≡ Some v)) × AllLive ls σ

abbrev Distinct : List ℕ → Type 0
Distinct [] = Unit {0}
Distinct (l ∷ ls) = NotIn l ls × Distinct ls

eqb_sym : (a b : ℕ) → eqb a b ≡ false → eqb b a ≡ false
eqb_sym a b e = ne_eqb b a (λ q. eqb-false a b e (sym q))

still : (σ : Memory) (l : ℕ) (ls : List ℕ) → NotIn l ls → AllLive ls σ → AllLive ls (put σ l None)
still σ l [] n a = tt
still σ l (x ∷ ls) n a = ((a.0.0, rw (eqb_sym l x n.0) a.0.1), still σ l ls n.1 a.1)

in_turn : (ls : List ℕ) (σ : Memory) → Distinct ls → AllLive ls σ → Live ls σ
in_turn [] σ d a = tt
in_turn (l ∷ ls) σ d a = (a.0, in_turn ls (put σ l None) d.1 (still σ l ls d.0 a.1))

distinct : (σ : Memory) (xs ls : List ℕ) → Fine σ (pushed xs ls) → Distinct xs
distinct σ [] ls f = tt
distinct σ (x ∷ xs) ls f = (apart σ xs (x ∷ ls) x f (inl refl), distinct σ xs (x ∷ ls) f)

all_live : (σ : Memory) (xs ls : List ℕ) (ts : List Scalar) (vs : List Value) → Typed (pushed xs ls) ts vs → AllLive xs (overlay σ (pushed xs ls) vs)
all_live σ [] ls ts vs h = tt
all_live σ (x ∷ xs) ls ts vs h =
    (alive σ x (pushed xs (x ∷ ls)) ts vs h (in_pushed xs (x ∷ ls) x (inl refl)), all_live σ xs (x ∷ ls) ts vs h)

pub releasable : (σ : Memory) (xs ls : List ℕ) (ts : List Scalar) (vs : List Value) → Fine σ (pushed xs ls) → Typed (pushed xs ls) ts vs → Live xs (overlay σ (pushed xs ls) vs)
releasable σ xs ls ts vs f h = in_turn xs _ (distinct σ xs ls f) (all_live σ xs ls ts vs h)

clear_clear : (σ : Memory) (l x : ℕ) → put (put σ l None) x None ≡ put (put σ x None) l None
clear_clear σ l x = fun_ext (λ k. go (eqb k l) (eqb k x) (σ k))
  where
    go : (a b : Bool) (o : Option Value) → cond b None (cond a None o) ≡ cond a None (cond b None o)
    go true true o = refl
    go true false o = refl
    go false true o = refl
    go false false o = refl

cleared_clear : (xs : List ℕ) (σ : Memory) (l : ℕ) → cleared xs (put σ l None) ≡ put (cleared xs σ) l None
cleared_clear [] σ l = refl
cleared_clear (x ∷ xs) σ l = ap (cleared xs) (clear_clear σ l x) ∙ cleared_clear xs (put σ x None) l

pub clear_put : (σ : Memory) (l : ℕ) (v : Value) → σ l ≡ None → put (put σ l (Some v)) l None ≡ σ
clear_put σ l v e = fun_ext (λ k. go k (cases_Bool (eqb k l)))
  where
    go : (k : ℕ) → (eqb k l ≡ true) ⊎ (eqb k l ≡ false) → put (put σ l (Some v)) l None k ≡ σ k
    go k (inl q) = rw (q, eqb-true k l q) (sym e)
    go k (inr q) = rw q refl

drop_suc : (n : ℕ) (vs : List Value) → drop (suc n) vs ≡ drop 1 (drop n vs)
drop_suc zero vs = refl
drop_suc (suc n) [] = refl
drop_suc (suc n) (v ∷ vs) = drop_suc n vs

pub drop_typed : (xs ls : List ℕ) (us ts : List Scalar) (vs : List Value) → length us ≡ length xs → Typed (pushed xs ls) (pushed us ts) vs → Typed ls ts (drop (length xs) vs)
drop_typed [] ls [] ts vs e h = h
drop_typed [] ls (u ∷ us) ts vs e h = absurd (omega arith)
drop_typed (x ∷ xs) ls [] ts vs e h = absurd (omega arith)
drop_typed (x ∷ xs) ls (u ∷ us) ts vs e h =
    rw (drop_suc (length xs) vs) (go (drop (length xs) vs) (drop_typed xs (x ∷ ls) us (u ∷ ts) vs (omega arith) h))
  where
    go : (ws : List Value) → Typed (x ∷ ls) (u ∷ ts) ws → Typed ls ts (drop 1 ws)
    go [] h = absurd h
    go (w ∷ ws) h = h.1

-- a block's locations released: what was below them is left
pub all_cleared : (σ : Memory) (xs ls : List ℕ) (us ts : List Scalar) (vs : List Value) → length us ≡ length xs → Fine σ (pushed xs ls) → Typed (pushed xs ls) (pushed us ts) vs
    → cleared xs (overlay σ (pushed xs ls) vs) ≡ overlay σ ls (drop (length xs) vs)
all_cleared σ [] ls [] ts vs e f h = refl
all_cleared σ [] ls (u ∷ us) ts vs e f h = absurd (omega arith)
all_cleared σ (x ∷ xs) ls [] ts vs e f h = absurd (omega arith)
all_cleared σ (x ∷ xs) ls (u ∷ us) ts vs e f h =
    cleared_clear xs (overlay σ (pushed xs (x ∷ ls)) vs) x
    ∙ ap (λ σ. put σ x None) (all_cleared σ xs (x ∷ ls) us (u ∷ ts) vs (omega arith) f h)
    ∙ rw (drop_suc (length xs) vs) (go (drop (length xs) vs) (drop_typed xs (x ∷ ls) us (u ∷ ts) vs (omega arith) h))
  where
    go : (ws : List Value) → Typed (x ∷ ls) (u ∷ ts) ws → put (overlay σ (x ∷ ls) ws) x None ≡ overlay σ ls (drop 1 ws)
    go [] h = absurd h
    go (w ∷ ws) h = let g = fine_back σ xs (x ∷ ls) f in clear_put (overlay σ ls ws) x w (passes σ x ls ws g.0 ∙ g.1)

-- a store that is not full has a free location
pub room_below : (σ : Memory) (n : ℕ) → live_below σ n < n → (l : ℕ) × (l < n) × (σ l ≡ None)
unfolding live_below
room_below σ zero h = absurd (omega arith)
room_below σ (suc n) h = go (σ n) refl (λ g. room_below σ n g)
  where
    go : (o : Option Value) → σ n ≡ o → (live_below σ n < n → (l : ℕ) × (l < n) × (σ l ≡ None)) → (l : ℕ) × (l < suc n) × (σ l ≡ None)
    go None e ih = (n, omega arith, e)
    go (Some v) e ih = let s : one (σ n) ≡ 1 = rw e refl in let (l, p, q) = ih (omega arith) in (l, omega arith, q)

pub room_left : (σ : Memory) → live σ < 65536 → (l : ℕ) × (l < 65536) × (σ l ≡ None)
unfolding live
room_left σ h = room_below σ 65536 h
