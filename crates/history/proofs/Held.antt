-- What a store of points holds. Assumes nothing.
use Rattle.std.proofs.Common.{◌≡◌, ℕ, zero, suc, ◌<◌, ◌≤◌, Bool, true, false, cond, eqb, ltb, ◌⊎◌, List, [], ◌∷◌, ◌++◌, length, get_or, set, ℤ, pos, Some, None, Option, sym, refl, ap, ◌∙◌, inl, inr, arith}
use mathlib.Core.Path.{fun_ext}
use Rattle.std.proofs.lemmas.Bool.{eq-eqb, ne_eqb, eqb-true, eqb-false, ltb-true, ltb-false, cases_eq, cases_Bool}
use Rattle.language.specs.declared.values.Value.{Value}
use Rattle.language.specs.declared.values.Value.TheVariants.{Whole as whole_value}
use Rattle.language.specs.Memory.{Memory, put, one, live_below, live}
use Rattle.language.specs.Counting.{live_put, live_none}
use Rattle.history.specs.States.{holding, Apart, Free}
use Rattle.history.proofs.Plain.{never}

apart_at : (l : ℕ) (ls : List ℕ) (k : ℕ) → Apart l ls → k < length ls → get_or ls k 0 ≡ l → ⊥
apart_at l [] k a h e = omega arith
apart_at l (j ∷ ls) zero a h e = a.0 (sym e)
apart_at l (j ∷ ls) (suc k) a h e = apart_at l ls k a.1 (omega arith) e

-- each location holds its shift
pub held_at : (ls : List ℕ) (zs : List ℤ) (k : ℕ) → Free ls → length zs ≡ length ls → k < length ls → holding ls zs (get_or ls k 0) ≡ Some (whole_value (get_or zs k (pos 0)))
held_at [] zs k f e h = absurd (omega arith)
held_at (l ∷ ls) [] k f e h = absurd (omega arith)
held_at (l ∷ ls) (z ∷ zs) zero f e h = rw (eq-eqb l l refl) refl
held_at (l ∷ ls) (z ∷ zs) (suc k) f e h =
    rw (ne_eqb (get_or ls k 0) l (apart_at l ls k f.1 (omega arith))) (held_at ls zs k f.2 (omega arith) (omega arith))

pub absent : (l : ℕ) (ls : List ℕ) (zs : List ℤ) → Apart l ls → holding ls zs l ≡ None
absent l [] zs a = refl
absent l (k ∷ ks) [] a = refl
absent l (k ∷ ks) (z ∷ zs) a = rw (ne_eqb l k a.0) (absent l ks zs a.1)

not_there : (b : Bool) (v : Value) (o : Option Value) → cond b (Some v) o ≡ None → (b ≡ false) × (o ≡ None)
not_there true v o e = never (cc)
not_there false v o e = (refl, e)

pub apart_of : (l : ℕ) (ls : List ℕ) (zs : List ℤ) → length zs ≡ length ls → holding ls zs l ≡ None → Apart l ls
apart_of l [] zs q e = tt
apart_of l (k ∷ ks) [] q e = absurd (omega arith)
apart_of l (k ∷ ks) (z ∷ zs) q e =
    let n = not_there (eqb l k) (whole_value z) (holding ks zs l) e in
    (eqb-false l k n.0, apart_of l ks zs (omega arith) n.1)

-- a store that counts none has none
none_there : (o : Option Value) → one o ≡ 0 → o ≡ None
none_there None e = refl
none_there (Some v) e = absurd (omega arith)

vacant_below : (σ : Memory) (n l : ℕ) → live_below σ n ≡ 0 → l < n → σ l ≡ None
unfolding live_below
vacant_below σ zero l e h = absurd (omega arith)
vacant_below σ (suc n) l e h = go (vacant_below σ n l) (cases_eq l n)
  where
    go : (live_below σ n ≡ 0 → l < n → σ l ≡ None) → (l ≡ n) ⊎ (l ≡ n → ⊥) → σ l ≡ None
    go ih (inl q) = ap σ q ∙ none_there (σ n) (omega arith)
    go ih (inr ne) = ih (omega arith) (omega arith)

pub vacant : (σ : Memory) → live σ ≡ 0 → ((l : ℕ) → 65536 ≤ l → σ l ≡ None) → (l : ℕ) → σ l ≡ None
unfolding live
vacant σ e low l = go (ltb l 65536) refl
  where
    go : (b : Bool) → ltb l 65536 ≡ b → σ l ≡ None
    go true q = vacant_below σ 65536 l e (ltb-true l 65536 q)
    go false q = low l (ltb-false l 65536 q)

-- as many as there are points
pub held_count : (ls : List ℕ) (zs : List ℤ) → Free ls → length zs ≡ length ls → live (holding ls zs) ≡ length ls
held_count [] zs f e = live_none (holding [] zs) refl
held_count (l ∷ ls) [] f e = absurd (omega arith)
held_count (l ∷ ls) (z ∷ zs) f e =
    let r = held_count ls zs f.2 (omega arith) in
    let q = live_put (holding ls zs) l (Some (whole_value z)) f.0 in
    let n = ap one (absent l ls zs f.1) in
    omega arith

-- one more point at the end
push_at : (ls : List ℕ) (zs : List ℤ) (l : ℕ) (z : ℤ) (q : ℕ) → length zs ≡ length ls → Apart l ls → holding (ls ++ l ∷ []) (zs ++ z ∷ []) q ≡ put (holding ls zs) l (Some (whole_value z)) q
push_at [] [] l z q e a = refl
push_at [] (x ∷ zs) l z q e a = absurd (omega arith)
push_at (k ∷ ks) [] l z q e a = absurd (omega arith)
push_at (k ∷ ks) (x ∷ zs) l z q e a = go (push_at ks zs l z q (omega arith) a.1) (cases_Bool (eqb q k))
  where
    go : holding (ks ++ l ∷ []) (zs ++ z ∷ []) q ≡ put (holding ks zs) l (Some (whole_value z)) q → (eqb q k ≡ true) ⊎ (eqb q k ≡ false) → holding (k ∷ ks ++ l ∷ []) (x ∷ zs ++ z ∷ []) q ≡ put (holding (k ∷ ks) (x ∷ zs)) l (Some (whole_value z)) q
    go ih (inl t) = rw (t, ne_eqb q l (λ p. a.0 (sym p ∙ eqb-true q k t))) refl
    go ih (inr t) = rw t ih

pub holding_push : (ls : List ℕ) (zs : List ℤ) (l : ℕ) (z : ℤ) → length zs ≡ length ls → Apart l ls → holding (ls ++ l ∷ []) (zs ++ z ∷ []) ≡ put (holding ls zs) l (Some (whole_value z))
holding_push ls zs l z e a = fun_ext (λ q. push_at ls zs l z q e a)

apart_push : (k l : ℕ) (ls : List ℕ) → Apart k ls → (k ≡ l → ⊥) → Apart k (ls ++ l ∷ [])
apart_push k l [] a n = (n, tt)
apart_push k l (j ∷ ls) a n = (a.0, apart_push k l ls a.1 n)

pub free_push : (ls : List ℕ) (l : ℕ) → Free ls → l < 65536 → Apart l ls → Free (ls ++ l ∷ [])
free_push [] l f h a = (h, tt, tt)
free_push (k ∷ ls) l f h a =
    (f.0, apart_push k l ls f.1 (λ e. a.0 (sym e)), free_push ls l f.2 h a.1)

-- another shift at one of the locations
twice : (b : Bool) (v w o : Option Value) → cond b w (cond b v o) ≡ cond b w o
twice true v w o = refl
twice false v w o = refl

set_at : (ls : List ℕ) (zs : List ℤ) (i : ℕ) (z : ℤ) (q : ℕ) → Free ls → length zs ≡ length ls → i < length ls → put (holding ls zs) (get_or ls i 0) (Some (whole_value z)) q ≡ holding ls (set zs i z) q
set_at [] zs i z q f e h = absurd (omega arith)
set_at (l ∷ ls) [] i z q f e h = absurd (omega arith)
set_at (l ∷ ls) (x ∷ zs) zero z q f e h = twice (eqb q l) (Some (whole_value x)) (Some (whole_value z)) (holding ls zs q)
set_at (l ∷ ls) (x ∷ zs) (suc i) z q f e h =
    go (set_at ls zs i z q f.2 (omega arith) (omega arith)) (apart_at l ls i f.1 (omega arith)) (cases_Bool (eqb q l))
  where
    go : put (holding ls zs) (get_or ls i 0) (Some (whole_value z)) q ≡ holding ls (set zs i z) q → (get_or ls i 0 ≡ l → ⊥) → (eqb q l ≡ true) ⊎ (eqb q l ≡ false)
        → put (holding (l ∷ ls) (x ∷ zs)) (get_or ls i 0) (Some (whole_value z)) q ≡ holding (l ∷ ls) (x ∷ set zs i z) q
    go ih n (inl t) = rw (t, ne_eqb q (get_or ls i 0) (λ p. n (sym p ∙ eqb-true q l t))) refl
    go ih n (inr t) = rw t ih

pub holding_set : (ls : List ℕ) (zs : List ℤ) (i : ℕ) (z : ℤ) → Free ls → length zs ≡ length ls → i < length ls → put (holding ls zs) (get_or ls i 0) (Some (whole_value z)) ≡ holding ls (set zs i z)
holding_set ls zs i z f e h = fun_ext (λ q. set_at ls zs i z q f e h)
