-- How many locations are live, after a change and at a bound. Assumes nothing.
use Rattle.std.specs.Prelude.{◌≡◌, ℕ, zero, suc, ◌+◌, ◌<◌, ◌≤◌, true, is_some, Some, None, Option, refl}
use Rattle.std.proofs.Common.{sym, ap, ◌∙◌, ⊎_elim, arith}
use Rattle.std.proofs.lemmas.Bool.{cases_eq, false≢true, eq-eqb, ne_eqb}
use Rattle.language.specs.declared.values.Value.{Value}
use Rattle.language.specs.Memory.{Memory, put, one, live_below, live}

pub put_here : (f : Memory) (l : ℕ) (w : Option Value) → put f l w l ≡ w
put_here f l w = rw (eq-eqb l l refl) refl

pub put_apart : (f : Memory) (l : ℕ) (w : Option Value) (q : ℕ) → (q ≡ l → ⊥) → put f l w q ≡ f q
put_apart f l w q d = rw (ne_eqb q l d) refl

pub one_le : (o : Option Value) → one o ≤ 1
one_le None = omega arith
one_le (Some v) = omega arith

pub one_some : (o : Option Value) → is_some o ≡ true → one o ≡ 1
one_some None e = absurd (false≢true e)
one_some (Some v) e = refl

pub below_same : (f g : Memory) (n : ℕ) → ((q : ℕ) → q < n → f q ≡ g q) → live_below f n ≡ live_below g n
unfolding live_below
below_same f g zero h = refl
below_same f g (suc n) h =
    let e = below_same f g n (λ q l. h q (omega arith)) in
    let d = h n (omega arith) in
    cc

-- nothing is live from m on
pub below_past : (f : Memory) (m n : ℕ) → m ≤ n → ((q : ℕ) → m ≤ q → f q ≡ None) → live_below f n ≡ live_below f m
unfolding live_below
below_past f m zero le h = let e : m ≡ 0 = omega arith in rw e refl
below_past f m (suc n) le h =
    ⊎_elim (λ (e : m ≡ suc n). rw e refl)
    (λ (d : m ≡ suc n → ⊥). let k : m ≤ n = omega (arith, d) in let e = below_past f m n k h in omega (arith, e, ap one (h n k)))
    (cases_eq m (suc n))

pub below_le : (f : Memory) (n : ℕ) → live_below f n ≤ n
unfolding live_below
below_le f zero = omega arith
below_le f (suc n) = omega (arith, below_le f n, one_le (f n))

-- all are live
pub below_all : (f : Memory) (n : ℕ) → ((q : ℕ) → q < n → is_some (f q) ≡ true) → live_below f n ≡ n
unfolding live_below
below_all f zero h = refl
below_all f (suc n) h = omega (arith, below_all f n (λ q l. h q (omega arith)), one_some (f n) (h n (omega arith)))

pub below_put_past : (f : Memory) (l : ℕ) (w : Option Value) (n : ℕ) → n ≤ l → live_below (put f l w) n ≡ live_below f n
below_put_past f l w n le = below_same (put f l w) f n (λ q lt. put_apart f l w q (omega arith))

-- one location changes
pub below_put : (f : Memory) (l : ℕ) (w : Option Value) (n : ℕ) → l < n → live_below (put f l w) n + one (f l) ≡ live_below f n + one w
unfolding live_below
below_put f l w zero lt = omega arith
below_put f l w (suc n) lt =
    ⊎_elim (λ (e : l ≡ n).
    let p = below_put_past f l w n (omega arith) in
    let h : put f l w n ≡ w = rw (← e) (put_here f l w) in
    let i : f l ≡ f n = ap f e in
    omega (arith, p, ap one h, ap one i))
    (λ (d : l ≡ n → ⊥).
    let r = below_put f l w n (omega (arith, d)) in
    let h = put_apart f l w n (λ e. d (sym e)) in
    omega (arith, r, ap one h))
    (cases_eq l n)

-- one is not live
pub below_gap : (f : Memory) (l n : ℕ) → l < n → f l ≡ None → live_below f n < n
unfolding live_below
below_gap f l zero lt e = omega arith
below_gap f l (suc n) lt e =
    ⊎_elim (λ (d : l ≡ n). omega (arith, below_le f n, ap one (ap f (sym d) ∙ e)))
    (λ (d : l ≡ n → ⊥). omega (arith, below_gap f l n (omega (arith, d)) e, one_le (f n)))
    (cases_eq l n)

-- the same of the whole map
pub live_put : (f : Memory) (l : ℕ) (w : Option Value) → l < 65536 → live (put f l w) + one (f l) ≡ live f + one w
unfolding live
live_put f l w lt = below_put f l w 65536 lt

pub live_past : (f : Memory) (m : ℕ) → m ≤ 65536 → ((q : ℕ) → m ≤ q → f q ≡ None) → live f ≡ live_below f m
unfolding live
live_past f m le h = below_past f m 65536 le h

pub live_none : (f : Memory) → f ≡ (λ q. None) → live f ≡ 0
unfolding live_below
live_none f e = live_past f 0 (omega arith) (λ q le. ap (λ g. g q) e)
