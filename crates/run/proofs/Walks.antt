-- Walks along the links of records.
use Rattle.std.proofs.Common.{◌≡◌, ℕ, zero, suc, ◌-◌, ◌<◌, ◌≤◌, Bool, true, false, eqb, ◌≢◌, refl, ap, ◌∙◌, arith, eq-eqb, ne_eqb, eqb-true}
use mathlib.Core.Path.{fun_ext}
use borrow.Author.Tests.{eqb-false}
use Rattle.run.specs.Names.{walk}

module _ {ℓ} {A : Type ℓ} (z : A) (f : ℕ → (ℕ → A) → A) where
  under : (n p : ℕ) → p ≢ suc n → walk z f (suc n) p ≡ walk z f n p
  unfolding walk
  under n p h = rw (ne_eqb p (suc n) h)

  here : (n p : ℕ) → p ≤ suc n → (b : Bool) → eqb p (suc n) ≡ b → (p ≤ n → walk z f n p ≡ walk z f p p) → walk z f (suc n) p ≡ walk z f p p
  here n p h true q k = let e : p ≡ suc n = eqb-true p (suc n) q in rw e
  here n p h false q k =
      let ne : p ≢ suc n = eqb-false p (suc n) q in
      let le : p ≤ n = omega arith in
      under n p ne ∙ k le

  pub walk_more : (n p : ℕ) → p ≤ n → walk z f n p ≡ walk z f p p
  walk_more zero p h = let e : p ≡ 0 = omega arith in rw e
  walk_more (suc n) p h = here n p h (eqb p (suc n)) refl (walk_more n p)

  pub walk_step : (p : ℕ) → 0 < p → walk z f p p ≡ f (p - 1) (walk z f (p - 1))
  unfolding walk
  walk_step zero h = absurd (omega arith)
  walk_step (suc n) h =
      let e : suc n - 1 ≡ n = omega arith in
      let q : eqb (suc n) (suc n) ≡ true = eq-eqb (suc n) (suc n) refl in
      rw (e, q)

  pub walk_none : (p : ℕ) → p ≤ 0 → walk z f p p ≡ z
  unfolding walk
  walk_none zero h = refl
  walk_none (suc n) h = absurd (omega arith)

pub walk_same {ℓ} : {A : Type ℓ} (z : A) (f f' : ℕ → (ℕ → A) → A) (m n p : ℕ) → ((k : ℕ) → k < m → (on : ℕ → A) → f k on ≡ f' k on) → n ≤ m
    → walk z f n p ≡ walk z f' n p
unfolding walk
walk_same z f f' m zero p q h = refl
walk_same z f f' m (suc n) p q h =
    let le : n ≤ m = omega arith in
    let lt : n < m = omega arith in
    let ih : walk z f n ≡ walk z f' n = fun_ext (λ r. walk_same z f f' m n r q le) in
    let e : f n (walk z f n) ≡ f' n (walk z f' n) = q n lt (walk z f n) ∙ ap (f' n) ih in
    rw (e, walk_same z f f' m n p q le)
