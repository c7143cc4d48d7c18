-- What the store keeps true of its count and its window, after each call. Assumes nothing.
use Rattle.std.proofs.Common.{◌≡◌, ℕ, ◌+◌, ◌-◌, ◌<◌, ◌≤◌, min, max, true, List, is_some, Some, None, Option, ap, ◌∙◌, subst, inl, inr, ⊎_elim, arith}
use Rattle.std.proofs.lemmas.Bool.{cases_eq}
use Rattle.language.specs.declared.values.Value.{Value}
use Rattle.language.specs.Memory.{Memory, put, one, live}
use Rattle.language.specs.Counting.{below_all, below_gap, live_put, one_some, put_here, put_apart}
use Rattle.byte_store.specs.Layout.{cells, meaning, WellFormed}
use Rattle.byte_store.specs.Free.{AllHeld, NextFree, FreeWithin, Chosen, Room}
use Rattle.byte_store.specs.Laws.{live_within, live_counted}

pub live_full : (bytes : List ℕ) → ((q : ℕ) → q < cells bytes → is_some (meaning bytes q) ≡ true) → live (meaning bytes) ≡ cells bytes
live_full bytes h = live_counted bytes ∙ below_all (meaning bytes) (cells bytes) h

pub live_gap : (bytes : List ℕ) (l : ℕ) → l < cells bytes → meaning bytes l ≡ None → live (meaning bytes) < cells bytes
live_gap bytes l lt e = omega (arith, live_counted bytes, below_gap (meaning bytes) l (cells bytes) lt e)

-- some location is live
pub live_some : (xs : List ℕ) (l : ℕ) → is_some (meaning xs l) ≡ true → 1 ≤ live (meaning xs)
live_some xs l e = omega (arith, live_put (meaning xs) l None (omega (arith, live_within xs l e)), one_some (meaning xs l) e)

-- the window once a cell is taken, written or freed
next_within : (n : ℕ) (f : Memory) (start l : ℕ) → NextFree n f start l → (l < n) × (f l ≡ None)
next_within n f start l (inl h) = (h.1, h.2)
next_within n f start l (inr h) = (h.1.1, h.1.2)

held_put : (f : Memory) (l : ℕ) (v : Value) (a b : ℕ) → AllHeld f a b → AllHeld (put f l (Some v)) a b
held_put f l v a b h q in' =
    ⊎_elim (λ (e : q ≡ l). rw e (ap is_some (put_here f l (Some v))))
    (λ (d : q ≡ l → ⊥). ap is_some (put_apart f l (Some v) q d) ∙ h q in')
    (cases_eq q l)

within_put : (n : ℕ) (f : Memory) (l : ℕ) (v : Value) (a b : ℕ) → FreeWithin n f a b → FreeWithin n (put f l (Some v)) a b
within_put n f l v a b h = (h.0, held_put f l v 0 a h.1, held_put f l v b n h.2)

within_freed : (n : ℕ) (f : Memory) (l a b : ℕ) → l < n → FreeWithin n f a b → FreeWithin n (put f l None) (min a l) (max b (l + 1))
within_freed n f l a b lt h = (
  omega (arith, h.0),
  λ q in'. ap is_some (put_apart f l None q (λ e. omega (arith, in'.1))) ∙ h.1 q (in'.0, omega (arith, in'.1)),
  λ q in'. ap is_some (put_apart f l None q (λ e. omega (arith, in'.0))) ∙ h.2 q (omega (arith, in'.0), in'.1),
)

-- what the search answers says of the count
pub room : (xs : List ℕ) (start a b : ℕ) (r : Option ℕ) → Chosen (cells xs) (meaning xs) start a b r → Room (cells xs) (meaning xs) r
room xs start a b None h = live_full xs (λ q lt. h.0 q (omega arith, lt))
room xs start a b (Some l) h =
    let next = next_within (cells xs) (meaning xs) start l h.0 in
    (next.0, next.1, live_gap xs l next.0 next.1)

-- what the store keeps true of its bytes, its count and its window
abbrev pub Kept : List ℕ → (count a b : ℕ) → Type 0
Kept xs count a b = record { counted : count ≡ live (meaning xs); well_formed : WellFormed xs; free_within : FreeWithin (cells xs) (meaning xs) a b }

-- after a change of the cell l
module _ (xs ys : List ℕ) (l count : ℕ) (same : cells ys ≡ cells xs) (formed : WellFormed ys) (counted : count ≡ live (meaning xs)) where
  pub kept_taken : (v : Value) → meaning ys ≡ put (meaning xs) l (Some v) → (r : Option ℕ) → r ≡ Some l → (start a b : ℕ) → Chosen (cells xs) (meaning xs) start a b r → Kept ys (count + 1) a b
  kept_taken v means r is start a b h =
      let some : Chosen (cells xs) (meaning xs) start a b (Some l) = subst (Chosen (cells xs) (meaning xs) start a b) is h in
      let free = next_within (cells xs) (meaning xs) start l some.0 in
      record {
        counted = omega (arith, counted, ap live means, live_put (meaning xs) l (Some v) (omega (arith, free.0)), ap one free.1);
        well_formed = formed;
        free_within = rw (same, means) (some.1 v);
      }

  pub kept_written : (v : Value) → meaning ys ≡ put (meaning xs) l (Some v) → is_some (meaning xs l) ≡ true → (a b : ℕ) → FreeWithin (cells xs) (meaning xs) a b → Kept ys count a b
  kept_written v means held a b h =
      record {
        counted = omega (arith, counted, ap live means, live_put (meaning xs) l (Some v) (omega (arith, live_within xs l held)), one_some (meaning xs l) held);
        well_formed = formed;
        free_within = rw (same, means) (within_put (cells xs) (meaning xs) l v a b h);
      }

  pub kept_released : meaning ys ≡ put (meaning xs) l None → is_some (meaning xs l) ≡ true → (a b a' b' : ℕ) → a' ≡ min a l → b' ≡ max b (l + 1) → FreeWithin (cells xs) (meaning xs) a b → Kept ys (count - 1) a' b'
  kept_released means held a b a' b' ea eb h =
      record {
        counted = omega (arith, counted, ap live means, live_put (meaning xs) l None (omega (arith, live_within xs l held)), one_some (meaning xs l) held);
        well_formed = formed;
        free_within = rw (same, means, ea, eb) (within_freed (cells xs) (meaning xs) l a b (live_within xs l held) h);
      }
