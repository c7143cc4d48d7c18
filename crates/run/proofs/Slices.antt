-- A stretch of a list: n elements from m on.
use Rattle.std.proofs.Common.{◌≡◌, ℕ, ◌+◌, ◌-◌, ◌<◌, ◌≤◌, List, length, take, drop, get_or, ◌∙◌, arith, length-drop}
use Rattle.std.proofs.lemmas.List.{get_or-take, get_or-drop, length-take, length-take-le}

module _ {A : Type 0} (xs : List A) (m n : ℕ) where
  pub stretch_length : m + n ≤ length xs → length (take (m + n - m) (drop m xs)) ≡ n
  stretch_length h =
      let z : m + n - m ≡ n = omega arith in
      rw z (length-take-le n (drop m xs) (omega (arith, length-drop m xs)))

  pub stretch_within : (k : ℕ) → k < length (take (m + n - m) (drop m xs)) → k < n
  stretch_within k h = omega (arith, length-take (m + n - m) (drop m xs))

  pub stretch_item : (k : ℕ) (d : A) → k < n → get_or (take (m + n - m) (drop m xs)) k d ≡ get_or xs (m + k) d
  stretch_item k d lt = get_or-take (m + n - m) (drop m xs) k d (omega arith) ∙ get_or-drop m xs k d

  pub stretch_at : (k : ℕ) (d : A) → k < length (take (m + n - m) (drop m xs)) → get_or (take (m + n - m) (drop m xs)) k d ≡ get_or xs (m + k) d
  stretch_at k d h = stretch_item k d (stretch_within k h)
