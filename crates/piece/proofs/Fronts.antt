-- A list that a loop replaces element by element. Assumes nothing.
use Rattle.std.proofs.Common.{◌≡◌, ℕ, ◌+◌, ◌<◌, ◌≤◌, List, [], ◌∷◌, ◌++◌, length, get_or, take, drop, set, sym, ap, ◌∙◌, ap₂, arith}
use Rattle.std.proofs.lemmas.List.{append-nil, append_assoc, length-append, length-drop, length-take-le, get_or_at, set_at, take_all, drop_all, take_more, drop_more}

module _ {X : Type 0} where
  -- the first i of xs, and from there on ys
  abbrev pub front : ℕ → List X → List X → List X
  front i xs ys = take i xs ++ drop i ys

  pub front_at : (xs ys : List X) (i : ℕ) (d : X) → length xs ≡ length ys → i < length ys → get_or (front i xs ys) i d ≡ get_or ys i d
  front_at xs ys i d e h =
      ap (λ zs. get_or (take i xs ++ zs) i d) (drop_more ys i d h)
      ∙ get_or_at (take i xs) (get_or ys i d) (drop (i + 1) ys) d i (length-take-le i xs (omega arith))

  pub front_more : (xs ys : List X) (i : ℕ) (d : X) → length xs ≡ length ys → i < length ys → set (front i xs ys) i (get_or xs i d) ≡ front (i + 1) xs ys
  front_more xs ys i d e h =
      ap (λ zs. set (take i xs ++ zs) i (get_or xs i d)) (drop_more ys i d h)
      ∙ set_at (take i xs) (get_or ys i d) (drop (i + 1) ys) (get_or xs i d) i (length-take-le i xs (omega arith))
      ∙ sym (append_assoc (take i xs) (get_or xs i d ∷ []) (drop (i + 1) ys))
      ∙ ap (λ zs. zs ++ drop (i + 1) ys) (sym (take_more xs i d (omega arith)))

  pub front_all : (xs ys : List X) (i : ℕ) → length xs ≡ length ys → length ys ≤ i → front i xs ys ≡ xs
  front_all xs ys i e h = ap₂ ◌++◌ (take_all i xs (omega arith)) (drop_all i ys h) ∙ append-nil xs

  pub front_long : (xs ys : List X) (i : ℕ) → length xs ≡ length ys → i ≤ length ys → length (front i xs ys) ≡ length ys
  front_long xs ys i e h = simp (length-append, length-take-le i xs (omega arith), length-drop) (omega arith)
