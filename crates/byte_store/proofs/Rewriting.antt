-- A cell replaced, and what the bytes mean then. Assumes nothing.
use Rattle.std.proofs.Common.{◌≡◌, ℕ, ◌+◌, ◌-◌, ◌*◌, ◌/◌, ◌<◌, ◌≤◌, min, List, ◌++◌, length, take, drop, replicate, Some, None, Option, sym, refl, ap, ◌∙◌, ⊎_elim, arith}
use mathlib.Core.Path.{fun_ext}
use borrow.Rule.Slice.PartMut.{put_mid}
use Rattle.std.proofs.lemmas.List.{length-append, length-take, length-take-le, length-drop, length-replicate, take-append-le, take-take, take_at, drop_at, drop-drop, drop-take, drop-append-le, take-replicate, drop-replicate}
use Rattle.std.proofs.lemmas.Slice.{drop-put_mid}
use Rattle.std.proofs.lemmas.Bool.{cases_eq, cases_lt, lt-ltb, cond-true}
use Rattle.language.specs.Counting.{put_here, put_apart}
use Rattle.language.specs.declared.values.Value.{Value}
use Rattle.language.specs.declared.values.Value.TheVariants.{Truth, Whole}
use Rattle.language.specs.Memory.{put}
use Rattle.byte_store.specs.Layout.{cell_size, cell_bytes, value_in, cells, cell_at, meaning, WellFormed, RestKept, with_cell, cleared}
use Rattle.byte_store.specs.Laws.{meaning_past}

pub meaning_within : (bytes : List ℕ) (l : ℕ) → l < cells bytes → meaning bytes l ≡ value_in (cell_at bytes l)
unfolding meaning
meaning_within bytes l lt = cond-true _ _ _ (lt-ltb l (cells bytes) lt)

length_cell_bytes : (w : Option Value) → length (cell_bytes w) ≡ cell_size
length_cell_bytes None = refl
length_cell_bytes (Some (Truth b)) = refl
length_cell_bytes (Some (Whole z)) = refl

-- a write to the bytes of the cell l, as the library has it
with_cell_is : (xs : List ℕ) (l : ℕ) (w : Option Value) → with_cell xs l w ≡ put_mid (cell_size * l) cell_size xs (cell_bytes w)
with_cell_is xs l w = ap (λ ys. take (cell_size * l) xs ++ (cell_bytes w ++ ys)) (sym (drop-drop cell_size (cell_size * l) xs))

module _ (xs : List ℕ) (l : ℕ) (w : Option Value) (lt : l < cells xs) where
  within : cell_size * l + cell_size ≤ length xs
  within = omega arith

  pub length_with_cell : length (with_cell xs l w) ≡ length xs
  length_with_cell =
      omega (
        arith,
        within,
        length-append (take (cell_size * l) xs) (cell_bytes w ++ drop (cell_size * l + cell_size) xs),
        length-append (cell_bytes w) (drop (cell_size * l + cell_size) xs),
        length-take (cell_size * l) xs,
        length-drop (cell_size * l + cell_size) xs,
        length_cell_bytes w,
      )

  pub cells_with_cell : cells (with_cell xs l w) ≡ cells xs
  cells_with_cell = ap (λ n. min (n / cell_size) 65536) length_with_cell

  pub rest_with_cell : (n : ℕ) → cell_size * l + cell_size ≤ n → drop n (with_cell xs l w) ≡ drop n xs
  rest_with_cell n le = ap (drop n) (with_cell_is xs l w) ∙ drop-put_mid (cell_size * l) cell_size xs (cell_bytes w) n le (omega (arith, within)) (length_cell_bytes w)

  cell_here : cell_at (with_cell xs l w) l ≡ cell_bytes w
  cell_here =
      ap (take cell_size) (drop_at (take (cell_size * l) xs) (cell_bytes w ++ drop (cell_size * l + cell_size) xs) (cell_size * l) (length-take-le (cell_size * l) xs (omega (arith, within))))
      ∙ take_at (cell_bytes w) (drop (cell_size * l + cell_size) xs) cell_size (length_cell_bytes w)

  cell_before : (q : ℕ) → q < l → cell_at (with_cell xs l w) q ≡ cell_at xs q
  cell_before q before =
      sym (drop-take (cell_size * q) cell_size (with_cell xs l w))
      ∙ ap (drop (cell_size * q))
      (take-append-le (cell_size * q + cell_size) (take (cell_size * l) xs) (cell_bytes w ++ drop (cell_size * l + cell_size) xs) (omega (arith, within, length-take-le (cell_size * l) xs (omega (arith, within))))
      ∙ take-take (cell_size * q + cell_size) (cell_size * l) xs (omega arith))
      ∙ drop-take (cell_size * q) cell_size xs

  cell_apart : (q : ℕ) → (q ≡ l → ⊥) → cell_at (with_cell xs l w) q ≡ cell_at xs q
  cell_apart q d =
      ⊎_elim (λ (x : q < l). cell_before q x)
      (λ (x : l ≤ q). ap (take cell_size) (rest_with_cell (cell_size * q) (omega (arith, d))))
      (cases_lt q l)

  apart : (q : ℕ) → (q ≡ l → ⊥) → meaning (with_cell xs l w) q ≡ meaning xs q
  apart q d =
      ⊎_elim (λ (x : q < cells xs). meaning_within (with_cell xs l w) q (omega (arith, length_with_cell)) ∙ ap value_in (cell_apart q d) ∙ sym (meaning_within xs q x))
      (λ (x : cells xs ≤ q). meaning_past (with_cell xs l w) q (omega (arith, length_with_cell)) ∙ sym (meaning_past xs q x))
      (cases_lt q (cells xs))

  module _ (back : value_in (cell_bytes w) ≡ w) where
    here : meaning (with_cell xs l w) l ≡ w
    here = meaning_within (with_cell xs l w) l (omega (arith, length_with_cell)) ∙ ap value_in cell_here ∙ back

    pub meaning_with_cell : meaning (with_cell xs l w) ≡ put (meaning xs) l w
    meaning_with_cell = fun_ext (λ q.
        ⊎_elim (λ (e : q ≡ l). rw e (here ∙ sym (put_here (meaning xs) l w)))
        (λ (d : q ≡ l → ⊥). apart q d ∙ sym (put_apart (meaning xs) l w q d))
        (cases_eq q l))

    pub formed_with_cell : WellFormed xs → WellFormed (with_cell xs l w)
    formed_with_cell h q in' =
        ⊎_elim (λ (e : q ≡ l). rw e (cell_here ∙ sym (ap cell_bytes here)))
        (λ (d : q ≡ l → ⊥). cell_apart q d ∙ h q (omega (arith, length_with_cell)) ∙ sym (ap cell_bytes (apart q d)))
        (cases_eq q l)

-- what a write of k bytes there leaves
pub written : (xs cell : List ℕ) (l k : ℕ) (w : Option Value) → k ≡ cell_size → cell ≡ cell_bytes w → put_mid (cell_size * l) k xs cell ≡ with_cell xs l w
written xs cell l k w ek ec = rw (ek, ec) (sym (with_cell_is xs l w))

-- the counted cells made all 0
module _ (xs : List ℕ) where
  length_cleared : length (cleared xs) ≡ length xs
  length_cleared =
      omega (
        arith,
        length-append (replicate (cell_size * cells xs) 0) (drop (cell_size * cells xs) xs),
        length-replicate {A = ℕ} (cell_size * cells xs) 0,
        length-drop (cell_size * cells xs) xs,
      )

  cells_cleared : cells (cleared xs) ≡ cells xs
  cells_cleared = ap (λ n. min (n / cell_size) 65536) length_cleared

  pub rest_cleared : RestKept xs (cleared xs)
  rest_cleared = drop_at (replicate (cell_size * cells xs) 0) (drop (cell_size * cells xs) xs) (cell_size * cells xs) (length-replicate {A = ℕ} (cell_size * cells xs) 0)

  cell_cleared : (q : ℕ) → q < cells xs → cell_at (cleared xs) q ≡ cell_bytes None
  cell_cleared q lt =
      ap (take cell_size) (drop-append-le (cell_size * q) (replicate (cell_size * cells xs) 0) (drop (cell_size * cells xs) xs) (omega (arith, length-replicate {A = ℕ} (cell_size * cells xs) 0)) ∙ ap (λ ys. ys ++ drop (cell_size * cells xs) xs) (drop-replicate (cell_size * q) (cell_size * cells xs) 0))
      ∙ take-append-le cell_size (replicate (cell_size * cells xs - cell_size * q) 0) (drop (cell_size * cells xs) xs) (omega (arith, length-replicate {A = ℕ} (cell_size * cells xs - cell_size * q) 0))
      ∙ take-replicate cell_size (cell_size * cells xs - cell_size * q) 0 (omega arith)

  none : (q : ℕ) → meaning (cleared xs) q ≡ None
  none q =
      ⊎_elim (λ (x : q < cells xs). meaning_within (cleared xs) q (omega (arith, cells_cleared)) ∙ ap value_in (cell_cleared q x))
      (λ (x : cells xs ≤ q). meaning_past (cleared xs) q (omega (arith, cells_cleared)))
      (cases_lt q (cells xs))

  pub meaning_cleared : meaning (cleared xs) ≡ (λ q. None)
  meaning_cleared = fun_ext none

  pub formed_cleared : WellFormed (cleared xs)
  formed_cleared q lt = cell_cleared q (omega (arith, cells_cleared)) ∙ sym (ap cell_bytes (none q))

-- two calls, one after the other
pub rest_kept_twice : (xs ys zs : List ℕ) → cells ys ≡ cells xs → RestKept xs ys → RestKept ys zs → RestKept xs zs
rest_kept_twice xs ys zs same first second = ap (λ n. drop (cell_size * n) zs) (sym same) ∙ second ∙ ap (λ n. drop (cell_size * n) ys) same ∙ first
