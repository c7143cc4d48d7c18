-- A slice of which every counted cell was made free. Assumes nothing.
use Rattle.std.proofs.Common.{◌≡◌, ℕ, ◌<◌, ◌≤◌, min, List, ◌++◌, length, take, drop, replicate, None, sym, ap, ◌∙◌, ⊎_elim, arith}
use mathlib.Core.Path.{fun_ext}
use Rattle.std.proofs.lemmas.List.{length-take, length-drop, length-append, length-replicate, get_or_append_left, get_or-replicate, drop_all, drop_at}
use Rattle.std.proofs.lemmas.Bool.{cases_lt}
use Rattle.language.specs.Memory.{live}
use Rattle.language.specs.Counting.{live_none}
use Rattle.record_store.specs.declared.cells.Cell.{Cell}
use Rattle.record_store.specs.Cells.{cell_of, value_in, span, cell_at, meant, Formed, cleared}
use Rattle.record_store.specs.Bounds.{meant_past}
use Rattle.record_store.proofs.Soundness.{meant_within, Sound}

pub rest_is : (cells : List Cell) → drop (span cells) cells ≡ drop 65536 cells
rest_is cells =
    ⊎_elim (λ (lt : length cells < 65536). drop_all (span cells) cells (omega arith) ∙ sym (drop_all 65536 cells (omega arith)))
    (λ (ge : 65536 ≤ length cells). let e : span cells ≡ 65536 = omega arith in ap (λ n. drop n cells) e)
    (cases_lt (length cells) 65536)

pub cleared_is : (cells front : List Cell) (n : ℕ) (free : Cell) → n ≡ span cells → free ≡ cell_of None → front ≡ replicate (length (take n cells)) free → front ++ drop n cells ≡ cleared cells
cleared_is cells front n free e f g =
    let long : length (take n cells) ≡ span cells = length-take n cells ∙ omega (arith, e) in
    let first : front ≡ replicate (span cells) (cell_of None) = g ∙ ap (λ k. replicate k free) long ∙ ap (replicate (span cells)) f in
    let last : drop n cells ≡ drop 65536 cells = ap (λ k. drop k cells) e ∙ rest_is cells in
    ap (λ xs. xs ++ drop n cells) first ∙ ap (λ xs. replicate (span cells) (cell_of None) ++ xs) last

pub length_cleared : (cells : List Cell) → length (cleared cells) ≡ length cells
length_cleared cells =
    omega (arith, length-append (replicate (span cells) (cell_of None)) (drop 65536 cells), length-replicate (span cells) (cell_of None), length-drop 65536 cells)

pub span_cleared : (cells : List Cell) → span (cleared cells) ≡ span cells
span_cleared cells = ap (λ n. min n 65536) (length_cleared cells)

pub at_cleared : (cells : List Cell) (l : ℕ) → l < span cells → cell_at (cleared cells) l ≡ cell_of None
at_cleared cells l lt =
    let long = length-replicate (span cells) (cell_of None) in
    get_or_append_left (replicate (span cells) (cell_of None)) (drop 65536 cells) (cell_of None) l (omega arith) ∙ get_or-replicate (span cells) l (cell_of None) (cell_of None) lt

pub rest_cleared : (cells : List Cell) → drop 65536 (cleared cells) ≡ drop 65536 cells
rest_cleared cells =
    ⊎_elim (λ (lt : length cells < 65536). drop_all 65536 (cleared cells) (omega (arith, length_cleared cells)) ∙ sym (drop_all 65536 cells (omega arith)))
    (λ (ge : 65536 ≤ length cells). drop_at (replicate (span cells) (cell_of None)) (drop 65536 cells) 65536 (length-replicate (span cells) (cell_of None) ∙ omega arith))
    (cases_lt (length cells) 65536)

pub formed_cleared : (cells : List Cell) → Formed (cleared cells)
formed_cleared cells l lt =
    let e = at_cleared cells l (omega (arith, span_cleared cells)) in
    e ∙ sym (ap (λ c. cell_of (value_in c)) e)

pub meant_cleared : (cells : List Cell) → meant (cleared cells) ≡ (λ l. None)
meant_cleared cells = fun_ext (λ l.
    ⊎_elim (λ (lt : l < span cells). meant_within (cleared cells) l (omega arith) ∙ ap value_in (at_cleared cells l lt))
    (λ (ge : span cells ≤ l). meant_past (cleared cells) l (omega (arith, span_cleared cells)))
    (cases_lt l (span cells)))

pub live_cleared : (cells : List Cell) → live (meant (cleared cells)) ≡ 0
live_cleared cells = live_none (meant (cleared cells)) (meant_cleared cells)

pub sound_cleared : (xs cells : List Cell) (top : ℕ) → xs ≡ cleared cells → top ≡ span cells → Sound xs 0 top
sound_cleared xs cells top e t =
    let s : span xs ≡ span cells = ap span e ∙ span_cleared cells in
    let n : 0 ≡ live (meant xs) = rw e (sym (live_cleared cells)) in
    let f : Formed xs = rw e (formed_cleared cells) in
    (n, (f, (omega (arith, s, t), ((λ l b. absurd (omega (arith, s, t, b.0, b.1))), tt))))
