-- Which locations can be live, and how many. Assumes nothing.
use Rattle.std.specs.Prelude.{◌≡◌, ℕ, ◌<◌, ◌≤◌, true, List, length, is_some, None, refl}
use Rattle.std.proofs.Common.{sym, ap, ◌∙◌, ⊎_elim, arith}
use Rattle.std.proofs.lemmas.List.{get_or_past}
use Rattle.std.proofs.lemmas.Bool.{cases_lt, lt-ltb, le-ltb, false≢true}
use Rattle.language.specs.Memory.{live, live_below}
use Rattle.language.specs.Counting.{below_le, live_past}
use Rattle.record_store.specs.declared.cells.Cell.{Cell}
use Rattle.record_store.specs.Cells.{cell_of, value_in, span, meant}

pub meant_past : (cells : List Cell) (l : ℕ) → span cells ≤ l → meant cells l ≡ None
unfolding meant
meant_past cells l le =
    ⊎_elim (λ (lt : l < 65536). let p : length cells ≤ l = omega arith in rw lt-ltb (ap value_in (get_or_past cells l (cell_of None) p)))
    (λ (ge : 65536 ≤ l). rw le-ltb refl)
    (cases_lt l 65536)

-- a live location is that of a counted cell
pub meant_low : (cells : List Cell) (l : ℕ) → is_some (meant cells l) ≡ true → l < 65536
meant_low cells l e =
    ⊎_elim (λ (lt : l < 65536). lt)
    (λ (ge : 65536 ≤ l). absurd (false≢true (sym (ap is_some (meant_past cells l (omega arith))) ∙ e)))
    (cases_lt l 65536)

pub live_is : (cells : List Cell) → live (meant cells) ≡ live_below (meant cells) (span cells)
live_is cells = live_past (meant cells) (span cells) (omega arith) (meant_past cells)

pub live_span : (cells : List Cell) → live (meant cells) ≤ span cells
live_span cells = omega (arith, live_is cells, below_le (meant cells) (span cells))
