-- No row of bytes has a live location past the counted cells, nor more of them than cells. Assumes nothing.
use Rattle.std.specs.Prelude.{◌≡◌, ℕ, ◌<◌, ◌≤◌, true, List, is_some, None}
use Rattle.std.proofs.Common.{sym, ap, ◌∙◌, ⊎_elim, arith}
use Rattle.std.proofs.lemmas.Bool.{cases_lt, le-ltb, cond-false, false≢true}
use Rattle.language.specs.Memory.{live, live_below}
use Rattle.language.specs.Counting.{below_le, live_past}
use Rattle.byte_store.specs.Layout.{cells, meaning}

pub meaning_past : (bytes : List ℕ) (l : ℕ) → cells bytes ≤ l → meaning bytes l ≡ None
unfolding meaning
meaning_past bytes l le = cond-false _ _ _ (le-ltb l (cells bytes) le)

-- a live location is a counted cell
pub live_within : (bytes : List ℕ) (l : ℕ) → is_some (meaning bytes l) ≡ true → l < cells bytes
live_within bytes l e =
    ⊎_elim (λ (lt : l < cells bytes). lt)
    (λ (ge : cells bytes ≤ l). absurd (false≢true (sym (ap is_some (meaning_past bytes l ge)) ∙ e)))
    (cases_lt l (cells bytes))

pub live_low : (bytes : List ℕ) (l : ℕ) → is_some (meaning bytes l) ≡ true → l < 65536
live_low bytes l e = omega (arith, live_within bytes l e)

pub live_counted : (bytes : List ℕ) → live (meaning bytes) ≡ live_below (meaning bytes) (cells bytes)
live_counted bytes = live_past (meaning bytes) (cells bytes) (omega arith) (meaning_past bytes)

pub live_le_cells : (bytes : List ℕ) → live (meaning bytes) ≤ cells bytes
live_le_cells bytes = omega (arith, live_counted bytes, below_le (meaning bytes) (cells bytes))
