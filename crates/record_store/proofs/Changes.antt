-- A slice of which one counted cell was written. Assumes nothing.
use Rattle.std.proofs.Common.{◌≡◌, ℕ, ◌+◌, ◌-◌, ◌<◌, ◌≤◌, min, max, true, false, cond, ltb, List, set, is_some, Some, None, Option, sym, refl, ap, ◌∙◌, ⊎_elim, arith}
use mathlib.Core.Path.{fun_ext}
use Rattle.std.proofs.lemmas.List.{length-set, get_or-set_same, get_or-set_other}
use Rattle.std.proofs.lemmas.Bool.{cases_eq}
use Rattle.language.specs.declared.values.Value.{Value}
use Rattle.language.specs.declared.values.Value.TheVariants.{Truth as truth_value, Whole as whole_value}
use Rattle.language.specs.Memory.{put, live, one}
use Rattle.language.specs.Counting.{one_some, live_put, below_all, below_gap, put_here, put_apart}
use Rattle.record_store.specs.declared.cells.Cell.{Cell}
use Rattle.record_store.specs.Cells.{cell_of, value_in, span, cell_at, meant, Formed, HeldFrom, HighestFree}
use Rattle.record_store.specs.Bounds.{live_is}
use Rattle.record_store.proofs.Soundness.{meant_within, Sound}

pub value_cell : (w : Option Value) → value_in (cell_of w) ≡ w
value_cell None = refl
value_cell (Some (truth_value true)) = refl
value_cell (Some (truth_value false)) = refl
value_cell (Some (whole_value n)) = refl

pub span_set : (cells : List Cell) (l : ℕ) (c : Cell) → span (set cells l c) ≡ span cells
span_set cells l c = ap (λ n. min n 65536) (length-set cells l c)

pub at_set : (cells : List Cell) (l : ℕ) (c : Cell) → l < span cells → cell_at (set cells l c) l ≡ c
at_set cells l c lt = get_or-set_same cells l c (cell_of None) (omega arith)

pub at_other : (cells : List Cell) (l q : ℕ) (c : Cell) → (q ≡ l → ⊥) → cell_at (set cells l c) q ≡ cell_at cells q
at_other cells l q c d = get_or-set_other cells l q c (cell_of None) d

pub meant_set : (cells : List Cell) (l : ℕ) (w : Option Value) → l < span cells → meant (set cells l (cell_of w)) ≡ put (meant cells) l w
unfolding meant
meant_set cells l w lt = fun_ext (λ q.
    ⊎_elim (λ (e : q ≡ l).
    let here : meant (set cells l (cell_of w)) l ≡ w = meant_within _ l (omega arith) ∙ ap value_in (at_set cells l (cell_of w) lt) ∙ value_cell w in
    rw e (here ∙ sym (put_here (meant cells) l w)))
    (λ (d : q ≡ l → ⊥).
    ap (λ x. cond (ltb q 65536) (value_in x) None) (at_other cells l q (cell_of w) d) ∙ sym (put_apart (meant cells) l w q d))
    (cases_eq q l))

pub formed_set : (cells : List Cell) (l : ℕ) (w : Option Value) → l < span cells → Formed cells → Formed (set cells l (cell_of w))
formed_set cells l w lt h q below =
    ⊎_elim (λ (e : q ≡ l).
    let here : cell_at (set cells l (cell_of w)) l ≡ cell_of w = at_set cells l (cell_of w) lt in
    rw e (here ∙ sym (ap cell_of (value_cell w)) ∙ sym (ap (λ c. cell_of (value_in c)) here)))
    (λ (d : q ≡ l → ⊥).
    let same = at_other cells l q (cell_of w) d in
    same ∙ h q (omega (arith, span_set cells l (cell_of w))) ∙ sym (ap (λ c. cell_of (value_in c)) same))
    (cases_eq q l)

-- what else is held from `from` on stays so
pub held_set : (cells : List Cell) (l from : ℕ) (v : Value) → l < span cells → ((q : ℕ) → (q ≡ l → ⊥) → (from ≤ q) × (q < span cells) → is_some (value_in (cell_at cells q)) ≡ true) → HeldFrom (set cells l (cell_of (Some v))) from
held_set cells l from v lt h q b =
    ⊎_elim (λ (e : q ≡ l). rw e (ap is_some (ap value_in (at_set cells l (cell_of (Some v)) lt) ∙ value_cell (Some v))))
    (λ (d : q ≡ l → ⊥). ap (λ c. is_some (value_in c)) (at_other cells l q (cell_of (Some v)) d) ∙ h q d (b.0, omega (arith, b.1, span_set cells l (cell_of (Some v)))))
    (cases_eq q l)

pub held_taken : (cells : List Cell) (l : ℕ) (v : Value) → l < span cells → HeldFrom cells (l + 1) → HeldFrom (set cells l (cell_of (Some v))) l
held_taken cells l v lt h = held_set cells l l v lt (λ q d b. h q (omega (arith, d, b.0), b.1))

pub held_written : (cells : List Cell) (l top : ℕ) (v : Value) → l < span cells → HeldFrom cells top → HeldFrom (set cells l (cell_of (Some v))) top
held_written cells l top v lt h = held_set cells l top v lt (λ q d b. h q b)

pub held_released : (cells : List Cell) (l top : ℕ) (c : Cell) → HeldFrom cells top → HeldFrom (set cells l c) (max top (l + 1))
held_released cells l top c h q b =
    ap (λ x. is_some (value_in x)) (at_other cells l q c (λ e. omega (arith, b.0)))
    ∙ h q (omega (arith, b.0), omega (arith, b.1, span_set cells l c))

-- the count after a cell is written
pub live_set : (cells : List Cell) (l : ℕ) (w : Option Value) → l < span cells → live (meant (set cells l (cell_of w))) + one (meant cells l) ≡ live (meant cells) + one w
live_set cells l w lt = omega (arith, ap live (meant_set cells l w lt), live_put (meant cells) l w (omega arith))

pub live_full : (cells : List Cell) → HeldFrom cells 0 → live (meant cells) ≡ span cells
live_full cells h =
    live_is cells ∙ below_all (meant cells) (span cells) (λ q lt. ap is_some (meant_within cells q (omega arith)) ∙ h q (omega arith, lt))

pub live_gap : (cells : List Cell) (l : ℕ) → l < span cells → meant cells l ≡ None → live (meant cells) < span cells
live_gap cells l lt e = omega (arith, live_is cells, below_gap (meant cells) l (span cells) lt e)

-- the same of a cell x that the code made
pub meant_changed : (cells : List Cell) (l : ℕ) (x : Cell) (w : Option Value) → x ≡ cell_of w → l < span cells → meant (set cells l x) ≡ put (meant cells) l w
meant_changed cells l x w e lt = ap (λ y. meant (set cells l y)) e ∙ meant_set cells l w lt

pub live_changed : (cells : List Cell) (l : ℕ) (x : Cell) (w : Option Value) → x ≡ cell_of w → l < span cells → live (meant (set cells l x)) + one (meant cells l) ≡ live (meant cells) + one w
live_changed cells l x w e lt = ap (λ y. live (meant (set cells l y)) + one (meant cells l)) e ∙ live_set cells l w lt

pub sound_taken : (cells : List Cell) (count top l : ℕ) (x : Cell) (v : Value) → x ≡ cell_of (Some v) → Sound cells count top → HighestFree cells l → Sound (set cells l x) (count + 1) l
sound_taken cells count top l x v e s h =
    let free : meant cells l ≡ None = meant_within cells l (omega (arith, h.0)) ∙ h.1 in
    let n : count + 1 ≡ live (meant (set cells l x)) = omega (arith, s.0, live_changed cells l x (Some v) e h.0, ap one free) in
    let f : Formed (set cells l x) = rw e (formed_set cells l (Some v) h.0 s.1.0) in
    let g : HeldFrom (set cells l x) l = rw e (held_taken cells l v h.0 h.2) in
    (n, (f, (omega (arith, h.0, span_set cells l x), (g, tt))))

pub sound_written : (cells : List Cell) (count top l : ℕ) (x : Cell) (v : Value) → x ≡ cell_of (Some v) → Sound cells count top → l < span cells → is_some (meant cells l) ≡ true → Sound (set cells l x) count top
sound_written cells count top l x v e s lt h =
    let n : count ≡ live (meant (set cells l x)) = omega (arith, s.0, live_changed cells l x (Some v) e lt, one_some (meant cells l) h) in
    let f : Formed (set cells l x) = rw e (formed_set cells l (Some v) lt s.1.0) in
    let g : HeldFrom (set cells l x) top = rw e (held_written cells l top v lt s.1.1.1.0) in
    (n, (f, (omega (arith, s.1.1.0, span_set cells l x), (g, tt))))

pub sound_released : (cells : List Cell) (count top next l : ℕ) (x : Cell) → x ≡ cell_of None → next ≡ max top (l + 1) → Sound cells count top → l < span cells → is_some (meant cells l) ≡ true → Sound (set cells l x) (count - 1) next
sound_released cells count top next l x e t s lt h =
    let n : count - 1 ≡ live (meant (set cells l x)) = omega (arith, s.0, live_changed cells l x None e lt, one_some (meant cells l) h) in
    let f : Formed (set cells l x) = rw e (formed_set cells l None lt s.1.0) in
    let g : HeldFrom (set cells l x) next = rw t (held_released cells l top x s.1.1.1.0) in
    (n, (f, (omega (arith, t, lt, s.1.1.0, span_set cells l x), (g, tt))))

-- a store with a live location counts it
pub counts_one : (cells : List Cell) (l : ℕ) → l < span cells → is_some (meant cells l) ≡ true → 1 ≤ live (meant cells)
counts_one cells l lt h = omega (arith, live_set cells l None lt, one_some (meant cells l) h)
