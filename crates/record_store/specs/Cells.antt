-- What a cell and a slice of cells mean, and what each call does to the slice.
use Rattle.std.specs.Prelude.{◌≡◌, ℕ, ◌+◌, ◌<◌, ◌≤◌, min, max, Bool, true, false, cond, not, List, ◌++◌, length, drop, replicate, ℤ, pos, negsuc, is_some, Some, None, Ok, Err, Option, Result, ◌==◌, nat_lt, slice_index_or, slice_set}
use Rattle.language.specs.declared.values.Value.{Value}
use Rattle.language.specs.declared.values.Value.TheVariants.{Truth as truth_value, Whole as whole_value}
use Rattle.language.specs.Memory.{Memory}
use Rattle.store.specs.declared.Full.{Full}
use Rattle.record_store.specs.declared.cells.Mark.{Mark}
use Rattle.record_store.specs.declared.cells.Mark.TheVariants.{Free, Truth, Whole}
use Rattle.record_store.specs.declared.cells.Cell.{Cell}

-- the cell of a location that holds a value, or is not live
abbrev pub cell_of : Option Value → Cell
cell_of None = record { mark = Free; number = pos 0 }
cell_of (Some (truth_value b)) = record { mark = Truth; number = cond b (pos 1) (pos 0) }
cell_of (Some (whole_value n)) = record { mark = Whole; number = n }

abbrev pub is_zero : ℤ → Bool
is_zero (pos n) = n == 0
is_zero (negsuc n) = false

abbrev pub value_of : Mark → ℤ → Option Value
value_of Free n = None
value_of Truth n = Some (truth_value (not (is_zero n)))
value_of Whole n = Some (whole_value n)

-- what a cell stands for
abbrev pub value_in : Cell → Option Value
value_in c = value_of c.mark c.number

-- how many cells count: the first 65,536
abbrev pub span : List Cell → ℕ
span cells = min (length cells) 65536

abbrev pub cell_at : List Cell → ℕ → Cell
cell_at cells l = slice_index_or cells l (cell_of None)

-- what each location holds, if it is live
unfoldable pub meant : List Cell → Memory
meant cells l = cond (nat_lt l 65536) (value_in (cell_at cells l)) None

-- each counted cell is the cell of what it means
abbrev pub Formed : List Cell → Type 0
Formed cells = (l : ℕ) → l < span cells → cell_at cells l ≡ cell_of (value_in (cell_at cells l))

-- each counted cell from `from` on is held
abbrev pub HeldFrom : List Cell → ℕ → Type 0
HeldFrom cells from = (l : ℕ) → (from ≤ l) × (l < span cells) → is_some (value_in (cell_at cells l)) ≡ true

-- l is the highest free cell of those that count
abbrev pub HighestFree : List Cell → ℕ → Type 0
HighestFree cells l = (l < span cells) × (value_in (cell_at cells l) ≡ None) × HeldFrom cells (l + 1)

-- a look for the highest free cell: there is none where all that count are held
abbrev pub Found : List Cell → Option ℕ → Type 0
Found cells None = HeldFrom cells 0
Found cells (Some l) = HighestFree cells l

-- every counted cell is free, the others are as they were
abbrev pub cleared : List Cell → List Cell
cleared cells = replicate (span cells) (cell_of None) ++ drop 65536 cells

-- the cells after a call that has the location l hold w, unless it refuses
abbrev pub cells_after_call : {A E : Type 0} → Result A E → List Cell → ℕ → Option Value → List Cell
cells_after_call (Ok a) cells l w = slice_set cells l (cell_of w)
cells_after_call (Err e) cells l w = cells

-- the cells after a take of v, which answers the location
abbrev pub cells_taken : Result ℕ Full → List Cell → Value → List Cell
cells_taken (Ok l) cells v = slice_set cells l (cell_of (Some v))
cells_taken (Err full) cells v = cells

-- which location a take answers, and when it refuses
abbrev pub HighestTaken : Result ℕ Full → List Cell → Type 0
HighestTaken (Ok l) cells = HighestFree cells l
HighestTaken (Err full) cells = HeldFrom cells 0

-- from where on every counted cell is known to be held, after a take and after a release of l
abbrev pub top_taken : Result ℕ Full → ℕ → ℕ
top_taken (Ok l) top = l
top_taken (Err full) top = top

abbrev pub top_released : {A E : Type 0} → Result A E → ℕ → ℕ → ℕ
top_released (Ok a) top l = max top (l + 1)
top_released (Err e) top l = top
