-- What a row of bytes means, read as cells of five bytes.
use Rattle.std.specs.Prelude.{◌≡◌, ℕ, zero, suc, ◌+◌, ◌*◌, ◌/◌, ◌%◌, ◌<◌, min, cond, not, List, [], ◌∷◌, ◌++◌, length, take, drop, replicate, ℤ, pos, Some, None, Ok, Err, Option, Result, ◌==◌, nat_lt, slice_index}
use Rattle.std.specs.Int.{w32}
use Rattle.std.proofs.Common.{to_z, of_z}
use Rattle.language.specs.declared.values.Value.{Value}
use Rattle.language.specs.declared.values.Value.TheVariants.{Truth, Whole}
use Rattle.language.specs.Memory.{Memory}

-- how many bytes a number has, and a cell: the mark and the number
abbrev pub number_size : ℕ
number_size = 4

abbrev pub cell_size : ℕ
cell_size = 1 + number_size

-- the bytes of a number: two's complement, least byte first
abbrev pub bytes_of_number : ℤ → List ℕ
bytes_of_number z = (of_z w32 z % 256) ∷ (of_z w32 z / 256 % 256) ∷ (of_z w32 z / 65536 % 256) ∷ (of_z w32 z / 16777216 % 256) ∷ []

-- and back
abbrev pub number_in : List ℕ → ℤ
number_in bytes = to_z w32 (slice_index bytes 0 + slice_index bytes 1 * 256 + slice_index bytes 2 * 65536 + slice_index bytes 3 * 16777216)

-- a cell: the mark, 0 where it is free, 1 for a truth and 2 for a whole number, and then the number
abbrev pub cell_bytes : Option Value → List ℕ
cell_bytes None = 0 ∷ bytes_of_number (pos 0)
cell_bytes (Some (Truth b)) = 1 ∷ bytes_of_number (cond b (pos 1) (pos 0))
cell_bytes (Some (Whole z)) = 2 ∷ bytes_of_number z

-- and back, of the mark and the number
abbrev pub marked : ℕ → ℤ → Option Value
marked zero z = None
marked (suc zero) z = Some (Truth (not (of_z w32 z == 0)))
marked (suc (suc k)) z = Some (Whole z)

abbrev pub value_in : List ℕ → Option Value
value_in cell = marked (slice_index cell 0) (number_in (drop 1 cell))

-- how many cells count: as many as fit, and never more than there are locations
abbrev pub cells : List ℕ → ℕ
cells bytes = min (length bytes / cell_size) 65536

-- the bytes of the cell l
abbrev pub cell_at : List ℕ → ℕ → List ℕ
cell_at bytes l = take cell_size (drop (cell_size * l) bytes)

-- what each location holds
unfoldable pub meaning : List ℕ → Memory
meaning bytes l = cond (nat_lt l (cells bytes)) (value_in (cell_at bytes l)) None

-- each counted cell has exactly the bytes of what it holds, so a free one is all 0
abbrev pub WellFormed : List ℕ → Type 0
WellFormed bytes = (l : ℕ) → l < cells bytes → cell_at bytes l ≡ cell_bytes (meaning bytes l)

-- the bytes with the cell l replaced
abbrev pub with_cell : List ℕ → ℕ → Option Value → List ℕ
with_cell bytes l w = take (cell_size * l) bytes ++ (cell_bytes w ++ drop (cell_size * l + cell_size) bytes)

-- what lies after the counted cells is as it was
abbrev pub RestKept : (before after : List ℕ) → Type 0
RestKept before after = drop (cell_size * cells before) after ≡ drop (cell_size * cells before) before

-- the bytes with every counted cell all 0
abbrev pub cleared : List ℕ → List ℕ
cleared bytes = replicate (cell_size * cells bytes) 0 ++ drop (cell_size * cells bytes) bytes

-- the bytes after a call on the location l: as they were where the call was refused
abbrev pub bytes_after_call : {A E : Type 0} → Result A E → List ℕ → ℕ → Option Value → List ℕ
bytes_after_call (Ok a) bytes l w = with_cell bytes l w
bytes_after_call (Err e) bytes l w = bytes

-- the bytes after a take, at the location that it answers
abbrev pub bytes_taken : {E : Type 0} → Result ℕ E → List ℕ → Option Value → List ℕ
bytes_taken (Ok l) bytes w = with_cell bytes l w
bytes_taken (Err e) bytes w = bytes
