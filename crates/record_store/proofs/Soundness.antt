-- What a counted cell means, and what a store keeps of its fields. Assumes nothing.
use Rattle.std.proofs.Common.{◌≡◌, ℕ, ◌<◌, ◌≤◌, List, refl}
use Rattle.std.proofs.lemmas.Bool.{lt-ltb}
use Rattle.language.specs.Memory.{live}
use Rattle.record_store.specs.declared.cells.Cell.{Cell}
use Rattle.record_store.specs.declared.records.RecordStore.{RecordStore}
use Rattle.record_store.specs.Cells.{value_in, span, cell_at, meant, Formed, HeldFrom}

pub meant_within : (cells : List Cell) (l : ℕ) → l < 65536 → meant cells l ≡ value_in (cell_at cells l)
unfolding meant
meant_within cells l lt = rw lt-ltb refl

-- the facts of a store, in the order of its ghost fields
abbrev pub Sound : List Cell → ℕ → ℕ → Type 0
Sound cells count top = (count ≡ live (meant cells)) × (Formed cells × ((top ≤ span cells) × (HeldFrom cells top × Unit {0})))

pub sound : (s : RecordStore) → Sound s.cells.now s.count s.top
sound s = (s.counted, (s.well_formed, (s.top_within, (s.held_from_top, tt))))
