-- Which free cell is next, of n cells that hold what f says.
use Rattle.std.specs.Prelude.{◌≡◌, ℕ, ◌+◌, ◌<◌, ◌≤◌, true, ◌⊎◌, is_some, Some, None, Ok, Err, Option, Result}
use Rattle.language.specs.declared.values.Value.{Value}
use Rattle.language.specs.Memory.{Memory, put, live}

-- every cell from a on, below b, is held
abbrev pub AllHeld : Memory → (a b : ℕ) → Type 0
AllHeld f a b = (q : ℕ) → (a ≤ q) × (q < b) → is_some (f q) ≡ true

-- the first free cell from a on, below b
abbrev pub FirstFree : Memory → (a b : ℕ) → Option ℕ → Type 0
FirstFree f a b None = AllHeld f a b
FirstFree f a b (Some l) = (a ≤ l) × (l < b) × (f l ≡ None) × AllHeld f a l

-- the first free cell from `start` on, going round at the end
abbrev pub NextFree : (n : ℕ) → Memory → (start : ℕ) → ℕ → Type 0
NextFree n f start l = FirstFree f start n (Some l) ⊎ (FirstFree f start n None × FirstFree f 0 n (Some l))

-- which location a take answers, and when it refuses
abbrev pub NextTaken : {E : Type 0} → Result ℕ E → (n : ℕ) → Memory → (start : ℕ) → Type 0
NextTaken (Ok l) n f start = NextFree n f start l
NextTaken (Err e) n f start = AllHeld f 0 n

-- where the search of the next take starts
abbrev pub from_taken : {E : Type 0} → Result ℕ E → (start : ℕ) → ℕ
from_taken (Ok l) start = l + 1
from_taken (Err e) start = start

-- every free cell is from a on, below b
abbrev pub FreeWithin : (n : ℕ) → Memory → (a b : ℕ) → Type 0
FreeWithin n f a b = (b ≤ n) × AllHeld f 0 a × AllHeld f b n

-- the next free cell, and where the free cells are once it is held; or none is free
abbrev pub Chosen : (n : ℕ) → Memory → (start a b : ℕ) → Option ℕ → Type 0
Chosen n f start a b None = AllHeld f 0 n × FreeWithin n f a b
Chosen n f start a b (Some l) = NextFree n f start l × ((v : Value) → FreeWithin n (put f l (Some v)) a b)

-- a free cell is found if and only if fewer are live than there are cells
abbrev pub Room : (n : ℕ) → Memory → Option ℕ → Type 0
Room n f None = live f ≡ n
Room n f (Some l) = (l < n) × (f l ≡ None) × (live f < n)
