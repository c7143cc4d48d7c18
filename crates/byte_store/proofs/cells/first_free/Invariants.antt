use Rattle.byte_store.specs.Free.{AllHeld}
use Rattle.byte_store.specs.Layout.{meaning}
use Rattle.byte_store.proofs.cells.first_free.Given as goal

abbrev pub invariant-loop-i : goal.invariant-loop-i
invariant-loop-i l = AllHeld (meaning l.bytes) l.low l.i
