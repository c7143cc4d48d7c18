use Rattle.record_store.specs.Cells.{HeldFrom}
use Rattle.record_store.proofs.records.RecordStore.highest_free.Given as goal

abbrev pub invariant-loop-i : goal.invariant-loop-i
invariant-loop-i l = HeldFrom l.self.cells.now l.i
