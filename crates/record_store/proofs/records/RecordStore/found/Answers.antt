use Rattle.std.proofs.Common.{rules}
use Rattle.record_store.specs.Bounds.{meant_past}
use Rattle.record_store.proofs.Soundness.{meant_within}
use Rattle.record_store.proofs.records.RecordStore.found.Goals as goal

pub returns-in_err-get : goal.returns-in_err-get
returns-in_err-get c = search (rules, meant_past)

pub returns : goal.returns
returns c = search (rules, meant_within)
