use Rattle.std.proofs.Common.{None, arith, rules}
use Rattle.std.proofs.lemmas.List.{drop-set-lt}
use Rattle.record_store.proofs.Soundness.{sound}
use Rattle.record_store.proofs.Changes.{sound_released, meant_changed, counts_one}
use Rattle.record_store.proofs.records.RecordStoreStore.release.Goals as goal

pub overflow_sub-self : goal.overflow_sub-self
overflow_sub-self c = search (rules, counts_one)

pub invariant_of-self : goal.invariant_of-self
invariant_of-self c =
    let s = c.args.self.now in
    search (rules, sound_released s.cells.now s.count s.top c.max-self.result c.args.location c.free.result c.free.ensures.cell c.max-self.ensures (sound s) (search rules) (search rules))

pub returns-clause-others_kept : goal.returns-clause-others_kept
returns-clause-others_kept c =
    meant_changed c.args.self.now.cells.now c.args.location c.free.result None c.free.ensures.cell (search rules)

pub returns-clause-rest_kept : goal.returns-clause-rest_kept
returns-clause-rest_kept c = drop-set-lt 65536 c.args.self.now.cells.now c.args.location c.free.result (omega arith)
