use Rattle.std.proofs.Common.{Some, arith, rules}
use Rattle.std.proofs.lemmas.List.{drop-set-lt}
use Rattle.record_store.proofs.Soundness.{sound}
use Rattle.record_store.proofs.Changes.{sound_written, meant_changed}
use Rattle.record_store.proofs.records.RecordStoreStore.write.Goals as goal

pub invariant_of-self : goal.invariant_of-self
invariant_of-self c =
    let s = c.args.self.now in
    search (rules, sound_written s.cells.now s.count s.top c.args.location c.holding.result c.args.value c.holding.ensures.cell (sound s) (search rules) (search rules))

pub returns-clause-others_kept : goal.returns-clause-others_kept
returns-clause-others_kept c =
    meant_changed c.args.self.now.cells.now c.args.location c.holding.result (Some c.args.value) c.holding.ensures.cell (search rules)

pub returns-clause-rest_kept : goal.returns-clause-rest_kept
returns-clause-rest_kept c = drop-set-lt 65536 c.args.self.now.cells.now c.args.location c.holding.result (omega arith)
