use Rattle.record_store.proofs.Clearing.{cleared_is}
use Rattle.record_store.proofs.records.clear.Goals as goal

pub returns : goal.returns
returns c =
    cleared_is c.args.cells.now c.fill.new.self c.counted-n.result c.free.result c.counted-n.ensures c.free.ensures.cell (c.fill.ensures.after (λ y e. e))
