use Rattle.std.proofs.Common.{drop, refl, ap, ◌∙◌, rules}
use Rattle.record_store.specs.Cells.{span, meant}
use Rattle.record_store.proofs.Clearing.{sound_cleared, span_cleared, meant_cleared, rest_cleared}
use Rattle.record_store.proofs.records.RecordStore.over.Goals as goal

pub invariant_of-result : goal.invariant_of-result
invariant_of-result c = search (rules, sound_cleared c.clear.new.cells c.args.cells.now c.counted-top.result c.clear.ensures c.counted-top.ensures)

pub returns : goal.returns
returns c =
    let cells = c.args.cells.now in
    let e = c.clear.ensures in
    record {
      limit = ap span e ∙ span_cleared cells;
      none_live = ap meant e ∙ meant_cleared cells;
      cells_free = e;
      top_after = c.counted-top.ensures;
      rest_kept = ap (drop 65536) e ∙ rest_cleared cells;
      same_slice = refl;
    }
