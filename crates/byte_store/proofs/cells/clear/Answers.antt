use Rattle.std.proofs.Common.{◌≡◌, ◌*◌, ◌++◌, drop, sym, ap, ◌∙◌, subst, rules}
use Rattle.byte_store.specs.Layout.{cell_size, cells, meaning, WellFormed, cleared}
use Rattle.byte_store.proofs.Rewriting.{rest_cleared, meaning_cleared, formed_cleared}
use Rattle.byte_store.proofs.cells.clear.Goals as goal

pub returns : goal.returns
returns c =
    let xs = c.args.bytes.now in
    let e : c.fill.new.self ++ drop (cell_size * c.counted-end.result) xs ≡ cleared xs = search rules in
    record {
      cells_free = e;
      none_live = ap meaning e ∙ meaning_cleared xs;
      rest_kept = ap (drop (cell_size * cells xs)) e ∙ rest_cleared xs;
      well_formed = subst WellFormed (sym e) (formed_cleared xs);
    }
