use Rattle.std.proofs.Common.{◌≡◌, ◌+◌, ◌-◌, ◌*◌, drop, sym, ap, ◌∙◌, subst, arith}
use Rattle.byte_store.specs.Layout.{cell_size, cell_bytes, value_in, cells, meaning, WellFormed}
use Rattle.byte_store.proofs.Rewriting.{written, cells_with_cell, rest_with_cell, meaning_with_cell, formed_with_cell}
use Rattle.byte_store.proofs.cells.put_cell.Goals as goal

pub returns : goal.returns
returns c =
    let xs = c.args.bytes.now in
    let l = c.args.location in
    let w = c.args.held in
    let size : cell_size * l + cell_size - cell_size * l ≡ cell_size = omega arith in
    let e = written xs _ l _ w size (c.copy_from_slice.ensures.after ∙ c.encode.ensures.bytes) in
    let back : value_in (cell_bytes w) ≡ w = ap value_in (sym c.encode.ensures.bytes) ∙ c.encode.ensures.back in
    record {
      bytes = e;
      means = ap meaning e ∙ meaning_with_cell xs l w c.requires back;
      limit_kept = ap cells e ∙ cells_with_cell xs l w c.requires;
      rest_kept = ap (drop (cell_size * cells xs)) e ∙ rest_with_cell xs l w c.requires (cell_size * cells xs) (omega (arith, c.requires));
      well_formed = λ h. subst WellFormed (sym e) (formed_with_cell xs l w c.requires back h);
    }
