use Rattle.std.proofs.Common.{◌≡◌, ◌+◌, ◌-◌, ◌*◌, ◌<◌, take, drop, sym, ap, ◌∙◌, arith, rules}
use Rattle.byte_store.specs.Layout.{cell_size, cells, value_in}
use Rattle.byte_store.specs.Laws.{meaning_past}
use Rattle.byte_store.proofs.Rewriting.{meaning_within}
use Rattle.byte_store.proofs.cells.found.Goals as goal

pub returns-in_err-get-clause-value : goal.returns-in_err-get-clause-value
returns-in_err-get-clause-value c = search (rules, meaning_past)

pub returns-clause-value : goal.returns-clause-value
returns-clause-value c =
    let bytes = c.args.bytes.now in
    let l = c.args.location in
    let lt : l < cells bytes = search rules in
    let size : cell_size * l + cell_size - cell_size * l ≡ cell_size = omega arith in
    let here : c.in_ok-get.field-0.now ≡ take (cell_size * l + cell_size - cell_size * l) (drop (cell_size * l) bytes) = search rules in
    c.decode.ensures ∙ ap value_in here ∙ ap (λ n. value_in (take n (drop (cell_size * l) bytes))) size ∙ sym (meaning_within bytes l lt)
