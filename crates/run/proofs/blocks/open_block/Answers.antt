use Rattle.std.proofs.Common.{refl, ap, ◌∙◌, arith}
use Rattle.std.proofs.lemmas.Result.{err_from_is_err_and}
use Rattle.language.specs.Values.{initial_value}
use Rattle.run.proofs.Opens.{opening_first, opening_more, open_stop}
use Rattle.run.proofs.Sights.{linked_down}
use Rattle.run.proofs.Slices.{stretch_at, stretch_within}
use Rattle.run.proofs.blocks.open_block.Goals as goal

pub loop-node-init : goal.loop-node-init
loop-node-init g c =
    let s = c.args.scope.now in
    (refl, opening_first _ _ _ _ _ _ _ s.low (linked_down s.records.now s.top s.within s.down))

pub returns-in_err-location-clause-opened : goal.returns-in_err-location-clause-opened
returns-in_err-location-clause-opened g c =
    let p = err_from_is_err_and c.from_residual.result c.from_residual.ensures.1 in
    let o = c.loop-node.invariant.1 in
    let t = c.in_err-location.ensures.taken in
    rw (p.1, p.2) (open_stop _ _ _ c.loop-node.node-index _ _ _ _ _ _ _ _ _ o.open_block (stretch_within _ _ _ _ c.loop-node-test.true) c.loop-node.invariant.0 t.0 t.1)

pub loop-node-preserved : goal.loop-node-preserved
loop-node-preserved g c =
    let o = c.loop-node.invariant.1 in
    let lt = stretch_within c.args.table.nodes.now c.args.from c.args.count _ c.loop-node-test.true in
    let e = c.enter.ensures in (
      c.take.ensures.limit_kept ∙ c.loop-node.invariant.0,
      opening_more _ _ _ _ _ _ _ _ _ _ _ _ _ _ _ _ _ _ _ _ o (omega (arith, o.top, o.long, c.requires.room, lt)) (stretch_at c.args.table.nodes.now c.args.from c.args.count _ _ c.loop-node-test.true)
          (c.first_value-first.ensures ∙ ap initial_value c.declared_type.ensures)
          c.loop-node.invariant.0 c.in_ok-location.ensures.taken (rw c.unwrap.ensures at e.others_kept) (rw c.unwrap.ensures at e.top_after) (rw c.unwrap.ensures at e.head_after),
    )
