use Rattle.std.proofs.Common.{◌∙◌, refl, arith}
use Rattle.std.proofs.lemmas.List.{length-take-le}
use Rattle.history.specs.Histories.{high_dead}
use Rattle.history.proofs.Held.{vacant}
use Rattle.piece.proofs.Passes.{placed_none, placed_more, placed_takes, taken_at}
use Rattle.piece.proofs.points.take_locations.Goals as goal

pub loop-point-init : goal.loop-point-init
loop-point-init g c =
    let σ = g.S.Store.at c.args.store.now in
    (refl, placed_none σ (vacant σ c.requires.empty (high_dead σ (g.S.Store.low c.args.store.now))))

pub unwrap-point-requires : goal.unwrap-point-requires
unwrap-point-requires g c =
    let n = length-take-le c.args.count c.args.points.now c.requires.within in
    placed_takes (g.S.Store.at c.loop-point.store) (g.S.Store.at c.take.new.self) c.loop-point.point-items c.loop-point.point-index (g.S.Store.bound c.loop-point.store) _ c.take.result c.loop-point.invariant.1
    (let k = c.loop-point.auto.point-items in omega arith)
    (let r = c.requires.room in let b = c.loop-point.invariant.0 in omega arith) c.take.ensures.taken

pub loop-point-preserved : goal.loop-point-preserved
loop-point-preserved g c =
    let e = taken_at (g.S.Store.bound c.loop-point.store) (g.S.Store.at c.loop-point.store) (g.S.Store.at c.take.new.self) _ c.take.result _ c.unwrap-point.ensures c.take.ensures.taken in (
      c.take.ensures.limit_kept ∙ c.loop-point.invariant.0,
      placed_more (g.S.Store.at c.loop-point.store) (g.S.Store.at c.take.new.self) c.loop-point.point-items c.loop-point.point-index _ c.loop-point.invariant.1
          (let k = c.loop-point.auto.point-items in omega arith) e.0 e.1 e.3,
    )
