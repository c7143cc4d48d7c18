use Rattle.std.proofs.Common.{get_or, ◌∙◌, to_z-of_z, w32, SFits, rules}
use Rattle.piece.proofs.Passes.{blank, back_writes, back_more, written}
use Rattle.piece.proofs.points.put_back.Goals as goal

pub unwrap-requires : goal.unwrap-requires
unwrap-requires g c =
    back_writes (g.S.Store.at c.args.store.now) (g.S.Store.at c.loop-point.store) c.args.points.now c.loop-point.point-index c.requires.free c.loop-point.invariant.1 c.loop-point-test.true _ c.write.result c.write.ensures.answer

pub loop-point-preserved : goal.loop-point-preserved
loop-point-preserved g c =
    let f : SFits w32 (get_or c.args.points.now c.loop-point.point-index blank).remembered = search rules in (
      c.write.ensures.limit_kept ∙ c.loop-point.invariant.0,
      back_more (g.S.Store.at c.args.store.now) (g.S.Store.at c.loop-point.store) c.args.points.now c.loop-point.point-index c.requires.free c.loop-point.invariant.1 c.loop-point-test.true
          (g.S.Store.at c.write.new.self) (written c.write.result _ _ _ _ _ c.unwrap.ensures c.write.ensures.others_kept (to_z-of_z f)),
    )
