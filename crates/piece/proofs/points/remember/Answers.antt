use Rattle.std.proofs.Common.{length, take, ◌∙◌, to_z-of_z, w32, SFits, rules, arith}
use Rattle.std.proofs.lemmas.List.{take_all}
use Rattle.piece.proofs.Passes.{remember_whole, remember_more}
use Rattle.piece.proofs.points.remember.Goals as goal

pub shift_at-point-requires : goal.shift_at-point-requires
shift_at-point-requires g c =
    let ps = take c.args.count c.args.points.now in
    record {
      whole = remember_whole (g.S.Store.at c.args.store.now) ps c.loop-point.point-items c.loop-point.point-index c.loop-point.invariant c.loop-point-test.true
          (length ps) (omega arith) c.loop-point-test.true (rw (take_all (length ps) ps (omega arith)) c.requires.whole);
    }

pub loop-point-preserved : goal.loop-point-preserved
loop-point-preserved g c =
    let f : SFits w32 c.shift_at-point.result = search rules in
    remember_more (g.S.Store.at c.args.store.now) (take c.args.count c.args.points.now) c.loop-point.point-items c.loop-point.point-index c.loop-point.invariant c.loop-point-test.true
    _ (to_z-of_z f ∙ c.shift_at-point.ensures.shift)
