use Rattle.std.proofs.Common.{take, refl, ◌∙◌, arith}
use Rattle.std.proofs.lemmas.List.{length-take-le}
use Rattle.piece.proofs.Replays.{none_played, one_played, all_played}
use Rattle.piece.proofs.lists.replay.Goals as goal

pub loop-i-init : goal.loop-i-init
loop-i-init g c =
    none_played g.S.Store c.args.store c.args.number c.args.tables.now _ c.args.calls.now (take c.min-count.result c.args.answers.now) c.new-piece.result c.new-piece.ensures.sound c.new-piece.ensures.bare c.new-piece.ensures.store

pub perform-requires : goal.perform-requires
perform-requires g c = c.loop-i.invariant.sound

pub loop-i-preserved : goal.loop-i-preserved
loop-i-preserved g c =
    let n = c.min-count.ensures in
    let l = length-take-le c.min-count.result c.args.answers.now (omega arith) in
    let t = c.loop-i-test.true in
    one_played g.S.Store _ c.args.tables.now _ c.loop-i.lists _ c.args.calls.now c.loop-i.answer-items c.loop-i.i c.loop-i.piece c.perform.new.self c.perform.result _ _
    c.loop-i.invariant c.perform.ensures.lists_kept (omega arith) (let a = c.loop-i.auto.answer-items in omega arith) refl c.perform.ensures.sound c.perform.ensures.does

pub returns-clause-replayed : goal.returns-clause-replayed
returns-clause-replayed g c =
    let n = c.min-count.ensures in
    let l = length-take-le c.min-count.result c.args.answers.now (omega arith) in
    let t = c.loop-i-test.false in
    let e = c.loop-i.auto.i-end in
    all_played g.S.Store c.new-piece.result.store c.args.store c.args.number c.args.tables.now _ c.loop-i.lists c.args.calls.now c.loop-i.answer-items _ c.loop-i.i c.min-count.result c.loop-i.piece
    c.loop-i.invariant c.new-piece.ensures.store (omega arith) (c.loop-i.auto.answer-items ∙ l)
