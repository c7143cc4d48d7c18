use Rattle.std.proofs.Common.{to_z-of_z}
use Rattle.piece.proofs.Passes.{written}
use Rattle.piece.proofs.Graded.{shift_writes, put_shift}
use Rattle.piece.proofs.pieces.Piece.put_shift.Goals as goal

pub unwrap-requires : goal.unwrap-requires
unwrap-requires g c =
    shift_writes g.S.Store c.args.self.now c.requires.sound c.args.point c.requires.laid _ c.write.result c.write.ensures.answer

pub returns : goal.returns
returns g c =
    let r = put_shift g.S.Store c.args.self.now c.requires.sound c.args.point c.requires.laid c.write.new.self c.args.shift c.write.ensures.limit_kept
    (written c.write.result _ _ _ _ _ c.unwrap.ensures c.write.ensures.others_kept (to_z-of_z c.ranges.shift)) in
    record { sound = r.0; put = r.1 }
