use Rattle.std.proofs.Common.{◌∙◌, to_z-of_z}
use Rattle.piece.proofs.Seen.{enough, all_hold, opened_all}
use Rattle.piece.proofs.pieces.Piece.open.Goals as goal

pub remember-requires : goal.remember-requires
remember-requires g c = record {
  within = enough g.S.Store c.args.self.now c.requires;
  whole = all_hold g.S.Store c.args.self.now c.requires;
}

pub returns : goal.returns
returns g c =
    let all = opened_all g.S.Store c.args.self.now c.requires c.args.step _ c.remember.new.points (to_z-of_z c.ranges.step) c.in-Laid.is
    (c.remember.auto.points ∙ c.requires.wide) c.remember.ensures.remembers in
    record { sound = all.0; does = all.1 }
