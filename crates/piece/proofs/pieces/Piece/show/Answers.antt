use Rattle.std.proofs.Common.{◌∙◌, to_z-of_z, w32, SFits, rules}
use Rattle.piece.proofs.Seen.{holds_shift, shows}
use Rattle.piece.proofs.pieces.Piece.show.Goals as goal

pub shift_at-shift-requires : goal.shift_at-shift-requires
shift_at-shift-requires g c = record { whole = holds_shift g.S.Store c.args.self.now c.requires c.args.point c.if-point-self.false }

pub returns : goal.returns
returns g c =
    let f : SFits w32 c.shift_at-shift.result = search rules in
    let t : SFits w32 c.args.self.now.step = search rules in
    shows g.S.Store c.args.self.now c.requires c.args.point _ _ c.if-point-self.false (to_z-of_z f ∙ c.shift_at-shift.ensures.shift) (to_z-of_z t)
