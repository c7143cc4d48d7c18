use Rattle.std.proofs.Common.{◌≤◌, sym, ◌∙◌, arith, rules}
use Rattle.piece.proofs.Seen.{laid_all}
use Rattle.piece.proofs.pieces.Piece.lay.Goals as goal

pub returns : goal.returns
returns g c =
    let low : 1 ≤ c.args.points = search rules in
    let high : c.args.points ≤ 256 = search rules in
    let all = laid_all g.S.Store c.args.self.now c.requires c.take_locations.new.store c.args.points c.take_locations.new.points c.in-Bare.is low high
    (sym c.count.ensures ∙ c.if-count-ne0.false) (let e = c.limit.ensures in let f = c.from.ensures in let l = c.if-limit-from.false in omega arith)
    (c.take_locations.auto.points ∙ c.requires.wide) c.take_locations.ensures.limit_kept c.take_locations.ensures.placed in
    record { sound = all.0; does = all.1 }
