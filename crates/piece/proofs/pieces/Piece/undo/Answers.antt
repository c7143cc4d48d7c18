use Rattle.std.proofs.Common.{sym, ◌∙◌, to_z-of_z, w32, SFits, rules}
use Rattle.piece.proofs.Seen.{ticket_good, undone_all}
use Rattle.piece.proofs.pieces.Piece.undo.Goals as goal

pub returns : goal.returns
returns g c =
    let p = c.args.self.now in
    let t = ticket_good p.phase p.number c.args.ticket.number c.in_default.field-0 (sym c.in_default.is ∙ c.resize.ensures) in
    let f : SFits w32 p.step = search rules in
    let all = undone_all g.S.Store p c.requires c.put_back.new.store c.in_default.field-0 _ c.args.ticket.number t.0 t.1 (to_z-of_z f) c.put_back.ensures.limit_kept c.put_back.ensures.restored in
    record { sound = all.0; back = tt; does = all.1 }
