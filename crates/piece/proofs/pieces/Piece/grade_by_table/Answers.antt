use Rattle.std.proofs.Common.{◌≡◌, length, sym, ap, ◌∙◌, rules}
use Rattle.language.specs.Check.{check}
use Rattle.piece.proofs.Replays.{chosen_is, grades_alike}
use Rattle.piece.proofs.pieces.Piece.grade_by_table.Goals as goal

pub returns-clause-does : goal.returns-clause-does
returns-clause-does g c =
    let nodes = c.args.nodes.now in
    let l = c.args.lists.now in
    let is = chosen_is (check nodes (length l.lens.now) (length l.names.now) (length l.types.now)) c.check.result nodes c.check.new.place.nodes.now
    c.check.ensures.answers c.check.ensures.fills (λ u h. h.0) (λ f h. ap (λ x. x.nodes.now) h ∙ c.built_in-rule.ensures.table) in
    let same : length c.check.new.lists.0 ≡ length l.lens.now = search rules in
    λ a e. grades_alike same (c.grade-answer.ensures.does a (e ∙ sym is))
