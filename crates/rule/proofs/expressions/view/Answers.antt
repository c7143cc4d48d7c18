use Rattle.language.specs.declared.tables.Kind.TheVariants.{Truth, Whole, Read, Plus, Less, Or}
use Rattle.rule.proofs.ExprShapes.{shape_of, no_other, expr_known, expr_long, operates, read_shows}
use Rattle.rule.proofs.expressions.view.Goals as goal

pub kind-requires : goal.kind-requires
kind-requires c = record { some = expr_long c.args.part c.requires.some.0 c.requires.some.1; known = expr_known c.args.part c.requires.some.0 c.requires.some.1 }

pub operator-requires : goal.operator-requires
operator-requires c = record { halved = (shape_of c.args.part Plus c.requires.some.0 c.in-Plus.ensures.kind c.requires.some.1).halved }

pub operator-requires-in-Less : goal.operator-requires-in-Less
operator-requires-in-Less c = record { halved = (shape_of c.args.part Less c.requires.some.0 c.in-Less.ensures.kind c.requires.some.1).halved }

pub operator-requires-in-Or : goal.operator-requires-in-Or
operator-requires-in-Or c = record { halved = (shape_of c.args.part Or c.requires.some.0 c.in-Or.ensures.kind c.requires.some.1).halved }

pub unreachable-requires : goal.unreachable-requires
unreachable-requires c =
    no_other c.args.part c.kind.result c.requires.some.0 c.in_default.not-Truth c.in_default.not-Whole c.in_default.not-Read c.in_default.not-Plus c.in_default.not-Less c.in_default.not-Or
    (shape_of c.args.part c.kind.result c.requires.some.0 c.kind.ensures.kind c.requires.some.1)

pub returns-in-Truth : goal.returns-in-Truth
returns-in-Truth c = record { shows = λ x h. shape_of c.args.part Truth x c.in-Truth.ensures.kind h }

pub returns-in-Whole : goal.returns-in-Whole
returns-in-Whole c = record { shows = λ x h. shape_of c.args.part Whole x c.in-Whole.ensures.kind h }

pub returns-in-Read : goal.returns-in-Read
returns-in-Read c = record { shows = λ x h. read_shows c.args.part c.last.result x c.last.ensures.node (shape_of c.args.part Read x c.in-Read.ensures.kind h) }

pub returns-in-Plus : goal.returns-in-Plus
returns-in-Plus c = record { shows = λ x h. operates c.args.part x (shape_of c.args.part Plus x c.in-Plus.ensures.kind h) c.operator.ensures.halves }

pub returns-in-Less : goal.returns-in-Less
returns-in-Less c = record { shows = λ x h. operates c.args.part x (shape_of c.args.part Less x c.in-Less.ensures.kind h) c.operator-in-Less.ensures.halves }

pub returns-in-Or : goal.returns-in-Or
returns-in-Or c = record { shows = λ x h. operates c.args.part x (shape_of c.args.part Or x c.in-Or.ensures.kind h) c.operator-in-Or.ensures.halves }
