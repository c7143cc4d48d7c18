use Rattle.language.specs.declared.tables.Kind.TheVariants.{Null, Assign, If, While, Call, Block}
use Rattle.rule.proofs.ComShapes.{shape_of, no_other, com_known, com_long, assign_shows, call_shows}
use Rattle.rule.proofs.forms.view.Goals as goal

pub kind-requires : goal.kind-requires
kind-requires c = record { some = com_long c.args.part c.requires.some.0 c.requires.some.1; known = com_known c.args.part c.requires.some.0 c.requires.some.1 }

pub thirds-requires : goal.thirds-requires
thirds-requires c = record { thirded = (shape_of c.args.part If c.requires.some.0 c.in-If.ensures.kind c.requires.some.1).thirded }

pub halves-requires : goal.halves-requires
halves-requires c = record { halved = (shape_of c.args.part While c.requires.some.0 c.in-While.ensures.kind c.requires.some.1).halved }

pub block_parts-requires : goal.block_parts-requires
block_parts-requires c = record { blocked = (shape_of c.args.part Block c.requires.some.0 c.in-Block.ensures.kind c.requires.some.1).blocked }

pub unreachable-requires : goal.unreachable-requires
unreachable-requires c =
    no_other c.args.part c.kind.result c.requires.some.0 c.in_default.not-Null c.in_default.not-Assign c.in_default.not-If c.in_default.not-While c.in_default.not-Call c.in_default.not-Block
    (shape_of c.args.part c.kind.result c.requires.some.0 c.kind.ensures.kind c.requires.some.1)

pub returns-in-Null : goal.returns-in-Null
returns-in-Null c = record { shows = λ x h. shape_of c.args.part Null x c.in-Null.ensures.kind h }

pub returns-in-Assign : goal.returns-in-Assign
returns-in-Assign c = record {
  shows = λ x h.
      assign_shows c.args.part c.last.result x c.body.result c.last.ensures.node (shape_of c.args.part Assign x c.in-Assign.ensures.kind h _ c.body.ensures.cut);
}

pub returns-in-If : goal.returns-in-If
returns-in-If c = record { shows = λ x h. (shape_of c.args.part If x c.in-If.ensures.kind h).view _ _ _ c.thirds.ensures.thirds }

pub returns-in-While : goal.returns-in-While
returns-in-While c = record { shows = λ x h. (shape_of c.args.part While x c.in-While.ensures.kind h).view _ _ c.halves.ensures.halves }

pub returns-in-Call : goal.returns-in-Call
returns-in-Call c = record {
  shows = λ x h.
      call_shows c.args.part c.last-in-Call.result x c.body-in-Call.result c.last-in-Call.ensures.node (shape_of c.args.part Call x c.in-Call.ensures.kind h _ c.body-in-Call.ensures.cut);
}

pub returns-in-Block : goal.returns-in-Block
returns-in-Block c = record { shows = λ x h. (shape_of c.args.part Block x c.in-Block.ensures.kind h).view _ _ _ c.block_parts.ensures.cuts }
