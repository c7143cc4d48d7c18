use Rattle.std.proofs.Common.{length, refl}
use Rattle.rule.proofs.Whole.{check_ok}
use Rattle.rule.proofs.rules.check.Goals as goal

pub returns-clause-fills : goal.returns-clause-fills
returns-clause-fills c =
    (refl, (check_ok c.args.nodes.now (length c.args.lists.lens.now) (length c.args.lists.names.now) (length c.args.lists.types.now) c.in_ok-need.need c.in_ok-need.ensures.says).1)
