use Rattle.std.proofs.Common.{take, rules, ◌∙◌}
use borrow.Author.Tests.{tests}
use Rattle.std.proofs.lemmas.Iterator.{YieldsList-from_slice}
use Rattle.std.proofs.lemmas.Iterator.Search.{any_from_yields_List}
use Rattle.language.specs.Same.{same}
use Rattle.rule.proofs.Turns.{named_among}
use Rattle.rule.proofs.declarations.declared.Goals as goal

pub returns : goal.returns
returns c = record {
  found =
      any_from_yields_List (λ n. same c.args.name n.name) _ _ _ c.any.ensures.ran (YieldsList-from_slice (take c.args.count c.args.nodes.now) cc) (λ x b q k. search (rules, tests))
      ∙ named_among c.args.nodes.now c.args.name c.args.count c.requires.within;
}
