use Rattle.std.proofs.Common.{rules, ◌∙◌}
use borrow.Author.Tests.{tests}
use Rattle.std.proofs.lemmas.Iterator.{YieldsList-from_slice, YieldsList-from_zip}
use Rattle.std.proofs.lemmas.Iterator.Search.{all_from_yields_List}
use Rattle.language.specs.Table.{type_of}
use Rattle.language.specs.Values.{alike}
use Rattle.rule.proofs.Turns.{alike_beside}
use Rattle.rule.proofs.calls.fit.Goals as goal

pub returns : goal.returns
returns c = record {
  alike =
      all_from_yields_List (λ p. alike p.1 (type_of p.0.value)) c.all.new.self _ _ c.all.ensures.ran
      (YieldsList-from_zip (YieldsList-from_slice c.args.formals.now cc) (YieldsList-from_slice c.args.types.now cc)) (λ x b q k. search (rules, tests))
      ∙ alike_beside c.args.formals.now c.args.types.now c.requires.types;
}
