use Rattle.std.proofs.Common.{◌≡◌, Some, None, Ok, Option, sym, ap, ◌∙◌}
use Rattle.std.specs.Option.{ok_or}
use Rattle.language.specs.declared.tables.Node.{Node}
use Rattle.language.specs.Kinds.{with_number, kind_of}
use Rattle.rule.proofs.parts.Part.kind.Goals as goal

some_of_ok : {A E : Type 0} (o : Option A) (e : E) (a : A) → ok_or o e ≡ Ok a → o ≡ Some a
some_of_ok None e a h = cc
some_of_ok (Some x) e a h = cc

pub returns : goal.returns
returns c = record { kind = some_of_ok (with_number _) _ _ (ap (λ (n : Node). kind_of n.kind) (sym c.last.ensures.node) ∙ sym c.try_from.ensures ∙ c.unwrap.ensures) }
