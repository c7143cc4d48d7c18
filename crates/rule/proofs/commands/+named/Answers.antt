use Rattle.std.proofs.Common.{◌<◌, [], sym, ap, arith}
use Rattle.language.specs.Sight.{member}
use Rattle.rule.specs.Pieces.{long}
use Rattle.rule.specs.Said.{seen_after}
use Rattle.rule.proofs.Splits.{procs_ended, procs_parts, procs_none}
use Rattle.rule.proofs.Names.{named_here, named_on}
use Rattle.rule.proofs.commands.+named.Goals as goal

pub returns-in_default : goal.returns-in_default
returns-in_default t c = record { found = λ ps is. sym (ap (λ ps. member c.args.name (seen_after ps [])) (procs_none ps c.in_default.ensures.lasts is)) }

pub split_last-requires : goal.split_last-requires
split_last-requires t c = record { ended = procs_ended c.requires.some.0 c.requires.some.1 }

pub last-requires : goal.last-requires
last-requires t c =
    let w = procs_parts c.requires.some.0 c.requires.some.1 c.in-Some.ensures.lasts in
    record { some = omega (arith, w.some) }

pub named-requires : goal.named-requires
named-requires t c =
    let w = procs_parts c.requires.some.0 c.requires.some.1 c.in-Some.ensures.lasts in
    let falls : long c.in-Some.front < t = omega (arith, w.some, w.sizes, c.decreases) in
    (falls, (w.init, w.front))

pub returns-then-same_name : goal.returns-then-same_name
returns-then-same_name t c = record {
  found = λ ps is.
      named_here (procs_parts ps is c.in-Some.ensures.lasts) c.args.name c.last.result c.same_name.result
      c.last.ensures.node c.same_name.ensures c.if-same_name.true;
}

pub returns-else-same_name : goal.returns-else-same_name
returns-else-same_name t c = record {
  found = λ ps is.
      named_on (procs_parts ps is c.in-Some.ensures.lasts) c.args.name c.last.result c.same_name.result c.named.result
      c.last.ensures.node c.same_name.ensures c.if-same_name.false c.named.ensures.found;
}
