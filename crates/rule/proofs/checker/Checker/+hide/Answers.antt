use Rattle.std.proofs.Common.{◌<◌, sym, ap, arith}
use Rattle.language.specs.Names.{proc_names}
use Rattle.rule.specs.Pieces.{long}
use Rattle.rule.specs.Seen.{sight}
use Rattle.rule.specs.Said.{hidden}
use Rattle.rule.proofs.Passes.{no_procs_grown}
use Rattle.rule.proofs.Splits.{procs_ended, procs_parts, procs_none}
use Rattle.rule.proofs.Names.{hides, hidden_grown}
use Rattle.rule.proofs.checker.Checker.+hide.Goals as goal

pub split_last-requires : goal.split_last-requires
split_last-requires t c = record { ended = procs_ended c.requires.some.0 c.requires.some.1 }

pub last-requires : goal.last-requires
last-requires t c =
    let w = procs_parts c.requires.some.0 c.requires.some.1 c.in-Some.ensures.lasts in
    record { some = omega (arith, w.some) }

pub enter-requires : goal.enter-requires
enter-requires t c =
    let w = procs_parts c.requires.some.0 c.requires.some.1 c.in-Some.ensures.lasts in
    record { room = omega (arith, w.many, c.requires.some.2) }

pub hide-requires : goal.hide-requires
hide-requires t c =
    let w = procs_parts c.requires.some.0 c.requires.some.1 c.in-Some.ensures.lasts in
    let falls : long c.in-Some.front < t = omega (arith, w.some, w.sizes, c.decreases) in
    (falls, (w.init, w.front, omega (arith, w.many, c.requires.some.2, c.enter.ensures.grown.top, c.enter.ensures.grown.long)))

pub returns : goal.returns
returns t c =
    record {
      sight = λ ps is. hides (procs_parts ps is c.in-Some.ensures.lasts) c.last.result _ _ _ c.last.ensures.node c.enter.ensures.sight c.hide.ensures.sight;
      grown = λ ps is. hidden_grown (procs_parts ps is c.in-Some.ensures.lasts) c.enter.ensures.grown c.hide.ensures.grown;
    }

pub returns-in_default : goal.returns-in_default
returns-in_default t c =
    record {
      sight = λ ps is. sym (ap (λ ps. hidden (proc_names ps) (sight c.args.self.now)) (procs_none ps c.in_default.ensures.lasts is));
      grown = λ ps is. no_procs_grown ps c.args.self.now c.in_default.ensures.lasts is;
    }
