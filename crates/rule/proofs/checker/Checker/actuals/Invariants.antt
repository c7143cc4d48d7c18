use Rattle.std.proofs.Common.{◌≡◌, ◌+◌, take, drop}
use Rattle.language.specs.Names.{check_args}
use Rattle.rule.specs.Seen.{Names, Sees, Kept}
use Rattle.rule.specs.Rows.{args_from}
use Rattle.rule.proofs.Turns.{args_rest}
use Rattle.rule.proofs.checker.Checker.actuals.Given as goal

abbrev pub invariant-loop-k : goal.invariant-loop-k
invariant-loop-k l = record {
  kept : Kept l.initial.self l.self;
  said : (ρ : Names) → Sees l.initial.self ρ
      → check_args ρ (args_from l.part.first l.part.nodes.now)
      ≡ args_rest ρ (take l.k l.self.types.now) (args_from (l.part.first + l.k) (drop l.k l.part.nodes.now));
}
