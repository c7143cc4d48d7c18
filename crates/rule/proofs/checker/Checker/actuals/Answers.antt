use Rattle.std.proofs.Common.{sym, ◌∙◌, rules}
use Rattle.rule.proofs.Grows.{kept_same, kept_sees}
use Rattle.rule.proofs.Passes.{carried}
use Rattle.rule.proofs.Called.{args_err, with_types}
use Rattle.rule.proofs.Turns.{args_start, args_turn, args_stop, args_done}
use Rattle.rule.proofs.checker.Checker.actuals.Goals as goal

pub loop-k-init : goal.loop-k-init
loop-k-init c = record { kept = kept_same _; said = λ ρ lk. args_start c.args.part.nodes.now ρ c.args.part.first c.args.self.now.types.now }

pub returns-in_err-self-clause-says : goal.returns-in_err-self-clause-says
returns-in_err-self-clause-says c ρ lk =
    args_err _ _ _ _ (carried c.from_residual.ensures.1)
    (c.loop-k.invariant.said ρ lk
    ∙ args_stop c.args.part.nodes.now ρ c.args.part.first c.loop-k.k c.loop-k.self.types.now _ c.loop-k-test.true (sym (c.in_err-self.ensures.says ρ (kept_sees ρ c.loop-k.invariant.kept lk))))

pub loop-k-preserved : goal.loop-k-preserved
loop-k-preserved c = record {
  kept = with_types c.loop-k.invariant.kept _ _;
  said = λ ρ lk.
      c.loop-k.invariant.said ρ lk
      ∙ args_turn c.args.part.nodes.now ρ c.args.part.first c.loop-k.k c.loop-k.self.types.now c.in_ok-self.field-0 c.loop-k-test.true (search rules)
      (sym (c.in_ok-self.ensures.says ρ (kept_sees ρ c.loop-k.invariant.kept lk)));
}

pub returns-clause-says : goal.returns-clause-says
returns-clause-says c ρ lk =
    c.loop-k.invariant.said ρ lk ∙ args_done c.args.part.nodes.now ρ c.args.part.first c.loop-k.k c.loop-k.self.types.now (search rules) (search rules)
