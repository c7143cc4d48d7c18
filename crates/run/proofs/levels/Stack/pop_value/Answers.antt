use Rattle.std.proofs.Common.{◌≡◌, ◌-◌, arith}
use Rattle.run.proofs.Stacks.{values_top}
use Rattle.run.proofs.levels.Stack.pop_value.Goals as goal

pub returns-clause-popped : goal.returns-clause-popped
returns-clause-popped c =
    let e : c.in_ok-height.height ≡ c.args.self.now.height - 1 = omega arith in
    rw e (omega arith, values_top _ _ _ (omega arith))
