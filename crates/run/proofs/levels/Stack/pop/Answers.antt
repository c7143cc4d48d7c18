use Rattle.std.proofs.Common.{◌≡◌, ◌-◌, arith}
use Rattle.run.proofs.Stacks.{frames_top}
use Rattle.run.proofs.levels.Stack.pop.Goals as goal

pub returns-clause-popped : goal.returns-clause-popped
returns-clause-popped c =
    let e : c.in_ok-depth.depth ≡ c.args.self.now.depth - 1 = omega arith in
    rw e (omega arith, frames_top _ _ (omega arith))
