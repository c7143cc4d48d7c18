use Rattle.std.proofs.Common.{arith, rules}
use Rattle.table.proofs.Walks.{walk_stop, walk_on, walk_last}
use Rattle.table.proofs.lengths.Reading.back.Goals as goal

pub returns-in_err-from : goal.returns-in_err-from
returns-in_err-from c =
    rw c.from_residual.ensures
    (record {
      is = walk_stop c.args.self.nodes.now c.args.self.lens.now c.args.sort c.args.count c.loop.counter c.loop.from (search rules) c.in_err-from.ensures.is c.loop.invariant.0;
      low = tt;
    })

pub loop-preserved : goal.loop-preserved
loop-preserved c = (
  walk_on c.args.self.nodes.now c.args.self.lens.now c.args.sort c.args.count c.loop.counter c.loop.from _ (search rules) c.in_ok-from.ensures.is c.loop.invariant.0,
  omega (arith, c.in_ok-from.ensures.low),
)

pub returns : goal.returns
returns c =
    record {
      is = walk_last c.args.self.nodes.now c.args.self.lens.now c.args.sort c.args.count c.loop.counter c.loop.from (search rules) c.loop.invariant.0;
      low = c.loop.invariant.1;
    }
