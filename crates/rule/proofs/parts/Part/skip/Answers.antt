use Rattle.std.proofs.Common.{◌≡◌, ◌-◌, ◌+◌, ◌<◌, sym, ◌∙◌, arith}
use Rattle.rule.proofs.Snocs.{step_back, skip_more}
use Rattle.rule.proofs.parts.Part.skip.Goals as goal

pub start_of-start-requires : goal.start_of-start-requires
start_of-start-requires c = record { ended = (step_back c.args.self (c.args.count - c.loop.counter) c.loop.start (omega arith) c.loop.invariant.0).ended }

pub loop-preserved : goal.loop-preserved
loop-preserved c =
    let some : 0 < c.args.count - c.loop.counter = omega arith in
    let less : c.args.count - c.loop.counter - 1 ≡ c.args.count - (c.loop.counter + 1) = omega arith in
    rw (c.start_of-start.ensures.begins, ← less) (
      (step_back c.args.self (c.args.count - c.loop.counter) c.loop.start some c.loop.invariant.0).next,
      sym (skip_more c.args.self (c.args.count - c.loop.counter) c.loop.start some) ∙ c.loop.invariant.1,
    )
