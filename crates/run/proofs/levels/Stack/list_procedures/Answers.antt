use Rattle.std.proofs.Common.{◌≡◌, ◌-◌, ◌<◌, refl, ap, arith, rules}
use Rattle.table.specs.Walk.{start_at}
use Rattle.run.specs.declared.levels.Level.{Level}
use Rattle.run.proofs.Rows.{procs_one, noted_none, noted_more}
use Rattle.run.proofs.Stacks.{newest_same}
use Rattle.run.proofs.levels.Stack.list_procedures.Goals as goal

pub loop-left-init : goal.loop-left-init
loop-left-init c = (c.requires.inside, c.requires.procedures, noted_none _ _ _ _ _, refl, refl)

pub loop-left-preserved : goal.loop-left-preserved
loop-left-preserved c =
    let h = procs_one c.args.table.nodes.now c.args.table.lens.now c.loop-left.end c.loop-left.left (omega arith) c.loop-left.invariant.1 in
    let o = c.loop-left.invariant.2 in
    let s : c.start-end.result ≡ start_at c.args.table.lens.now (c.loop-left.end - 1) = c.start-end.ensures.start in
    let lt : start_at c.args.table.lens.now (c.loop-left.end - 1) < c.loop-left.end = h.2 in (
      omega (arith, c.loop-left.invariant.0),
      rw s h.3,
      rw s (noted_more _ _ _ _ _ _ _ _ _ o (omega arith) (omega (arith, o.fewer, c.requires.room, c.loop-left.invariant.3, c.loop-left.invariant.4)) h.0 refl),
      c.loop-left.invariant.3,
      search (rules, c.loop-left.invariant.4),
    )

pub returns-clause-frames_kept : goal.returns-clause-frames_kept
returns-clause-frames_kept c =
    let o = c.loop-left.invariant.2 in
    rw c.loop-left.invariant.3 at (newest_same _ _ _ (λ k lt. ap (λ (x : Level). x.frame) (o.below k lt)))
