use Rattle.std.proofs.Common.{◌≡◌, ◌-◌, ◌<◌, sym, refl, ap, ◌∙◌, arith}
use Rattle.table.specs.Walk.{start_at}
use Rattle.run.specs.Machine.{pushed}
use Rattle.run.proofs.Rows.{coms_one, pushed_one, pushed_all, back_one, back_all}
use Rattle.run.proofs.levels.Stack.push_commands.Goals as goal

pub loop-init : goal.loop-init
loop-init c =
    let z : c.args.count - 0 ≡ c.args.count = omega arith in
    (omega arith, c.requires.inside, rw z c.requires.commands, rw z refl, refl, rw z refl)

pub overflow_sub-at : goal.overflow_sub-at
overflow_sub-at c = (coms_one c.args.table.nodes.now c.args.table.lens.now 0 c.loop.end c.args.count c.loop.counter (omega arith) c.loop.invariant.2).0

pub push-requires : goal.push-requires
push-requires c = record { room = omega (arith, c.loop.invariant.0, c.loop.invariant.4, c.requires.room) }

pub start-end-requires : goal.start-end-requires
start-end-requires c =
    record { inside = omega (arith, c.loop.invariant.1, (coms_one c.args.table.nodes.now c.args.table.lens.now 0 c.loop.end c.args.count c.loop.counter (omega arith) c.loop.invariant.2).0) }

pub loop-preserved : goal.loop-preserved
loop-preserved c =
    let h = coms_one c.args.table.nodes.now c.args.table.lens.now 0 c.loop.end c.args.count c.loop.counter (omega arith) c.loop.invariant.2 in
    let lt : start_at c.args.table.lens.now (c.loop.end - 1) < c.loop.end = h.3 in
    let s : c.start-end.result ≡ start_at c.args.table.lens.now (c.loop.end - 1) = c.start-end.ensures.start in (
      omega (arith, c.push.ensures.depth, c.loop.invariant.0),
      omega (arith, c.loop.invariant.1),
      rw s h.4,
      rw s (ap (pushed c.args.table.lens.now _ _ _ (start_at c.args.table.lens.now (c.loop.end - 1)) _) c.push.ensures.frames
          ∙ sym (pushed_one c.args.table.lens.now _ _ _ c.loop.end c.args.count c.loop.counter _ (omega arith))
          ∙ c.loop.invariant.3),
      c.push.ensures.length_kept ∙ c.loop.invariant.4,
      rw s (sym (back_one c.args.table.lens.now c.loop.end c.args.count c.loop.counter (omega arith)) ∙ c.loop.invariant.5),
    )

pub returns : goal.returns
returns c =
    record {
      depth = omega (arith, c.loop.invariant.0);
      end = sym (back_all _ _ c.args.count c.loop.counter (omega arith)) ∙ c.loop.invariant.5;
      frames = sym (pushed_all _ _ _ _ _ c.args.count c.loop.counter _ (omega arith)) ∙ c.loop.invariant.3;
      length_kept = c.loop.invariant.4;
    }
