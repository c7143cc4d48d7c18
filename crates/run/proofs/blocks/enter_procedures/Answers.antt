use Rattle.std.proofs.Common.{arith}
use Rattle.run.specs.Levels.{no_level}
use Rattle.run.proofs.Declared.{declaring_first, declaring_more, next_inside, declared_all}
use Rattle.run.proofs.Slices.{stretch_at, stretch_within, stretch_length}
use Rattle.run.proofs.blocks.enter_procedures.Goals as goal

pub loop-level-init : goal.loop-level-init
loop-level-init c = declaring_first _ _ _ _ _ _ _ _

pub node-requires : goal.node-requires
node-requires c =
    let l = c.requires.listed in
    let s = c.args.stack.now in
    let lt = stretch_within s.levels.now s.depth c.args.count _ c.loop-level-test.true in
    record { inside = rw (stretch_at s.levels.now s.depth c.args.count _ _ c.loop-level-test.true) (next_inside _ _ _ _ l.0 c.args.count _ lt l.1 l.2 l.3) }

pub loop-level-preserved : goal.loop-level-preserved
loop-level-preserved c =
    let o = c.loop-level.invariant in
    let s = c.args.stack.now in
    let e = c.enter.ensures in
    let lt = stretch_within s.levels.now s.depth c.args.count _ c.loop-level-test.true in
    let at = stretch_at s.levels.now s.depth c.args.count _ no_level c.loop-level-test.true in
    declaring_more _ _ _ _ _ _ _ _ _ _ _ _ _ _ _ c.node.result o lt (omega (arith, o.top, o.long, c.requires.room, lt)) (rw at at c.node.ensures.node)
    (rw (c.unwrap.ensures, c.position-seen.ensures.head, at) at e.others_kept) (rw c.unwrap.ensures at e.top_after) (rw c.unwrap.ensures at e.head_after)

pub returns-clause-declared : goal.returns-clause-declared
returns-clause-declared c =
    let s = c.args.stack.now in
    let n = stretch_length s.levels.now s.depth c.args.count c.requires.within in
    λ x l b. declared_all _ _ _ _ _ _ _ _ _ _ _ _ c.loop-level.invariant (omega (arith, n)) (omega (arith, n, c.loop-level.auto.level-index-end)) x l b
