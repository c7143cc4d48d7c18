use Rattle.std.proofs.Common.{◌≡◌, ◌∷◌, Ok, Err, refl, ◌∙◌, arith}
use Rattle.run.specs.Levels.{frames}
use Rattle.run.specs.Running.{frames_of}
use Rattle.run.proofs.Stacks.{newest_none}
use Rattle.run.proofs.Turns.{ends_block, newest_there}
use Rattle.run.proofs.Unwinding.{went_nowhere, left_block, left_command}
use Rattle.run.proofs.runner.Runner.unwind.Goals as goal

pub loop-frame-init : goal.loop-frame-init
loop-frame-init g c = (refl, went_nowhere _ _ _ _ _ _ _ _ _ _ c.requires.good, refl, refl)

pub release_block-requires : goal.release_block-requires
release_block-requires g c =
    let k = c.loop-frame.invariant in
    let r = c.args.self.now in
    let e : frames_of c.loop-frame.self ≡ c.in-Some.frame ∷ frames c.pop.new.self.levels.now c.pop.new.self.depth = rw c.pop.ensures.levels_kept c.in-Some.ensures.popped.1 in
    let n = newest_there _ _ _ _ _ _ _ c.in-Some.frame k.1.good e in
    rw (k.2, k.3) record { inside = n.0; ends = ends_block _ _ _ _ _ _ _ c.in-Some.frame k.1.good e c.in-End.is; there = n.2 }

pub loop-frame-preserved-in-Err : goal.loop-frame-preserved-in-Err
loop-frame-preserved-in-Err g c =
    let k = c.loop-frame.invariant in
    let r = c.args.self.now in
    let e : frames_of c.loop-frame.self ≡ c.in-Some.frame ∷ frames c.pop.new.self.levels.now c.pop.new.self.depth = rw c.pop.ensures.levels_kept c.in-Some.ensures.popped.1 in
    (c.release_block.ensures.limit_kept ∙ k.0, left_block _ _ _ _ _ _ _ _ _ _ _ _ _ _ c.in-Some.frame k.1 k.0 e c.in-End.is _ (Err c.in-Err.other) (rw (k.2, k.3) at c.in-Err.ensures.released), k.2, k.3)

pub loop-frame-preserved-in_default-release_block : goal.loop-frame-preserved-in_default-release_block
loop-frame-preserved-in_default-release_block g c =
    let k = c.loop-frame.invariant in
    let r = c.args.self.now in
    let e : frames_of c.loop-frame.self ≡ c.in-Some.frame ∷ frames c.pop.new.self.levels.now c.pop.new.self.depth = rw c.pop.ensures.levels_kept c.in-Some.ensures.popped.1 in
    (c.release_block.ensures.limit_kept ∙ k.0, left_block _ _ _ _ _ _ _ _ _ _ _ _ _ _ c.in-Some.frame k.1 k.0 e c.in-End.is _ (Ok tt) (rw (k.2, k.3) at c.in_default-release_block.ensures.released), k.2, k.3)

pub loop-frame-preserved : goal.loop-frame-preserved
loop-frame-preserved g c =
    let k = c.loop-frame.invariant in
    let r = c.args.self.now in
    let e : frames_of c.loop-frame.self ≡ c.in-Some.frame ∷ frames c.pop.new.self.levels.now c.pop.new.self.depth = rw c.pop.ensures.levels_kept c.in-Some.ensures.popped.1 in
    (k.0, left_command _ _ _ _ _ _ _ _ _ _ _ _ _ _ c.in-Some.frame k.1 k.0 e c.in_default-state.is, k.2, k.3)

pub loop-frame-smaller-in-Err : goal.loop-frame-smaller-in-Err
loop-frame-smaller-in-Err g c = omega (arith, c.in-Some.ensures.popped.0)

pub loop-frame-smaller-in_default-release_block : goal.loop-frame-smaller-in_default-release_block
loop-frame-smaller-in_default-release_block g c = omega (arith, c.in-Some.ensures.popped.0)

pub loop-frame-smaller : goal.loop-frame-smaller
loop-frame-smaller g c = omega (arith, c.in-Some.ensures.popped.0)

pub returns-clause-unwound : goal.returns-clause-unwound
returns-clause-unwound g c = rw (newest_none _ c.loop-frame.self.stack.depth (omega (arith, c.in_default.ensures.popped.0))) at c.loop-frame.invariant.1
