use Rattle.std.proofs.Common.{◌≡◌, List, ◌∷◌, length, refl, ap, ◌∙◌, arith}
use Rattle.run.specs.declared.levels.Level.{Level}
use Rattle.run.specs.Levels.{frames, level_at}
use Rattle.run.specs.Running.{frames_of, deepest_of}
use Rattle.run.proofs.Stacks.{newest_none, newest_length}
use Rattle.run.proofs.Sights.{linked_down}
use Rattle.run.proofs.Frames.{went_then}
use Rattle.run.proofs.Standing.{standing}
use Rattle.run.proofs.Unwinding.{went_first, whole_ended, whole_stopped, falls, step_went, step_stopped, fewer}
use Rattle.run.proofs.runner.Runner.perform.Goals as goal

pub loop-frame-init : goal.loop-frame-init
loop-frame-init g c =
    let r = c.args.self.now in
    let s = r.scope in
    let q = c.requires in
    let t = standing r.table.nodes.now r.table.lens.now r.table.size r.table.lengths in
    let none = newest_none (λ k. (level_at r.stack.levels.now k).frame) r.stack.depth (omega (arith, q.no_frames)) in (
      refl,
      went_first _ _ _ _ _ _ _ _ _ _ t.0 t.2 s.low (linked_down s.records.now s.top s.within s.down) q.procedures q.records q.levels
          (rw (c.used.ensures.top, c.position.ensures.head, none) at c.push.ensures.frames),
      record { table = refl; deepest = c.push.ensures.length_kept },
    )

pub loop-frame-preserved : goal.loop-frame-preserved
loop-frame-preserved g c =
    let r = c.args.self.now in
    let k = c.loop-frame.invariant in
    let e : frames_of c.loop-frame.self ≡ c.in-Some.frame ∷ frames c.pop.new.self.levels.now c.pop.new.self.depth = rw c.pop.ensures.levels_kept c.in-Some.ensures.popped.1 in
    let t = c.in_default-step.ensures in (
      t.limit_kept ∙ k.0,
      step_went _ _ r c.loop-frame.self c.step.new.self c.pop.new.self c.in-Some.frame _ _ _ _ _ _ k.1 k.2 k.0 e c.pop.ensures.levels_kept _ t.stepped,
      record { table = t.kept.table ∙ k.2.table; deepest = t.kept.deepest ∙ (ap (λ (vs : List Level). length vs) c.pop.ensures.levels_kept ∙ k.2.deepest) },
    )

pub loop-frame-smaller : goal.loop-frame-smaller
loop-frame-smaller g c =
    let k = c.loop-frame.invariant in
    let t = c.in_default-step.ensures.stepped in
    let n = newest_length (λ k. (level_at c.step.new.self.stack.levels.now k).frame) c.step.new.self.stack.depth in
    let d = ap (λ (vs : List Level). length vs) c.pop.ensures.levels_kept in
    falls _ _ _ _ _ (omega (arith, t.0, n, d, k.2.deepest)) (fewer c.loop-frame.self c.step.new.self c.pop.new.self c.in-Some.frame _ c.in-Some.ensures.popped.0 t.1)

pub returns-in-Err-clause-ran : goal.returns-in-Err-clause-ran
returns-in-Err-clause-ran g c =
    let r = c.args.self.now in
    let k = c.loop-frame.invariant in
    let e : frames_of c.loop-frame.self ≡ c.in-Some.frame ∷ frames c.pop.new.self.levels.now c.pop.new.self.depth = rw c.pop.ensures.levels_kept c.in-Some.ensures.popped.1 in
    let t = c.in-Err.ensures in
    let stopped = step_stopped _ _ r c.loop-frame.self c.step.new.self c.pop.new.self c.in-Some.frame _ _ _ _ _ _ k.1 k.2 k.0 e c.pop.ensures.levels_kept _ t.stepped in
    let table = t.kept.table ∙ k.2.table in
    let deepest : deepest_of c.step.new.self ≡ deepest_of r = t.kept.deepest ∙ (ap (λ (vs : List Level). length vs) c.pop.ensures.levels_kept ∙ k.2.deepest) in
    whole_stopped _ _ _ _ _ _ _ _ _ _ _ _ _ (went_then _ _ _ _ _ _ _ _ _ _ _ _ _ _ _ _ _ _ _ _ _ _ _ stopped (t.limit_kept ∙ k.0) deepest (rw table at c.unwind.ensures.unwound))

pub returns-clause-ran : goal.returns-clause-ran
returns-clause-ran g c =
    let none = newest_none (λ k. (level_at c.loop-frame.self.stack.levels.now k).frame) c.loop-frame.self.stack.depth (omega (arith, c.in_default.ensures.popped.0)) in
    whole_ended _ _ _ _ _ _ _ _ _ _ _ _ _ _ c.loop-frame.invariant.1 none
