-- What stays of a run under way while only values change.
use Rattle.std.proofs.Common.{◌≡◌, ℕ, length, refl, ◌∙◌}
use Rattle.run.specs.declared.levels.Stack.{Stack}
use Rattle.run.specs.declared.runner.Runner.{Runner}
use Rattle.run.specs.Levels.{frames}
use Rattle.run.specs.Running.{ChangesOnlyValues, frames_of}

-- nothing is another
pub unchanged : (r : Runner) → ChangesOnlyValues r r
unchanged r = record { table = refl; scope = refl; units = refl; depth = refl; frames = refl; deepest = refl }

pub changed_stack : (r : Runner) (s : Stack) → s.depth ≡ r.stack.depth → frames s.levels.now r.stack.depth ≡ frames r.stack.levels.now r.stack.depth
    → length s.levels.now ≡ length r.stack.levels.now → ChangesOnlyValues r (record r { stack = s })
changed_stack r s d f n = record { table = refl; scope = refl; units = refl; depth = d; frames = f; deepest = n }

pub changed_then : (r r₁ r₂ : Runner) → ChangesOnlyValues r r₁ → ChangesOnlyValues r₁ r₂ → ChangesOnlyValues r r₂
changed_then r r₁ r₂ a b =
    record {
      table = b.table ∙ a.table;
      scope = b.scope ∙ a.scope;
      units = b.units ∙ a.units;
      depth = b.depth ∙ a.depth;
      frames = (rw a.depth at b.frames) ∙ a.frames;
      deepest = b.deepest ∙ a.deepest;
    }

pub frames_kept : (r r' : Runner) (u : ℕ) → ChangesOnlyValues (record r { units = u }) r' → frames_of r' ≡ frames_of r
frames_kept r r' u k = rw k.depth k.frames
