-- What stays of a run under way while a part of it changes.
use Rattle.std.specs.Prelude.{◌≡◌, ℕ, ◌+◌, ◌≤◌, List, length}
use Rattle.run.specs.declared.levels.Frame.{Frame}
use Rattle.run.specs.declared.runner.Runner.{Runner}
use Rattle.run.specs.Levels.{frames}

abbrev pub frames_of : Runner → List Frame
frames_of r = frames r.stack.levels.now r.stack.depth

abbrev pub deepest_of : Runner → ℕ
deepest_of r = length r.stack.levels.now

-- nothing but the values above the frames is another
pub record ChangesOnlyValues (r r' : Runner) : Type 0 where
  pub table : r'.table ≡ r.table
  pub scope : r'.scope ≡ r.scope
  pub units : r'.units ≡ r.units
  pub depth : r'.stack.depth ≡ r.stack.depth
  pub frames : frames r'.stack.levels.now r.stack.depth ≡ frames_of r
  pub deepest : deepest_of r' ≡ deepest_of r

-- the table and the number of levels are the same
pub record KeepsTable (r r' : Runner) : Type 0 where
  pub table : r'.table ≡ r.table
  pub deepest : deepest_of r' ≡ deepest_of r

-- nothing is in sight, there are no frames, and there is room for all that the table can put among the names and on the stack
pub record Fresh (r : Runner) : Type 0 where
  pub nothing_in_sight : r.scope.top ≡ 0
  pub seen : r.scope.head ≡ 0
  pub no_frames : r.stack.depth ≡ 0
  pub names : length r.table.nodes.now + 2 ≤ length r.scope.records.now
  pub levels : length r.table.nodes.now ≤ deepest_of r
