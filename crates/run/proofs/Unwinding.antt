-- Frames left by a run that is stopped, and whole runs.
use Rattle.std.proofs.Common.{◌≡◌, ℕ, suc, ◌+◌, ◌-◌, ◌*◌, ◌<◌, ◌≤◌, ◌⊎◌, List, [], ◌∷◌, length, Some, None, Ok, Err, Option, Result, refl, ap, ◌∙◌, inl, inr, mul-le-mul_right, add-mul, arith}
use Rattle.language.specs.declared.tables.Node.{Node}
use Rattle.language.specs.declared.values.Stop.{Stop}
use Rattle.language.specs.Memory.{Memory}
use Rattle.language.specs.Runs.{ended, stopped, does, release_all}
use Rattle.run.specs.declared.levels.Frame.{Frame}
use Rattle.run.specs.declared.levels.Level.{Level}
use Rattle.run.specs.declared.levels.Stack.{Stack}
use Rattle.run.specs.declared.runner.Runner.{Runner}
use Rattle.run.specs.Levels.{frames}
use Rattle.run.specs.Running.{KeepsTable, frames_of, deepest_of}
use Rattle.run.specs.declared.levels.State.TheVariants.{Run, End}
use Rattle.run.specs.Names.{Records, Linked, weights}
use Rattle.run.specs.Shapes.{kind_at, ComKind}
use Rattle.run.specs.Machine.{outcome, env_at, run_frame, Good, GoodFrame, ProceduresOk, Went, Steps, Ran, block_locations}
use Rattle.run.proofs.Stacks.{newest_length}
use Rattle.run.proofs.Steps.{give_first}
use Rattle.run.proofs.Frames.{went_on, went_then, stop_after, end_stopping, run_stopping}

pub went_nowhere : (L : ℕ) (ns : List Node) (ls : List ℕ) (N : ℕ) (rs : Records) (top : ℕ) (P : List Frame) (w : Option Stop) (σ : Memory) (u : ℕ) → Good ns ls rs N top P → Went L ns ls N rs P w σ u rs top P w σ u
went_nowhere L ns ls N rs top P w σ u g = record { good = g; means = λ F t o d. d }

module _ (L L' : ℕ) (ns : List Node) (ls : List ℕ) (N : ℕ) (rs : Records) (top : ℕ) (P₀ : List Frame) (s₀ : Stop) (σ₀ : Memory) (P fs : List Frame) (s : Stop) (σ : Memory) (f : Frame)
    (w : Went L ns ls N rs P₀ (Some s₀) σ₀ 0 rs top P (Some s) σ 0) (same : L' ≡ L) (e : P ≡ f ∷ fs) where
  there : f.top ≤ top
  there = let g : Good ns ls rs N top (f ∷ fs) = rw e at w.good in g.0.top

  -- a block is left
  pub left_block : f.state ≡ End → (σ' : Memory) (r : Result (Unit {0}) Stop) → ((u : ℕ) → release_all (block_locations ns rs f) σ u (outcome r σ' u))
      → Went L ns ls N rs P₀ (Some s₀) σ₀ 0 rs top fs (Some (stop_after s r)) σ' 0
  left_block q σ' r d =
      went_then L L ns ls N N rs P₀ (Some s₀) σ₀ 0 rs top P (Some s) σ 0 rs top fs (Some (stop_after s r)) σ' 0 w refl refl
      (went_on L ns ls N top rs P fs f End (Some s) (Some (stop_after s r)) σ σ' 0 0 rs top w.good e q refl (λ k lt. refl) there (λ F t x y. end_stopping L ns ls F rs f σ σ' s r (d 0) x y))

  -- a command is left
  pub left_command : f.state ≡ Run → Went L ns ls N rs P₀ (Some s₀) σ₀ 0 rs top fs (Some s) σ 0
  left_command q =
      went_then L L ns ls N N rs P₀ (Some s₀) σ₀ 0 rs top P (Some s) σ 0 rs top fs (Some s) σ 0 w refl refl
      (went_on L ns ls N top rs P fs f Run (Some s) (Some s) σ σ 0 0 rs top w.good e q refl (λ k lt. refl) there (λ F t x y. run_stopping L ns ls F rs f σ s x y))

-- the first frame of a run
pub went_first : (L : ℕ) (ns : List Node) (ls : List ℕ) (N : ℕ) (rs : Records) (p m : ℕ) (σ : Memory) (u : ℕ) (P : List Frame)
    → 0 < length ns → ComKind (kind_at ns (length ns - 1)) → p ≤ m → Linked rs m → ProceduresOk ns ls rs m → m + length ns + weights ls rs p ≤ length rs → length ns + weights ls rs p ≤ N → P ≡ run_frame (length ns - 1) p m ∷ []
    → Went L ns ls N rs (run_frame (length ns - 1) p m ∷ []) None σ u rs m P None σ u
went_first L ns ls N rs p m σ u P h k pm l r room deep e =
    let f : GoodFrame ns ls rs N 1 m (run_frame (length ns - 1) p m) =
    record { at = omega arith; top = omega arith; position = pm; linked = l; procedures = r; ok = record { command = k; records = omega arith; levels = omega arith } } in
    rw e (went_nowhere L ns ls N rs m (run_frame (length ns - 1) p m ∷ []) None σ u (f, tt))

-- the last frame is done with
pub whole_ended : (L : ℕ) (ns : List Node) (ls : List ℕ) (N : ℕ) (rs : Records) (p m : ℕ) (σ : Memory) (u : ℕ) (rs' : Records) (top' : ℕ) (P : List Frame) (σ' : Memory) (u' : ℕ)
    → Went L ns ls N rs (run_frame (length ns - 1) p m ∷ []) None σ u rs' top' P None σ' u' → P ≡ [] → Ran L ns ls rs p σ u σ' (Ok u')
whole_ended L ns ls N rs p m σ u rs' top' P σ' u' w e F t =
    let w' : Went L ns ls N rs (run_frame (length ns - 1) p m ∷ []) None σ u rs' top' [] None σ' u' = rw e at w in
    give_first tt (λ _. does L (env_at L ns ls F rs p) (F.tree (length ns - 1))) σ u (ended tt σ' u') (w'.means F t (ended tt σ' u') refl)

pub whole_stopped : (L : ℕ) (ns : List Node) (ls : List ℕ) (N : ℕ) (rs : Records) (p m : ℕ) (σ : Memory) (u : ℕ) (rs' : Records) (top' : ℕ) (σ' : Memory) (s : Stop)
    → Went L ns ls N rs (run_frame (length ns - 1) p m ∷ []) None σ u rs' top' [] (Some s) σ' 0 → Ran L ns ls rs p σ u σ' (Err s)
whole_stopped L ns ls N rs p m σ u rs' top' σ' s w F t =
    give_first tt (λ _. does L (env_at L ns ls F rs p) (F.tree (length ns - 1))) σ u (stopped s σ') (w.means F t (stopped s σ') refl)

-- each step takes a unit, or leaves a frame
pub falls : (n u u' d d' : ℕ) → d' ≤ n → (u' < u) ⊎ ((u' ≡ u) × (d' < d)) → u' * (n + 1) + d' < u * (n + 1) + d
falls n u u' d d' h (inl l) =
    let m : (u' + 1) * (n + 1) ≤ u * (n + 1) = mul-le-mul_right (n + 1) (omega arith) in
    omega (arith, add-mul u' 1 (n + 1))
falls n u u' d d' h (inr e) = rw e.0 (omega (arith, e.1))

-- a step of the frame that was taken off
module _ (L L' : ℕ) (r₀ r r' : Runner) (s : Stack) (f : Frame) (rs₀ : Records) (fs₀ : List Frame) (σ₀ : Memory) (u₀ : ℕ) (σ σ' : Memory)
    (w : Went L r₀.table.nodes.now r₀.table.lens.now (deepest_of r₀) rs₀ fs₀ None σ₀ u₀ r.scope.records.now r.scope.top (frames_of r) None σ r.units)
    (k : KeepsTable r₀ r) (same : L' ≡ L) (e : frames_of r ≡ f ∷ frames s.levels.now s.depth) (l : s.levels.now ≡ r.stack.levels.now) where
  deep : deepest_of (record r { stack = s }) ≡ deepest_of r₀
  deep = ap (λ (vs : List Level). length vs) l ∙ k.deepest

  pub step_went : (x : Unit {0}) → Steps L' (record r { stack = s }) f σ r' σ' (Ok x)
      → Went L r₀.table.nodes.now r₀.table.lens.now (deepest_of r₀) rs₀ fs₀ None σ₀ u₀ r'.scope.records.now r'.scope.top (frames_of r') None σ' r'.units
  step_went x t =
      went_then L L' _ _ (deepest_of r₀) (deepest_of (record r { stack = s })) rs₀ fs₀ None σ₀ u₀ r.scope.records.now r.scope.top (f ∷ frames s.levels.now s.depth) None σ r.units
      _ _ _ _ _ _ (rw e at w) same deep (rw k.table at t.2)

  pub step_stopped : (x : Stop) → Steps L' (record r { stack = s }) f σ r' σ' (Err x)
      → Went L r₀.table.nodes.now r₀.table.lens.now (deepest_of r₀) rs₀ fs₀ None σ₀ u₀ r'.scope.records.now r'.scope.top (frames_of r') (Some x) σ' 0
  step_stopped x t =
      went_then L L' _ _ (deepest_of r₀) (deepest_of (record r { stack = s })) rs₀ fs₀ None σ₀ u₀ r.scope.records.now r.scope.top (f ∷ frames s.levels.now s.depth) None σ r.units
      _ _ _ _ _ _ (rw e at w) same deep (rw k.table at t)

-- in numbers of frames
pub fewer : (r r' : Runner) (s : Stack) (f : Frame) (u : ℕ) → r.stack.depth ≡ s.depth + 1
    → (r'.units < u) ⊎ ((r'.units ≡ u) × (length (frames_of r') < length (f ∷ frames s.levels.now s.depth))) → (r'.units < u) ⊎ ((r'.units ≡ u) × (r'.stack.depth < r.stack.depth))
fewer r r' s f u d (inl x) = inl x
fewer r r' s f u d (inr x) =
    let a : length (frames_of r') ≡ r'.stack.depth = newest_length _ r'.stack.depth in
    let b : length (frames s.levels.now s.depth) ≡ s.depth = newest_length _ s.depth in
    let lt : length (frames_of r') < suc (length (frames s.levels.now s.depth)) = x.1 in
    inr (x.0, omega arith)
