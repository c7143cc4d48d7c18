-- One step of the newest frame, from what is ready for it.
use Rattle.std.proofs.Common.{◌≡◌, ℕ, suc, ◌+◌, ◌-◌, ◌<◌, ◌≤◌, List, ◌∷◌, length, Some, None, Ok, Err, Result, sym, refl, ap, subst, inl, inr, arith}
use Rattle.language.specs.declared.tables.Node.{Node}
use Rattle.language.specs.declared.tables.Kind.TheVariants.{Assign, If, While, Block}
use Rattle.language.specs.declared.values.Stop.{Stop}
use Rattle.language.specs.Memory.{Memory}
use Rattle.language.specs.Runs.{Out, ended, stopped, does, release_all}
use Rattle.scope.specs.declared.Scope.{Scope}
use Rattle.scope.specs.declared.NotThere.{NotThere}
use Rattle.scope.specs.Calls.{after}
use Rattle.table.specs.Stretches.{node_at}
use Rattle.table.specs.Walk.{start_at}
use Rattle.run.specs.declared.bindings.Binding.{Binding}
use Rattle.run.specs.declared.bindings.Binding.TheVariants.{Procedure}
use Rattle.run.specs.declared.levels.Frame.{Frame}
use Rattle.run.specs.declared.levels.Stack.{Stack}
use Rattle.run.specs.declared.levels.State.TheVariants.{Run, End}
use Rattle.run.specs.declared.runner.Runner.{Runner}
use Rattle.run.specs.declared.tables.Table.{Table}
use Rattle.run.specs.Names.{Records, Linked, SameBelow, weights, found}
use Rattle.run.specs.Shapes.{kind_at, ComKind, ExprKind, Shaped, Forest, Trees, ComsBefore, ProcsBefore, back}
use Rattle.run.specs.Running.{ChangesOnlyValues, frames_of, deepest_of}
use Rattle.run.specs.Machine.{outcome, env_at, Good, FrameOk, RunOk, EndOk, ProceduresOk, Went, Ready, Stepped, Steps, block_locations}
use Rattle.run.specs.Levels.{frames, Ticked}
use Rattle.run.proofs.Arms.{out_of_units}
use Rattle.run.proofs.Changes.{unchanged, frames_kept}
use Rattle.run.proofs.Stacks.{newest_length}
use Rattle.run.proofs.Looks.{finds}
use Rattle.run.proofs.Goods.{coms_count, procs_count, coms_from_0}
use Rattle.run.proofs.Frames.{went_on, run_ended, run_stopped, end_ended, end_stuck}
use Rattle.run.proofs.Standing.{standing}

-- a table with the lengths of its stretches has the shape of a rule
pub shape : (t : Table) → Shaped t.nodes.now t.lens.now
shape t = (standing t.nodes.now t.lens.now t.size t.lengths).1

-- the newest frame is to run its command
pub record Running (r : Runner) (f : Frame) : Type 0 where
  pub at : f.at < length r.table.nodes.now
  pub command : ComKind (kind_at r.table.nodes.now f.at)
  pub within : f.top ≤ length r.scope.records.now
  pub position : f.position ≤ f.top
  pub linked : Linked r.scope.records.now f.top
  pub ok_below : ProceduresOk r.table.nodes.now r.table.lens.now r.scope.records.now f.top
  pub procedures : ProceduresOk r.table.nodes.now r.table.lens.now r.scope.records.now r.scope.top
  pub room : f.top + ((f.at - start_at r.table.lens.now f.at) + weights r.table.lens.now r.scope.records.now f.position) ≤ length r.scope.records.now
  pub deep : r.stack.depth + 1 + ((f.at - start_at r.table.lens.now f.at) + weights r.table.lens.now r.scope.records.now f.position) ≤ deepest_of r

pub running : (r : Runner) (f : Frame) → Ready r f → f.state ≡ Run → Running r f
running r f e q =
    let ns : List Node = r.table.nodes.now in
    let ls : List ℕ = r.table.lens.now in
    let rs : Records = r.scope.records.now in
    let N : ℕ = deepest_of r in
    let g = e.good.0 in
    let n : length (frames_of r) ≡ r.stack.depth = newest_length _ r.stack.depth in
    let ok : RunOk ns ls rs N (suc (length (frames_of r))) f = subst (FrameOk ns ls rs N (suc (length (frames_of r))) f) q g.ok in
    let room : f.top + ((f.at - start_at r.table.lens.now f.at) + weights r.table.lens.now r.scope.records.now f.position) ≤ length r.scope.records.now = ok.records in
    let deep : suc (length (frames_of r)) + ((f.at - start_at r.table.lens.now f.at) + weights r.table.lens.now r.scope.records.now f.position) ≤ deepest_of r = ok.levels in
    record {
      at = g.at;
      command = ok.command;
      within = omega arith;
      position = g.position;
      linked = g.linked;
      ok_below = g.procedures;
      procedures = rw e.top g.procedures;
      room = room;
      deep = omega arith;
    }

-- the frames below the newest are fewer than the levels
frames_fit : (r : Runner) (f : Frame) → Ready r f → length (frames_of r) < deepest_of r
frames_fit r f e =
    let n : length (frames_of r) ≡ r.stack.depth = newest_length _ r.stack.depth in
    let w : r.stack.depth < deepest_of r = e.within in
    omega arith

-- what the frame's command may come to
abbrev Does : ℕ → Runner → Frame → Memory → Out (Unit {0}) → Type 0
Does L r f σ o = (F : Forest) → Trees r.table.nodes.now r.table.lens.now F → does L (env_at L r.table.nodes.now r.table.lens.now F r.scope.records.now f.position) (F.tree f.at) σ r.units o

module _ (L : ℕ) (r : Runner) (f : Frame) (e : Ready r f) (q : f.state ≡ Run) (σ σ' : Memory) (rs' : Records) (top' : ℕ) (P' : List Frame) (u' : ℕ)
    (long : length rs' ≡ length r.scope.records.now) (same : SameBelow r.scope.records.now rs' f.top) (grown : f.top ≤ top') (kept : P' ≡ frames_of r) where
  abbrev After : Result (Unit {0}) Stop → Type 0
  After = Stepped L r.table.nodes.now r.table.lens.now (deepest_of r) r.scope.records.now (f ∷ frames_of r) σ r.units rs' top' P' σ' u'

  -- its command is stopped
  pub command_stopped : (s : Stop) → Does L r f σ (stopped s σ') → After (Err s)
  command_stopped s d =
      rw kept
      (went_on L _ _ _ f.top r.scope.records.now (f ∷ frames_of r) (frames_of r) f Run None (Some s) σ σ' r.units 0 rs' top'
      e.good refl q long same grown (λ F t x y. run_stopped L _ _ F r.scope.records.now f σ σ' r.units s (d F t) x y))

  -- its command ends
  pub command_ended : r.units ≡ suc u' → Does L r f σ (ended tt σ' u') → After (Ok tt)
  command_ended v d =
      let fit = frames_fit r f e in
      rw kept (
        omega (arith, fit),
        inl (omega (arith, v)),
        went_on L _ _ _ f.top r.scope.records.now (f ∷ frames_of r) (frames_of r) f Run None None σ σ' r.units u' rs' top'
            e.good refl q long same grown (λ F t x y. run_ended L _ _ F r.scope.records.now f σ σ' r.units u' (d F t) x y),
      )

-- the same, with the scope as it was
module _ (L : ℕ) (r r' : Runner) (f : Frame) (e : Ready r f) (q : f.state ≡ Run) (σ σ' : Memory) (u : ℕ) (k : ChangesOnlyValues (record r { units = u }) r') where
  records_kept : r'.scope.records.now ≡ r.scope.records.now
  records_kept = ap (λ (s : Scope Binding). s.records.now) k.scope

  top_kept : r'.scope.top ≡ r.scope.top
  top_kept = ap (λ (s : Scope Binding). s.top) k.scope

  reaches : f.top ≤ r'.scope.top
  reaches = omega (arith, top_kept, e.top)

  long : length r'.scope.records.now ≡ length r.scope.records.now
  long = ap (λ (rs : Records). length rs) records_kept

  same : SameBelow r.scope.records.now r'.scope.records.now f.top
  same = λ j lt. rw records_kept refl

  pub stopped_here : (s : Stop) → Does L r f σ (stopped s σ') → Steps L r f σ r' σ' (Err s)
  stopped_here s d = command_stopped L r f e q σ σ' r'.scope.records.now r'.scope.top (frames_of r') r'.units long same reaches (frames_kept r r' u k) s d

  pub ended_here : r.units ≡ suc u → Does L r f σ (ended tt σ' u) → Steps L r f σ r' σ' (Ok tt)
  ended_here v d =
      let w : r.units ≡ suc r'.units = rw k.units v in
      let d' : Does L r f σ (ended tt σ' r'.units) = rw k.units d in
      command_ended L r f e q σ σ' r'.scope.records.now r'.scope.top (frames_of r') r'.units long same reaches (frames_kept r r' u k) w d'

  pub done_here : (o : Result (Unit {0}) Stop) → r.units ≡ suc u → Does L r f σ (outcome o σ' u) → Steps L r f σ r' σ' o
  done_here (Ok x) v d = ended_here v d
  done_here (Err s) v d = stopped_here s d

  -- frames of its own go on
  pub goes_here : (s : Stack) → s.depth ≤ deepest_of r → r.units ≡ suc u
      → Went L r.table.nodes.now r.table.lens.now (deepest_of r) r.scope.records.now (f ∷ frames_of r) None σ r.units r.scope.records.now f.top (frames s.levels.now s.depth) None σ u
      → Steps L r f σ (record r' { stack = s }) σ (Ok tt)
  goes_here s le v w =
      let n : length (frames s.levels.now s.depth) ≡ s.depth = newest_length _ s.depth in
      rw (records_kept, top_kept, k.units, e.top) (omega arith, inl (omega (arith, v)), w)

-- frames of its own go on, with names of its own in sight
pub goes_on : (L : ℕ) (r r' : Runner) (f : Frame) (σ σ' : Memory) → r'.stack.depth ≤ deepest_of r → r.units ≡ suc r'.units
    → Went L r.table.nodes.now r.table.lens.now (deepest_of r) r.scope.records.now (f ∷ frames_of r) None σ r.units r'.scope.records.now r'.scope.top (frames_of r') None σ' r'.units
    → Steps L r f σ r' σ' (Ok tt)
goes_on L r r' f σ σ' le v w =
    let n : length (frames_of r') ≡ r'.stack.depth = newest_length _ r'.stack.depth in
    (omega arith, inl (omega (arith, v)), w)

-- no unit is left for its command
pub no_unit_here : (L : ℕ) (r : Runner) (f : Frame) (e : Ready r f) (q : f.state ≡ Run) (σ : Memory) (s : Stop) → Ticked f.at r.units (Err s) → Steps L r f σ r σ (Err s)
no_unit_here L r f e q σ s t =
    let n = running r f e q in
    stopped_here L r r f e q σ σ r.units (unchanged r) s (out_of_units L _ _ _ f.at σ r.units s n.at n.command t.0 t.1)

-- what a command has right before it
module _ (ns : List Node) (ls : List ℕ) (sh : Shaped ns ls) (i : ℕ) (l : i < length ns) where
  pub of_assign : kind_at ns i ≡ Some Assign → (1 ≤ i) × ExprKind (kind_at ns (i - 1)) × (i - 1 + 1 - start_at ls (i - 1) ≤ i - start_at ls i)
  of_assign k =
      let w = sh.of_assign i l k in
      let one : 1 ≤ i = w.right in
      let f : start_at ls i ≤ start_at ls (i - 1) = w.from in
      let b : start_at ls (i - 1) ≤ i - 1 = sh.begins (i - 1) (omega arith) in
      (one, w.right_kind, omega arith)

  pub of_while : kind_at ns i ≡ Some While
      → (1 ≤ i) × (1 ≤ start_at ls (i - 1)) × (start_at ls (i - 1) - 1 < length ns) × ExprKind (kind_at ns (start_at ls (i - 1) - 1))
      × (start_at ls (i - 1) - 1 + 1 - start_at ls (start_at ls (i - 1) - 1) ≤ i - start_at ls i) × (start_at ls i < i)
  of_while k =
      let w = sh.of_while i l k in
      let one : 1 ≤ i = w.body in
      let two : 1 ≤ start_at ls (i - 1) = w.test in
      let b : start_at ls (i - 1) ≤ i - 1 = sh.begins (i - 1) (omega arith) in
      let c : start_at ls (start_at ls (i - 1) - 1) ≤ start_at ls (i - 1) - 1 = sh.begins (start_at ls (i - 1) - 1) (omega arith) in
      let f : start_at ls i ≤ start_at ls (start_at ls (i - 1) - 1) = w.from in
      (one, two, omega arith, w.test_kind, omega arith, omega arith)

  pub of_if : kind_at ns i ≡ Some If
      → (1 ≤ i) × (1 ≤ start_at ls (i - 1)) × (start_at ls (i - 1) - 1 < length ns) × (1 ≤ start_at ls (start_at ls (i - 1) - 1)) × (start_at ls (start_at ls (i - 1) - 1) - 1 < length ns)
      × ExprKind (kind_at ns (start_at ls (start_at ls (i - 1) - 1) - 1))
      × (start_at ls (start_at ls (i - 1) - 1) - 1 + 1 - start_at ls (start_at ls (start_at ls (i - 1) - 1) - 1) ≤ i - start_at ls i)
  of_if k =
      let w = sh.of_if i l k in
      let one : 1 ≤ i = w.other in
      let two : 1 ≤ start_at ls (i - 1) = w.then in
      let three : 1 ≤ start_at ls (start_at ls (i - 1) - 1) = w.test in
      let b : start_at ls (i - 1) ≤ i - 1 = sh.begins (i - 1) (omega arith) in
      let c : start_at ls (start_at ls (i - 1) - 1) ≤ start_at ls (i - 1) - 1 = sh.begins (start_at ls (i - 1) - 1) (omega arith) in
      let d : start_at ls (start_at ls (start_at ls (i - 1) - 1) - 1) ≤ start_at ls (start_at ls (i - 1) - 1) - 1 = sh.begins (start_at ls (start_at ls (i - 1) - 1) - 1) (omega arith) in
      let f : start_at ls i ≤ start_at ls (start_at ls (start_at ls (i - 1) - 1) - 1) = w.from in
      (one, two, omega arith, three, omega arith, w.test_kind, omega arith)

  pub of_block : kind_at ns i ≡ Some Block
      → (start_at ls i + (node_at ns i).a + (node_at ns i).b + (node_at ns i).c ≤ i) × ComsBefore ns ls 0 i (node_at ns i).c
      × ProcsBefore ns ls (back ls i (node_at ns i).c) (node_at ns i).b × (back ls i (node_at ns i).c ≤ i)
  of_block k =
      let w = sh.of_block i l k in
      let x : back ls i (node_at ns i).c + (node_at ns i).c ≤ i = coms_count ns ls _ i (node_at ns i).c w.commands in
      let y : back ls (back ls i (node_at ns i).c) (node_at ns i).b + (node_at ns i).b ≤ back ls i (node_at ns i).c = procs_count ns ls (back ls i (node_at ns i).c) (node_at ns i).b w.procedures in
      let z : start_at ls i + (node_at ns i).a ≤ back ls (back ls i (node_at ns i).c) (node_at ns i).b = w.declarations in
      (omega arith, coms_from_0 ns ls _ i (node_at ns i).c w.commands, w.procedures, omega arith)

-- the procedure that a call finds
pub procedure_at : (r : Runner) (f : Frame) (m j q : ℕ) → Running r f → found r.scope.records.now f.position m ≡ Some (Procedure j q)
    → (j < length r.table.nodes.now) × (1 ≤ j) × (q ≤ f.top)
    × ((j - start_at r.table.lens.now j) + weights r.table.lens.now r.scope.records.now q ≤ weights r.table.lens.now r.scope.records.now f.position)
    × (start_at r.table.lens.now j + (node_at r.table.nodes.now j).a ≤ j - 1)
procedure_at r f m j q n e =
    let y = finds r.table.nodes.now r.table.lens.now r.scope.records.now f.top n.within n.linked n.ok_below m f.position j q n.position e in
    let sh = shape r.table in
    let w = sh.of_proc j y.at y.kind in
    let lt : j < length r.table.nodes.now = y.at in
    let one : 1 ≤ j = w.body in
    let b : start_at r.table.lens.now (j - 1) ≤ j - 1 = sh.begins (j - 1) (omega arith) in
    let fo : start_at r.table.lens.now j + (node_at r.table.nodes.now j).a ≤ start_at r.table.lens.now (j - 1) = w.formals in
    (lt, one, y.seen, y.weight, omega arith)

-- the runner sees what its newest frame sees
pub ready_for : (r : Runner) (sc : Scope Binding) (f : Frame) → r.stack.depth < deepest_of r
    → Good r.table.nodes.now r.table.lens.now r.scope.records.now (deepest_of r) r.scope.top (f ∷ frames_of r)
    → sc.records.now ≡ r.scope.records.now → sc.top ≡ f.top → sc.head ≡ f.position → Ready (record r { scope = sc }) f
ready_for r sc f w g er et eh =
    let own : Good r.table.nodes.now r.table.lens.now r.scope.records.now (deepest_of r) f.top (f ∷ frames_of r) =
    (record { at = g.0.at; top = omega arith; position = g.0.position; linked = g.0.linked; procedures = g.0.procedures; ok = g.0.ok }, g.1) in
    record { within = w; good = subst (λ (rs : Records). Good r.table.nodes.now r.table.lens.now rs (deepest_of r) f.top (f ∷ frames_of r)) (sym er) own; top = et; position = eh }

-- the scope was brought back to what the newest frame knows
pub restored : (r : Runner) (sc : Scope Binding) (f : Frame) (x : Result (Unit {0}) NotThere) → r.stack.depth < deepest_of r
    → Good r.table.nodes.now r.table.lens.now r.scope.records.now (deepest_of r) r.scope.top (f ∷ frames_of r)
    → x ≡ Ok tt → sc.records.now ≡ r.scope.records.now → sc.top ≡ after x f.top r.scope.top → sc.head ≡ after x f.position r.scope.head → Ready (record r { scope = sc }) f
restored r sc f x w g q er et eh = ready_for r sc f w g er (rw q at et) (rw q at eh)

-- where the newest frame can be seen from
pub newest_there : (ns : List Node) (ls : List ℕ) (rs : Records) (N hi : ℕ) (P fs : List Frame) (f : Frame) → Good ns ls rs N hi P → P ≡ f ∷ fs
    → (f.at < length ns) × (f.position ≤ f.top) × (f.top ≤ hi)
newest_there ns ls rs N hi P fs f g e =
    let g' : Good ns ls rs N hi (f ∷ fs) = rw e at g in
    (g'.0.at, g'.0.position, g'.0.top)

-- the newest frame is to end its block
pub ends_block : (ns : List Node) (ls : List ℕ) (rs : Records) (N hi : ℕ) (P fs : List Frame) (f : Frame) → Good ns ls rs N hi P → P ≡ f ∷ fs → f.state ≡ End → EndOk ns rs f
ends_block ns ls rs N hi P fs f g e q =
    let g' : Good ns ls rs N hi (f ∷ fs) = rw e at g in
    subst (FrameOk ns ls rs N (suc (length fs)) f) q g'.0.ok

-- its block is ended
pub block_done : (L : ℕ) (r : Runner) (f : Frame) → Ready r f → f.state ≡ End → (σ σ' : Memory) (o : Result (Unit {0}) Stop)
    → ((u : ℕ) → release_all (block_locations r.table.nodes.now r.scope.records.now f) σ u (outcome o σ' u)) → Steps L r f σ r σ' o
block_done L r f e q σ σ' (Ok x) d =
    let fit = frames_fit r f e in (
      omega (arith, fit),
      inr (refl, omega arith),
      went_on L _ _ _ f.top r.scope.records.now (f ∷ frames_of r) (frames_of r) f End None None σ σ' r.units r.units r.scope.records.now r.scope.top
          e.good refl q refl (λ k lt. refl) (omega (arith, e.top)) (λ F t x y. end_ended L r.table.nodes.now r.table.lens.now F r.scope.records.now f σ σ' r.units (d r.units) x y),
    )
block_done L r f e q σ σ' (Err s) d =
    went_on L _ _ _ f.top r.scope.records.now (f ∷ frames_of r) (frames_of r) f End None (Some s) σ σ' r.units 0 r.scope.records.now r.scope.top
    e.good refl q refl (λ k lt. refl) (omega (arith, e.top)) (λ F t x y. end_stuck L r.table.nodes.now r.table.lens.now F r.scope.records.now f σ σ' r.units s (d r.units) x y)

-- a step depends on what is in sight by the records alone
pub steps_from : (L : ℕ) (r : Runner) (sc : Scope Binding) (f : Frame) (σ : Memory) (r' : Runner) (σ' : Memory) (o : Result (Unit {0}) Stop)
    → sc.records.now ≡ r.scope.records.now → Steps L (record r { scope = sc }) f σ r' σ' o → Steps L r f σ r' σ' o
steps_from L r sc f σ r' σ' (Ok x) e s = rw e at s
steps_from L r sc f σ r' σ' (Err x) e s = rw e at s
