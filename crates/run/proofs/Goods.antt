-- Frames with room for what they can still do, and what keeps them so.
use Rattle.std.proofs.Common.{◌≡◌, ℕ, zero, suc, ◌+◌, ◌-◌, ◌<◌, ◌≤◌, List, [], ◌∷◌, length, arith}
use Rattle.language.specs.declared.tables.Node.{Node}
use Rattle.table.specs.Stretches.{node_at}
use Rattle.table.specs.Walk.{start_at}
use Rattle.run.specs.declared.levels.Frame.{Frame}
use Rattle.run.specs.declared.levels.State.{State}
use Rattle.run.specs.declared.levels.State.TheVariants.{Run, End}
use Rattle.run.specs.Names.{Records, Linked, SameBelow, weights}
use Rattle.run.specs.Shapes.{back, ComsBefore, ProcsBefore}
use Rattle.run.specs.Machine.{pushed, run_frame, Good, GoodFrame, FrameOk, ProceduresOk}
use Rattle.run.proofs.Sights.{linked_same, weights_same}
use Rattle.run.proofs.Recorded.{ok_same_below}

pub good_weaker : (ns : List Node) (ls : List ℕ) (rs : Records) (N hi hi' : ℕ) (fs : List Frame) → hi ≤ hi' → Good ns ls rs N hi fs → Good ns ls rs N hi' fs
good_weaker ns ls rs N hi hi' [] k g = tt
good_weaker ns ls rs N hi hi' (f ∷ fs) k g =
    let b : f.top ≤ hi = g.0.top in (
      record { at = g.0.at; top = omega arith; position = g.0.position; linked = g.0.linked; procedures = g.0.procedures; ok = g.0.ok },
      g.1,
    )

ok_same : (ns : List Node) (ls : List ℕ) (rs rs' : Records) (N d m : ℕ) (f : Frame) (s : State) → SameBelow rs rs' m → f.top ≤ m → length rs' ≡ length rs → weights ls rs' f.position ≡ weights ls rs f.position
    → FrameOk ns ls rs N d f s → FrameOk ns ls rs' N d f s
ok_same ns ls rs rs' N d m f Run q h e w k = record { command = k.command; records = rw (e, w) k.records; levels = rw w k.levels }
ok_same ns ls rs rs' N d m f End q h e w k =
    let c : (node_at ns f.at).a + (node_at ns f.at).b ≤ f.top = k.count in
    record { block = k.block; count = c; variables = λ j low lt. rw (q j (omega arith)) (k.variables j low lt) }

pub good_same : (ns : List Node) (ls : List ℕ) (rs rs' : Records) (N m hi : ℕ) (fs : List Frame) → length rs' ≡ length rs → SameBelow rs rs' m → hi ≤ m
    → Good ns ls rs N hi fs → Good ns ls rs' N hi fs
good_same ns ls rs rs' N m hi [] e q h g = tt
good_same ns ls rs rs' N m hi (f ∷ fs) e q h g =
    let b : f.top ≤ hi = g.0.top in
    let le : f.top ≤ m = omega arith in
    let en : f.position ≤ f.top = g.0.position in
    let w : weights ls rs' f.position ≡ weights ls rs f.position = weights_same ls rs rs' m f.position q (omega arith) in (
      record { at = g.0.at; top = b; position = en; linked = linked_same rs rs' m f.top q le g.0.linked; procedures = ok_same_below ns ls rs rs' m f.top q le g.0.linked g.0.procedures; ok = ok_same ns ls rs rs' N (suc (length fs)) m f f.state q le e w g.0.ok },
      good_same ns ls rs rs' N m f.top fs e q le g.1,
    )

pub coms_count : (ns : List Node) (ls : List ℕ) (lo e n : ℕ) → ComsBefore ns ls lo e n → lo + n ≤ e
coms_count ns ls lo e zero c = omega arith
coms_count ns ls lo e (suc n) c =
    let a : lo + n ≤ start_at ls (e - 1) = coms_count ns ls lo (start_at ls (e - 1)) n c.4 in
    let b : start_at ls (e - 1) < e = c.3 in
    omega arith

pub procs_count : (ns : List Node) (ls : List ℕ) (e n : ℕ) → ProcsBefore ns ls e n → back ls e n + n ≤ e
unfolding back
procs_count ns ls e zero c = omega arith
procs_count ns ls e (suc n) c =
    let a : back ls (start_at ls (e - 1)) n + n ≤ start_at ls (e - 1) = procs_count ns ls (start_at ls (e - 1)) n c.3 in
    let b : start_at ls (e - 1) < e = c.2 in
    omega arith

pub coms_from_0 : (ns : List Node) (ls : List ℕ) (lo e n : ℕ) → ComsBefore ns ls lo e n → ComsBefore ns ls 0 e n
coms_from_0 ns ls lo e zero c = omega arith
coms_from_0 ns ls lo e (suc n) c = (c.0, c.1, omega arith, c.3, coms_from_0 ns ls lo (start_at ls (e - 1)) n c.4)

-- the commands of a block
pub good_pushed : (ns : List Node) (ls : List ℕ) (rs : Records) (N p m lo e n : ℕ) (fs : List Frame) → ComsBefore ns ls lo e n → p ≤ m → Linked rs m → ProceduresOk ns ls rs m
    → e ≤ length ns → m + weights ls rs p + e ≤ length rs + lo + 1 → suc (length fs) + weights ls rs p + e ≤ N + lo + 1 → Good ns ls rs N m fs → Good ns ls rs N m (pushed ls Run p m e n fs)
unfolding pushed
good_pushed ns ls rs N p m lo e zero fs c pm l r en room deep g = g
good_pushed ns ls rs N p m lo e (suc n) fs c pm l r en room deep g =
    let one : 1 ≤ e = c.0 in
    let low : lo ≤ start_at ls (e - 1) = c.2 in
    let lt : start_at ls (e - 1) < e = c.3 in
    let f : GoodFrame ns ls rs N (suc (length fs)) m (run_frame (e - 1) p m) =
    record { at = omega arith; top = omega arith; position = pm; linked = l; procedures = r; ok = record { command = c.1; records = omega arith; levels = omega arith } } in
    good_pushed ns ls rs N p m lo (start_at ls (e - 1)) n (run_frame (e - 1) p m ∷ fs) c.4 pm l r (omega arith) (omega arith) (omega arith) (f, g)
