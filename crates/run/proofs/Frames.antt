-- What a stack of frames may come to.
use Rattle.std.proofs.Common.{◌≡◌, ℕ, suc, ◌+◌, ◌-◌, ◌≤◌, List, [], ◌∷◌, length, Some, None, Ok, Err, Option, Result, sym, refl, ap, ◌∙◌, subst, inl, inr, arith}
use Rattle.language.specs.declared.tables.Node.{Node}
use Rattle.language.specs.declared.values.Stop.{Stop}
use Rattle.language.specs.Memory.{Memory}
use Rattle.language.specs.Runs.{Out, ended, stopped, Step, does, release_all}
use Rattle.table.specs.Stretches.{node_at}
use Rattle.run.specs.declared.levels.Frame.{Frame}
use Rattle.run.specs.declared.levels.State.{State}
use Rattle.run.specs.declared.levels.State.TheVariants.{Run, End}
use Rattle.run.specs.Names.{Records, SameBelow}
use Rattle.run.specs.Shapes.{Forest, Trees}
use Rattle.run.specs.Machine.{outcome, env_at, frame_after, all_after, under_way, Good, FrameOk, Went, block_locations}
use Rattle.run.proofs.Sights.{env_same, locations_same}
use Rattle.run.proofs.Steps.{lift, lift_releasing}
use Rattle.run.proofs.Goods.{good_weaker, good_same}

module _ (L : ℕ) (ns : List Node) (ls : List ℕ) (F : Forest) (rs : Records) where
  -- what is done before a frame may be replaced by what comes to no less
  pub frame_mono : (s : State) (f : Frame) (m m' : Step (Unit {0})) (σ σ' : Memory) (u u' : ℕ) → ((x : Out (Unit {0})) → m' σ' u' x → m σ u x)
      → (o : Out (Unit {0})) → frame_after L ns ls F rs s f m' σ' u' o → frame_after L ns ls F rs s f m σ u o
  frame_mono Run f m m' σ σ' u u' h o x = lift m m' (λ _. does L (env_at L ns ls F rs f.position) (F.tree f.at)) σ σ' u u' o h x
  frame_mono End f m m' σ σ' u u' h o x = lift_releasing m m' _ σ σ' u u' o h x

  pub all_mono : (fs : List Frame) (m m' : Step (Unit {0})) (σ σ' : Memory) (u u' : ℕ) → ((x : Out (Unit {0})) → m' σ' u' x → m σ u x)
      → (o : Out (Unit {0})) → all_after L ns ls F rs fs m' σ' u' o → all_after L ns ls F rs fs m σ u o
  all_mono [] m m' σ σ' u u' h o x = h o x
  all_mono (f ∷ fs) m m' σ σ' u u' h o x = all_mono fs _ _ σ σ' u u' (frame_mono f.state f m m' σ σ' u u' h) o x

-- a frame needs only the records that it knows
frame_same : (L : ℕ) (ns : List Node) (ls : List ℕ) (F : Forest) (rs rs' : Records) (N d : ℕ) (f : Frame) (s : State) (m : Step (Unit {0})) → SameBelow rs rs' f.top → f.position ≤ f.top → FrameOk ns ls rs N d f s
    → frame_after L ns ls F rs' s f m ≡ frame_after L ns ls F rs s f m
frame_same L ns ls F rs rs' N d f Run m q e k = rw (env_same L ns ls F rs rs' f.top f.position q e) refl
frame_same L ns ls F rs rs' N d f End m q e k =
    let le : (node_at ns f.at).a + (node_at ns f.at).b ≤ f.top = k.count in
    rw (locations_same rs rs' f.top (f.top - ((node_at ns f.at).a + (node_at ns f.at).b)) (node_at ns f.at).a q (omega arith)) refl

pub all_same : (L : ℕ) (ns : List Node) (ls : List ℕ) (F : Forest) (rs rs' : Records) (N m hi : ℕ) (fs : List Frame) (k : Step (Unit {0})) → SameBelow rs rs' m → hi ≤ m → Good ns ls rs N hi fs
    → all_after L ns ls F rs' fs k ≡ all_after L ns ls F rs fs k
all_same L ns ls F rs rs' N m hi [] k q h g = refl
all_same L ns ls F rs rs' N m hi (f ∷ fs) k q h g =
    let le : f.top ≤ hi = g.0.top in
    let le' : f.top ≤ m = omega arith in
    let q' : SameBelow rs rs' f.top = λ j lt. q j (omega arith) in
    all_same L ns ls F rs rs' N m f.top fs (frame_after L ns ls F rs' f.state f k) q le' g.1
    ∙ ap (all_after L ns ls F rs fs) (frame_same L ns ls F rs rs' N (suc (length fs)) f f.state k q' g.0.position g.0.ok)

-- the newest frame f is done with: the run goes on, or is being stopped, with the frames below it
pub went_on : (L : ℕ) (ns : List Node) (ls : List ℕ) (N hi : ℕ) (rs : Records) (P fs : List Frame) (f : Frame) (s : State) (way way' : Option Stop) (σ σ' : Memory) (u u' : ℕ) (rs' : Records) (top' : ℕ)
    → Good ns ls rs N hi P → P ≡ f ∷ fs → f.state ≡ s → length rs' ≡ length rs → SameBelow rs rs' f.top → f.top ≤ top'
    → ((F : Forest) → Trees ns ls F → (x : Out (Unit {0})) → under_way way' σ' u' x → frame_after L ns ls F rs s f (under_way way) σ u x)
    → Went L ns ls N rs P way σ u rs' top' fs way' σ' u'
went_on L ns ls N hi rs P fs f s way way' σ σ' u u' rs' top' g e q len same le d =
    let g' : Good ns ls rs N hi (f ∷ fs) = rw e at g in
    record {
      good = good_weaker ns ls rs' N f.top top' fs le (good_same ns ls rs rs' N f.top f.top fs len same (omega arith) g'.1);
      means = λ F t o k.
          let k' : all_after L ns ls F rs fs (under_way way') σ' u' o = rw (all_same L ns ls F rs rs' N f.top f.top fs (under_way way') same (omega arith) g'.1) at k in
          let r : all_after L ns ls F rs fs (frame_after L ns ls F rs s f (under_way way)) σ u o =
          all_mono L ns ls F rs fs (frame_after L ns ls F rs s f (under_way way)) (under_way way') σ σ' u u' (d F t) o k' in
          let r' : all_after L ns ls F rs (f ∷ fs) (under_way way) σ u o = subst (λ (z : State). all_after L ns ls F rs fs (frame_after L ns ls F rs z f (under_way way)) σ u o) (sym q) r in
          rw e r';
    }

pub went_then : (L L' : ℕ) (ns : List Node) (ls : List ℕ) (N N' : ℕ) (rs₀ : Records) (fs₀ : List Frame) (w₀ : Option Stop) (σ₀ : Memory) (u₀ : ℕ)
    (rs : Records) (top : ℕ) (fs : List Frame) (w : Option Stop) (σ : Memory) (u : ℕ) (rs' : Records) (top' : ℕ) (fs' : List Frame) (w' : Option Stop) (σ' : Memory) (u' : ℕ)
    → Went L ns ls N rs₀ fs₀ w₀ σ₀ u₀ rs top fs w σ u → L' ≡ L → N' ≡ N → Went L' ns ls N' rs fs w σ u rs' top' fs' w' σ' u'
    → Went L ns ls N rs₀ fs₀ w₀ σ₀ u₀ rs' top' fs' w' σ' u'
went_then L L' ns ls N N' rs₀ fs₀ w₀ σ₀ u₀ rs top fs w σ u rs' top' fs' w' σ' u' a e n b =
    let b' : Went L ns ls N rs fs w σ u rs' top' fs' w' σ' u' = rw (e, n) at b in
    record { good = b'.good; means = λ F t o d. a.means F t o (b'.means F t o d) }

-- a command that came to an end, and one that was stopped
pub run_ended : (L : ℕ) (ns : List Node) (ls : List ℕ) (F : Forest) (rs : Records) (f : Frame) (σ σ' : Memory) (u u' : ℕ)
    → does L (env_at L ns ls F rs f.position) (F.tree f.at) σ u (ended tt σ' u') → (x : Out (Unit {0})) → under_way None σ' u' x → frame_after L ns ls F rs Run f (under_way None) σ u x
run_ended L ns ls F rs f σ σ' u u' d x e = rw e (inr (tt, σ, u, refl, d))

pub run_stopped : (L : ℕ) (ns : List Node) (ls : List ℕ) (F : Forest) (rs : Records) (f : Frame) (σ σ' : Memory) (u : ℕ) (s : Stop)
    → does L (env_at L ns ls F rs f.position) (F.tree f.at) σ u (stopped s σ') → (x : Out (Unit {0})) → under_way (Some s) σ' 0 x → frame_after L ns ls F rs Run f (under_way None) σ u x
run_stopped L ns ls F rs f σ σ' u s d x e = rw e (inr (tt, σ, u, refl, d))

-- a block whose commands are done, and one in which the run is being stopped
pub end_ended : (L : ℕ) (ns : List Node) (ls : List ℕ) (F : Forest) (rs : Records) (f : Frame) (σ σ' : Memory) (u : ℕ)
    → release_all (block_locations ns rs f) σ u (ended tt σ' u) → (x : Out (Unit {0})) → under_way None σ' u x → frame_after L ns ls F rs End f (under_way None) σ u x
end_ended L ns ls F rs f σ σ' u d x e = rw e (inr (tt, σ, u, refl, inr (tt, σ', u, d, refl)))

pub end_stuck : (L : ℕ) (ns : List Node) (ls : List ℕ) (F : Forest) (rs : Records) (f : Frame) (σ σ' : Memory) (u : ℕ) (s : Stop)
    → release_all (block_locations ns rs f) σ u (stopped s σ') → (x : Out (Unit {0})) → under_way (Some s) σ' 0 x → frame_after L ns ls F rs End f (under_way None) σ u x
end_stuck L ns ls F rs f σ σ' u s d x e = rw e (inr (tt, σ, u, refl, inl (s, σ', d, refl)))

-- the stop after a block's release in a run that is being stopped: the same, or that of a release that failed
abbrev pub stop_after : Stop → Result (Unit {0}) Stop → Stop
stop_after s (Ok x) = s
stop_after s (Err e) = e

pub end_stopping : (L : ℕ) (ns : List Node) (ls : List ℕ) (F : Forest) (rs : Records) (f : Frame) (σ σ' : Memory) (s : Stop) (r : Result (Unit {0}) Stop)
    → release_all (block_locations ns rs f) σ 0 (outcome r σ' 0) → (x : Out (Unit {0})) → under_way (Some (stop_after s r)) σ' 0 x → frame_after L ns ls F rs End f (under_way (Some s)) σ 0 x
end_stopping L ns ls F rs f σ σ' s (Ok y) d x e = rw e (inl (s, σ, refl, inr (y, σ', 0, d, refl)))
end_stopping L ns ls F rs f σ σ' s (Err z) d x e = rw e (inl (s, σ, refl, inl (z, σ', d, refl)))

pub run_stopping : (L : ℕ) (ns : List Node) (ls : List ℕ) (F : Forest) (rs : Records) (f : Frame) (σ : Memory) (s : Stop)
    → (x : Out (Unit {0})) → under_way (Some s) σ 0 x → frame_after L ns ls F rs Run f (under_way (Some s)) σ 0 x
run_stopping L ns ls F rs f σ s x e = inl (s, σ, refl, e)
