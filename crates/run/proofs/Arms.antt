-- What each step of the newest frame's command comes to.
use Rattle.std.proofs.Common.{◌≡◌, ℕ, suc, ◌+◌, ◌-◌, ◌<◌, ◌≤◌, Bool, true, false, List, ◌∷◌, length, Some, None, Ok, Err, Option, Result, sym, refl, ◌∙◌, subst, ap₂, inl, inr, arith}
use Rattle.language.specs.declared.tables.Node.{Node}
use Rattle.language.specs.declared.tables.Kind.{Kind}
use Rattle.language.specs.declared.tables.Kind.TheVariants.{Truth, Whole, Read, Plus, Less, Or, Null, Assign, If, While, Call, Argument, Decl, Proc, Block}
use Rattle.language.specs.declared.values.Stop.{Stop}
use Rattle.language.specs.declared.values.Stop.TheVariants.{Unit as UnitStop}
use Rattle.language.specs.Memory.{Memory}
use Rattle.language.specs.Tree.{Expr, Com, while}
use Rattle.language.specs.Runs.{Env, Out, ended, stopped, Step, give, ◌>>=◌, test, take_all, does, Loop, no_unit, no_test, leaves, no_body, again}
use Rattle.table.specs.Stretches.{node_at}
use Rattle.table.specs.Walk.{start_at}
use Rattle.run.specs.declared.levels.Frame.{Frame}
use Rattle.run.specs.declared.levels.State.{State}
use Rattle.run.specs.declared.levels.State.TheVariants.{Run}
use Rattle.run.specs.Names.{Records, SameBelow, weights}
use Rattle.run.specs.Shapes.{kind_at, ComKind, Shaped, Forest, Trees, decls_at}
use Rattle.run.specs.Machine.{outcome, env_at, frame_after, all_after, run_frame, Good, GoodFrame, FrameOk, RunOk, Went, Tested, Assigned}
use Rattle.run.proofs.Steps.{give_first}
use Rattle.run.proofs.Goods.{good_weaker, good_same}
use Rattle.run.proofs.Frames.{all_mono, all_same}

-- the newest frame's command is replaced by another one
pub went_to : (L : ℕ) (ns : List Node) (ls : List ℕ) (N hi : ℕ) (rs rs' : Records) (P fs : List Frame) (f : Frame) (σ σ' : Memory) (u u' top' j p' m' : ℕ)
    → Good ns ls rs N hi P → P ≡ f ∷ fs → f.state ≡ Run → length rs' ≡ length rs → SameBelow rs rs' f.top → f.top ≤ m'
    → GoodFrame ns ls rs' N (suc (length fs)) top' (run_frame j p' m')
    → ((F : Forest) → Trees ns ls F → (x : Out (Unit {0})) → does L (env_at L ns ls F rs' p') (F.tree j) σ' u' x → does L (env_at L ns ls F rs f.position) (F.tree f.at) σ u x)
    → Went L ns ls N rs P None σ u rs' top' (run_frame j p' m' ∷ fs) None σ' u'
went_to L ns ls N hi rs rs' P fs f σ σ' u u' top' j p' m' g e q len same le top d =
    let g' : Good ns ls rs N hi (f ∷ fs) = rw e at g in
    record {
      good = (top, good_weaker ns ls rs' N f.top m' fs le (good_same ns ls rs rs' N f.top f.top fs len same (omega arith) g'.1));
      means = λ F t o k.
          let A : Step (Unit {0}) = frame_after L ns ls F rs' Run (run_frame j p' m') (give tt) in
          let B : Step (Unit {0}) = frame_after L ns ls F rs Run f (give tt) in
          let k' : all_after L ns ls F rs fs A σ' u' o = rw (all_same L ns ls F rs rs' N f.top f.top fs A same (omega arith) g'.1) at k in
          let r : all_after L ns ls F rs fs B σ u o =
          all_mono L ns ls F rs fs B A σ σ' u u' (λ x y. inr (tt, σ, u, refl, d F t x (give_first tt (λ _. does L (env_at L ns ls F rs' p') (F.tree j)) σ' u' x y))) o k' in
          let r' : all_after L ns ls F rs (f ∷ fs) (give tt) σ u o = subst (λ (z : State). all_after L ns ls F rs fs (frame_after L ns ls F rs z f (give tt)) σ u o) (sym q) r in
          rw e r';
    }

-- a frame made from one that runs its command runs its own
pub runs_too : (P gs gs' : List Frame) (f : Frame) (i p m : ℕ) → f.state ≡ Run → gs ≡ gs' → P ≡ record { state = f.state; at = i; top = m; position = p } ∷ gs → P ≡ run_frame i p m ∷ gs'
runs_too P gs gs' f i p m q g e = e ∙ ap₂ (λ (s : State) (xs : List Frame). record { state = s; at = i; top = m; position = p } ∷ xs) q g

-- no unit is left
no_units : (L : ℕ) (ns : List Node) (ls : List ℕ) (ρ : Forest → Env) (i : ℕ) (σ : Memory) (k : Option Kind) → kind_at ns i ≡ k → i < length ns → ComKind k → (F : Forest) → Trees ns ls F
    → does L (ρ F) (F.tree i) σ 0 (stopped (UnitStop i) σ)
no_units L ns ls ρ i σ None q l c F t = absurd c
no_units L ns ls ρ i σ (Some Truth) q l c F t = absurd c
no_units L ns ls ρ i σ (Some Whole) q l c F t = absurd c
no_units L ns ls ρ i σ (Some Read) q l c F t = absurd c
no_units L ns ls ρ i σ (Some Plus) q l c F t = absurd c
no_units L ns ls ρ i σ (Some Less) q l c F t = absurd c
no_units L ns ls ρ i σ (Some Or) q l c F t = absurd c
no_units L ns ls ρ i σ (Some Null) q l c F t = rw (t.nulls i l q) refl
no_units L ns ls ρ i σ (Some Assign) q l c F t = rw (t.assigns i l q) (inl (UnitStop i, σ, refl, refl))
no_units L ns ls ρ i σ (Some If) q l c F t = rw (t.ifs i l q) (inl (UnitStop i, σ, refl, refl))
no_units L ns ls ρ i σ (Some While) q l c F t = rw (t.whiles i l q) no_unit
no_units L ns ls ρ i σ (Some Call) q l c F t = rw (t.calls i l q) (inl (UnitStop i, σ, refl, refl))
no_units L ns ls ρ i σ (Some Argument) q l c F t = absurd c
no_units L ns ls ρ i σ (Some Decl) q l c F t = absurd c
no_units L ns ls ρ i σ (Some Proc) q l c F t = absurd c
no_units L ns ls ρ i σ (Some Block) q l c F t = rw (t.blocks i l q) (inl (UnitStop i, σ, refl, refl))

pub out_of_units : (L : ℕ) (ns : List Node) (ls : List ℕ) (ρ : Forest → Env) (i : ℕ) (σ : Memory) (u : ℕ) (s : Stop) → i < length ns → ComKind (kind_at ns i) → u ≡ 0 → s ≡ UnitStop i
    → (F : Forest) → Trees ns ls F → does L (ρ F) (F.tree i) σ u (stopped s σ)
out_of_units L ns ls ρ i σ u s l c e q F t = rw (e, q) (no_units L ns ls ρ i σ (kind_at ns i) refl l c F t)

pub null_ends : (L : ℕ) (ns : List Node) (ls : List ℕ) (ρ : Forest → Env) (i : ℕ) (σ : Memory) (u u' : ℕ) → i < length ns → kind_at ns i ≡ Some Null → u ≡ suc u'
    → (F : Forest) → Trees ns ls F → does L (ρ F) (F.tree i) σ u (ended tt σ u')
null_ends L ns ls ρ i σ u u' l k e F t = rw (e, t.nulls i l k) refl

module _ (L : ℕ) (ns : List Node) (ls : List ℕ) (rs : Records) (p i : ℕ) (σ : Memory) (u u' : ℕ) (l : i < length ns) (e : u ≡ suc u') where
  pub assign_does : (σ' : Memory) (r : Result (Unit {0}) Stop) → kind_at ns i ≡ Some Assign → Assigned ns ls rs p σ (i - 1) (node_at ns i).name σ' r
      → (F : Forest) → Trees ns ls F → does L (env_at L ns ls F rs p) (F.tree i) σ u (outcome r σ' u')
  assign_does σ' r k a F t = rw (e, t.assigns i l k) (inr (tt, σ, u', refl, a L F t u'))

  pub while_no_test : (s : Stop) → kind_at ns i ≡ Some While → Tested ns ls rs p σ (start_at ls (i - 1) - 1) (Err s)
      → (F : Forest) → Trees ns ls F → does L (env_at L ns ls F rs p) (F.tree i) σ u (stopped s σ)
  while_no_test s k a F t = rw (e, t.whiles i l k) (no_test (a L F t u'))

  pub while_leaves : kind_at ns i ≡ Some While → Tested ns ls rs p σ (start_at ls (i - 1) - 1) (Ok false)
      → (F : Forest) → Trees ns ls F → does L (env_at L ns ls F rs p) (F.tree i) σ u (ended tt σ u')
  while_leaves k a F t = rw (e, t.whiles i l k) (leaves (a L F t u'))

  pub if_no_test : (s : Stop) → kind_at ns i ≡ Some If → Tested ns ls rs p σ (start_at ls (start_at ls (i - 1) - 1) - 1) (Err s)
      → (F : Forest) → Trees ns ls F → does L (env_at L ns ls F rs p) (F.tree i) σ u (stopped s σ)
  if_no_test s k a F t = rw (e, t.ifs i l k) (inr (tt, σ, u', refl, inl (s, σ, a L F t u', refl)))

  pub block_full : (s : Stop) (σ' : Memory) → kind_at ns i ≡ Some Block → ((v : ℕ) → take_all L (decls_at ns (start_at ls i) (node_at ns i).a) σ v (stopped s σ'))
      → (F : Forest) → Trees ns ls F → does L (env_at L ns ls F rs p) (F.tree i) σ u (stopped s σ')
  block_full s σ' k h F t = rw (e, t.blocks i l k) (inr (tt, σ, u', refl, inl (s, σ', h u', refl)))

-- one more turn of a while
loop_again : (i : ℕ) (t : Step Bool) (body : Step (Unit {0})) (σ : Memory) (u : ℕ) (x : Out (Unit {0})) → t σ u (ended true σ u)
    → (give {A = Unit {0}} tt >>= (λ _. body) >>= λ _. Loop i t body) σ u x → Loop i t body σ (suc u) x
loop_again i t body σ u x h (inl (s, τ, b, e)) = rw e (no_body h (give_first tt (λ _. body) σ u (stopped s τ) b))
loop_again i t body σ u x h (inr (a, τ, v, b, l)) = again h (give_first tt (λ _. body) σ u (ended a τ v) b) l

pub while_goes : (L : ℕ) (ns : List Node) (ls : List ℕ) (N : ℕ) (rs : Records) (P P' fs : List Frame) (f : Frame) (σ : Memory) (u u' : ℕ)
    → Shaped ns ls → Good ns ls rs N f.top P → P ≡ f ∷ fs → f.state ≡ Run → kind_at ns f.at ≡ Some While → u ≡ suc u'
    → Tested ns ls rs f.position σ (start_at ls (f.at - 1) - 1) (Ok true)
    → P' ≡ run_frame (f.at - 1) f.position f.top ∷ P
    → Went L ns ls N rs P None σ u rs f.top P' None σ u'
while_goes L ns ls N rs P P' fs f σ u u' sh g e q k v a e' =
    let g' : Good ns ls rs N f.top (f ∷ fs) = rw e at g in
    let w = sh.of_while f.at g'.0.at k in
    let one : 1 ≤ f.at = w.body in
    let lt : f.at < length ns = g'.0.at in
    let begins : start_at ls (f.at - 1) ≤ f.at - 1 = sh.begins (f.at - 1) (omega arith) in
    let ok : RunOk ns ls rs N (suc (length fs)) f = subst (FrameOk ns ls rs N (suc (length fs)) f) q g'.0.ok in
    let two : 1 ≤ start_at ls (f.at - 1) = w.test in
    let from : start_at ls f.at ≤ start_at ls (start_at ls (f.at - 1) - 1) = w.from in
    let first : start_at ls (start_at ls (f.at - 1) - 1) ≤ start_at ls (f.at - 1) - 1 = sh.begins (start_at ls (f.at - 1) - 1) (omega arith) in
    let room : f.top + ((f.at - start_at ls f.at) + weights ls rs f.position) ≤ length rs = ok.records in
    let deep : suc (length fs) + ((f.at - start_at ls f.at) + weights ls rs f.position) ≤ N = ok.levels in
    let top : GoodFrame ns ls rs N (suc (suc (length fs))) f.top (run_frame (f.at - 1) f.position f.top) =
    record { at = omega arith; top = omega arith; position = g'.0.position; linked = g'.0.linked; procedures = g'.0.procedures; ok = record { command = w.body_kind; records = omega arith; levels = omega arith } } in
    record {
      good = rw (e', e) (top, g');
      means = λ F t o h.
          let ρ : Env = env_at L ns ls F rs f.position in
          let c : Com = F.tree (f.at - 1) in
          let x : Expr = F.expr (start_at ls (f.at - 1) - 1) in
          let W : Step (Unit {0}) = does L ρ (while f.at x c) in
          let h₁ : all_after L ns ls F rs fs (give tt >>= (λ _. does L ρ c) >>= λ _. W) σ u' o = rw (t.whiles f.at lt k) at (rw q at (rw (e', e) at h)) in
          let h₂ : all_after L ns ls F rs fs (give tt >>= λ _. W) σ (suc u') o =
          all_mono L ns ls F rs fs (give tt >>= λ _. W) (give tt >>= (λ _. does L ρ c) >>= λ _. W) σ σ (suc u') u'
          (λ y z. inr (tt, σ, suc u', refl, loop_again f.at (test ρ x) (does L ρ c) σ u' y (a L F t u') z)) o h₁ in
          rw (e, v, q, t.whiles f.at lt k) h₂;
    }

-- one of the two commands of a conditional
abbrev pub chosen : List ℕ → ℕ → Bool → ℕ
chosen ls i true = start_at ls (i - 1) - 1
chosen ls i false = i - 1

if_does : (L : ℕ) (ns : List Node) (ls : List ℕ) (rs : Records) (p : ℕ) (i : ℕ) (σ : Memory) (u : ℕ) (b : Bool) → i < length ns → kind_at ns i ≡ Some If
    → Tested ns ls rs p σ (start_at ls (start_at ls (i - 1) - 1) - 1) (Ok b) → (F : Forest) → Trees ns ls F
    → (x : Out (Unit {0})) → does L (env_at L ns ls F rs p) (F.tree (chosen ls i b)) σ u x → does L (env_at L ns ls F rs p) (F.tree i) σ (suc u) x
if_does L ns ls rs p i σ u true l k a F t x d = rw (t.ifs i l k) (inr (tt, σ, u, refl, inr (true, σ, u, a L F t u, d)))
if_does L ns ls rs p i σ u false l k a F t x d = rw (t.ifs i l k) (inr (tt, σ, u, refl, inr (false, σ, u, a L F t u, d)))

chosen_ok : (ns : List Node) (ls : List ℕ) (i : ℕ) (b : Bool) → Shaped ns ls → i < length ns → kind_at ns i ≡ Some If
    → (chosen ls i b < i) × ComKind (kind_at ns (chosen ls i b)) × (start_at ls i ≤ start_at ls (chosen ls i b))
chosen_ok ns ls i b sh l k =
    let w = sh.of_if i l k in
    let one : 1 ≤ i = w.other in
    let two : 1 ≤ start_at ls (i - 1) = w.then in
    let three : 1 ≤ start_at ls (start_at ls (i - 1) - 1) = w.test in
    let c : start_at ls (i - 1) ≤ i - 1 = sh.begins (i - 1) (omega arith) in
    let d : start_at ls (start_at ls (i - 1) - 1) ≤ start_at ls (i - 1) - 1 = sh.begins (start_at ls (i - 1) - 1) (omega arith) in
    let f : start_at ls (start_at ls (start_at ls (i - 1) - 1) - 1) ≤ start_at ls (start_at ls (i - 1) - 1) - 1 = sh.begins (start_at ls (start_at ls (i - 1) - 1) - 1) (omega arith) in
    let e : start_at ls i ≤ start_at ls (start_at ls (start_at ls (i - 1) - 1) - 1) = w.from in
    elim b as (λ y. (chosen ls i y < i) × ComKind (kind_at ns (chosen ls i y)) × (start_at ls i ≤ start_at ls (chosen ls i y)))
    [ true ↦ (omega arith, w.then_kind, omega arith) | false ↦ (omega arith, w.other_kind, omega arith) ]

pub if_goes : (L : ℕ) (ns : List Node) (ls : List ℕ) (N : ℕ) (rs : Records) (P P' fs : List Frame) (f : Frame) (σ : Memory) (u u' : ℕ) (b : Bool) (i : ℕ)
    → Shaped ns ls → Good ns ls rs N f.top P → P ≡ f ∷ fs → f.state ≡ Run → kind_at ns f.at ≡ Some If → u ≡ suc u'
    → Tested ns ls rs f.position σ (start_at ls (start_at ls (f.at - 1) - 1) - 1) (Ok b) → i ≡ chosen ls f.at b
    → P' ≡ run_frame i f.position f.top ∷ fs
    → Went L ns ls N rs P None σ u rs f.top P' None σ u'
if_goes L ns ls N rs P P' fs f σ u u' b i sh g e q k v a ei e' =
    let g' : Good ns ls rs N f.top (f ∷ fs) = rw e at g in
    let lt : f.at < length ns = g'.0.at in
    let c = chosen_ok ns ls f.at b sh lt k in
    let ok : RunOk ns ls rs N (suc (length fs)) f = subst (FrameOk ns ls rs N (suc (length fs)) f) q g'.0.ok in
    let room : f.top + ((f.at - start_at ls f.at) + weights ls rs f.position) ≤ length rs = ok.records in
    let deep : suc (length fs) + ((f.at - start_at ls f.at) + weights ls rs f.position) ≤ N = ok.levels in
    let less : chosen ls f.at b < f.at = c.0 in
    let from : start_at ls f.at ≤ start_at ls (chosen ls f.at b) = c.2 in
    let top : GoodFrame ns ls rs N (suc (length fs)) f.top (run_frame (chosen ls f.at b) f.position f.top) =
    record { at = omega arith; top = omega arith; position = g'.0.position; linked = g'.0.linked; procedures = g'.0.procedures; ok = record { command = c.1; records = omega arith; levels = omega arith } } in
    rw (e', ei)
    (went_to L ns ls N f.top rs rs P fs f σ σ u u' f.top (chosen ls f.at b) f.position f.top g e q refl (λ j l. refl) (omega arith) top
    (λ F t x d. rw v (if_does L ns ls rs f.position f.at σ u' b lt k a F t x d)))
