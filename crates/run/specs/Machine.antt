-- What the frames of a run are still to do, and what one step of the runner makes of them.
use Rattle.std.specs.Prelude.{◌≡◌, ℕ, zero, suc, ◌+◌, ◌-◌, ◌<◌, ◌≤◌, Bool, ◌⊎◌, List, [], ◌∷◌, length, Some, None, Ok, Err, Option, Result}
use Rattle.language.specs.declared.tables.Node.{Node}
use Rattle.language.specs.declared.tables.Kind.TheVariants.{Proc, Block}
use Rattle.language.specs.declared.values.Stop.{Stop}
use Rattle.language.specs.Memory.{Memory}
use Rattle.language.specs.Results as R
use Rattle.language.specs.Sight.{Bound, place, procedure, placed, find}
use Rattle.language.specs.Tree.{Arg}
use Rattle.language.specs.Runs.{Out, ended, stopped, Step, give, stop, ◌>>=◌, ◌releasing◌, Env, located, value, test, store, take_all, does}
use Rattle.scope.specs.declared.Scope.{Scope}
use Rattle.table.specs.Stretches.{node_at}
use Rattle.table.specs.Walk.{start_at}
use Rattle.run.specs.declared.bindings.Binding.{Binding}
use Rattle.run.specs.declared.bindings.Binding.TheVariants.{Place, Procedure}
use Rattle.run.specs.declared.levels.Frame.{Frame}
use Rattle.run.specs.declared.levels.Level.{Level}
use Rattle.run.specs.declared.levels.State.{State}
use Rattle.run.specs.declared.levels.State.TheVariants.{Run, End}
use Rattle.run.specs.declared.runner.Runner.{Runner}
use Rattle.run.specs.Shapes.{kind_at, ComKind, Forest, Trees, decls_at, args_at, back}
use Rattle.run.specs.Names.{Records, record_at, walk, Linked, VariablesAt, locations_from, location_of, weights, sees}
use Rattle.run.specs.Levels.{level_at}
use Rattle.run.specs.Evaluation.{Locator}
use Rattle.run.specs.Running.{frames_of, deepest_of}

-- a result, with the store and the units as they are then
abbrev pub outcome : {A : Type 0} → Result A Stop → Memory → ℕ → Out A
outcome (Ok a) σ u = ended a σ u
outcome (Err s) σ u = stopped s σ

-- a rule's table with its lengths and trees, on a store of this limit
module _ (limit : ℕ) (ns : List Node) (ls : List ℕ) (F : Forest) where
  abbrev pub bound_of : (ℕ → Env) → Binding → Bound (Step (Unit {0}))
  bound_of on (Place l) = place l
  bound_of on (Procedure i p) =
      procedure (length (decls_at ns (start_at ls i) (node_at ns i).a))
      (λ xs. does limit (placed (decls_at ns (start_at ls i) (node_at ns i).a) xs (on p)) (F.tree (i - 1)))

  abbrev pub env_in : Records → ℕ → (ℕ → Env) → Env
  env_in rs k on = ((record_at rs k).name, bound_of on (record_at rs k).entry) ∷ on (record_at rs k).next

  -- what the names in sight from a position stand for
  abbrev pub env_at : Records → ℕ → Env
  env_at rs p = walk [] (env_in rs) p p

  -- a frame after what is done before it: its command follows, or the block's locations are released at every end
  abbrev pub frame_after : Records → State → Frame → Step (Unit {0}) → Step (Unit {0})
  frame_after rs Run f m = m >>= λ _. does limit (env_at rs f.position) (F.tree f.at)
  frame_after rs End f m =
      m releasing locations_from rs (f.top - ((node_at ns f.at).a + (node_at ns f.at).b)) (node_at ns f.at).a

  -- all frames, the newest first
  abbrev pub all_after : Records → List Frame → Step (Unit {0}) → Step (Unit {0})
  all_after rs [] m = m
  all_after rs (f ∷ fs) m = all_after rs fs (frame_after rs f.state f m)

-- a run goes on, or is being stopped
abbrev pub under_way : Option Stop → Step (Unit {0})
under_way None = give tt
under_way (Some s) = stop s

abbrev pub Tested : List Node → List ℕ → Records → ℕ → Memory → ℕ → Result Bool Stop → Type 0
Tested ns ls rs p σ i r =
    (limit : ℕ) (F : Forest) → Trees ns ls F → (u : ℕ) → test (env_at limit ns ls F rs p) (F.expr i) σ u (outcome r σ u)

abbrev pub Assigned : List Node → List ℕ → Records → ℕ → Memory → ℕ → ℕ → Memory → Result (Unit {0}) Stop → Type 0
Assigned ns ls rs p σ i m σ' r =
    (limit : ℕ) (F : Forest) → Trees ns ls F → (u : ℕ)
    → (value (env_at limit ns ls F rs p) (F.expr i) >>= λ v. located (find m (env_at limit ns ls F rs p)) >>= λ l. store l v) σ u (outcome r σ' u)

-- the n variables with the names of the nodes from s on stand from m on, seen from p'; before them p is seen
unfoldable pub VariablesIn : List Node → ℕ → Records → ℕ → ℕ → ℕ → ℕ → Type 0
VariablesIn ns s rs m p zero p' = p' ≡ p
VariablesIn ns s rs m p (suc n) p' =
    (p' ≡ m + n + 1)
    × ((record_at rs (m + n)).name ≡ (node_at ns (s + n)).name)
    × ((record_at rs (m + n)).entry ≡ Place (location_of (record_at rs (m + n)).entry))
    × VariablesIn ns s rs m p n (record_at rs (m + n)).next

-- a block's variables were taken and recorded
pub record Open (limit : ℕ) (ns : List Node) (s n m p : ℕ) (σ : Memory) (rs' : Records) (σ' : Memory) (p' : ℕ) : Type 0 where
  pub within : p' ≤ m + n
  pub linked : Linked rs' (m + n)
  pub variables : VariablesIn ns s rs' m p n p'
  pub takes : (u : ℕ) → take_all limit (decls_at ns s n) σ u (ended (locations_from rs' m n) σ' u)

-- n variables were to be taken and recorded on top of those that sc has
abbrev pub Opened : ℕ → List Node → (s n : ℕ) (sc : Scope Binding) → Memory → Scope Binding → Memory → Result (Unit {0}) Stop → Type 0
Opened limit ns s n sc σ sc' σ' (Ok x) =
    Open limit ns s n sc.top sc.head σ sc'.records.now σ' sc'.head × (sc'.top ≡ sc.top + n)
Opened limit ns s n sc σ sc' σ' (Err e) = (u : ℕ) → take_all limit (decls_at ns s n) σ u (stopped e σ')

-- the locations of a call's arguments
abbrev pub args_located : Locator → List Arg → Result (List ℕ) Stop
args_located ρ [] = Ok []
args_located ρ (x ∷ xs) = R.◌>>=◌ (ρ x.name) (λ l. R.◌>>=◌ (args_located ρ xs) (λ ks. Ok (l ∷ ks)))

-- the formals that stand from s on are recorded as the arguments that stand from t on
pub record Bind (ns : List Node) (t s n : ℕ) (rs : Records) (q m p : ℕ) (rs' : Records) (p' : ℕ) : Type 0 where
  pub within : p' ≤ m + n
  pub linked : Linked rs' (m + n)
  pub variables : VariablesIn ns s rs' m p n p'
  pub locates : args_located (sees rs q) (args_at ns t n) ≡ Ok (locations_from rs' m n)

abbrev pub BoundTo : List Node → (t s n : ℕ) (sc : Scope Binding) → ℕ → Scope Binding → Result (Unit {0}) Stop → Type 0
BoundTo ns t s n sc p sc' (Ok x) =
    Bind ns t s n sc.records.now sc.head sc.top p sc'.records.now sc'.head × (sc'.top ≡ sc.top + n)
BoundTo ns t s n sc p sc' (Err e) = args_located (sees sc.records.now sc.head) (args_at ns t n) ≡ Err e

abbrev pub run_frame : ℕ → ℕ → ℕ → Frame
run_frame i p m = record { state = Run; at = i; top = m; position = p }

abbrev pub end_frame : ℕ → ℕ → ℕ → Frame
end_frame i p m = record { state = End; at = i; top = m; position = p }

-- a frame for each of the n commands that end right before e, on top of other frames
unfoldable pub pushed : List ℕ → State → ℕ → ℕ → ℕ → ℕ → List Frame → List Frame
pushed ls state p m e zero fs = fs
pushed ls state p m e (suc n) fs =
    pushed ls state p m (start_at ls (e - 1)) n (record { state = state; at = e - 1; top = m; position = p } ∷ fs)

-- the n procedures that end right before e are listed from the level d on
abbrev pub Listed : List ℕ → List Level → ℕ → ℕ → ℕ → Type 0
Listed ls vs d e n = (j : ℕ) → j < n → (level_at vs (d + j)).frame.at + 1 ≡ back ls e (n - (j + 1))

-- the position after n records from m on, before which p is seen
abbrev pub head : ℕ → ℕ → ℕ → ℕ
head m p zero = p
head m p (suc n) = m + suc n

-- the n procedures that end right before e are recorded from m on, and see from p
unfoldable pub ProceduresIn : List Node → List ℕ → Records → ℕ → ℕ → ℕ → ℕ → Type 0
ProceduresIn ns ls rs m p e zero = Unit {0}
ProceduresIn ns ls rs m p e (suc n) =
    ((record_at rs (m + n)).name ≡ (node_at ns (e - 1)).name)
    × ((record_at rs (m + n)).entry ≡ Procedure (e - 1) p)
    × ((record_at rs (m + n)).next ≡ head m p n)
    × ProceduresIn ns ls rs m p (start_at ls (e - 1)) n

-- a procedure that is recorded sees from before its record, and no more than its record does
pub record ProcedureOk (ns : List Node) (ls : List ℕ) (rs : Records) (k i p : ℕ) : Type 0 where
  pub at : i < length ns
  pub kind : kind_at ns i ≡ Some Proc
  pub seen : p ≤ k
  pub weight : weights ls rs p ≤ weights ls rs (record_at rs k).next

abbrev pub ProceduresOk : List Node → List ℕ → Records → ℕ → Type 0
ProceduresOk ns ls rs n = (k : ℕ) → k < n → (i p : ℕ) → (record_at rs k).entry ≡ Procedure i p → ProcedureOk ns ls rs k i p

-- how much a command can still put on the stack and among the records
abbrev pub weighs : List ℕ → Records → ℕ → ℕ → ℕ
weighs ls rs i p = (i - start_at ls i) + weights ls rs p

pub record RunOk (ns : List Node) (ls : List ℕ) (rs : Records) (deepest depth : ℕ) (f : Frame) : Type 0 where
  pub command : ComKind (kind_at ns f.at)
  pub records : f.top + weighs ls rs f.at f.position ≤ length rs
  pub levels : depth + weighs ls rs f.at f.position ≤ deepest

pub record EndOk (ns : List Node) (rs : Records) (f : Frame) : Type 0 where
  pub block : kind_at ns f.at ≡ Some Block
  pub count : (node_at ns f.at).a + (node_at ns f.at).b ≤ f.top
  pub variables : VariablesAt rs (f.top - ((node_at ns f.at).a + (node_at ns f.at).b)) (node_at ns f.at).a

abbrev pub FrameOk : List Node → List ℕ → Records → ℕ → ℕ → Frame → State → Type 0
FrameOk ns ls rs deepest depth f Run = RunOk ns ls rs deepest depth f
FrameOk ns ls rs deepest depth f End = EndOk ns rs f

pub record GoodFrame (ns : List Node) (ls : List ℕ) (rs : Records) (deepest depth used : ℕ) (f : Frame) : Type 0 where
  pub at : f.at < length ns
  pub top : f.top ≤ used
  pub position : f.position ≤ f.top
  pub linked : Linked rs f.top
  pub procedures : ProceduresOk ns ls rs f.top
  pub ok : FrameOk ns ls rs deepest depth f f.state

-- every frame has room for what it can still do; from the newest on, the records in use do not rise
abbrev pub Good : List Node → List ℕ → Records → ℕ → ℕ → List Frame → Type 0
Good ns ls rs deepest used [] = Unit {0}
Good ns ls rs deepest used (f ∷ fs) = GoodFrame ns ls rs deepest (suc (length fs)) used f × Good ns ls rs deepest f.top fs

-- whatever the run may come to from the second state on, it may come to from the first
pub record Went (limit : ℕ) (ns : List Node) (ls : List ℕ) (deepest : ℕ)
    (rs : Records) (fs : List Frame) (way : Option Stop) (σ : Memory) (u : ℕ)
    (rs' : Records) (top' : ℕ) (fs' : List Frame) (way' : Option Stop) (σ' : Memory) (u' : ℕ) : Type 0 where
  pub good : Good ns ls rs' deepest top' fs'
  pub means : (F : Forest) → Trees ns ls F → (o : Out (Unit {0}))
      → all_after limit ns ls F rs' fs' (under_way way') σ' u' o → all_after limit ns ls F rs fs (under_way way) σ u o

-- the frame f was the newest of the runner, which sees what f sees
pub record Ready (r : Runner) (f : Frame) : Type 0 where
  pub within : r.stack.depth < deepest_of r
  pub good : Good r.table.nodes.now r.table.lens.now r.scope.records.now (deepest_of r) f.top (f ∷ frames_of r)
  pub top : r.scope.top ≡ f.top
  pub position : r.scope.head ≡ f.position

-- one step: it went on with fewer units, or with as many and fewer frames; or the newest frame was stopped
abbrev pub Stepped : (limit : ℕ) → List Node → List ℕ → (deepest : ℕ) → Records → List Frame → Memory → (u : ℕ)
    → Records → (top' : ℕ) → List Frame → Memory → (u' : ℕ) → Result (Unit {0}) Stop → Type 0
Stepped limit ns ls deepest rs fs σ u rs' top' fs' σ' u' (Ok x) =
    (length fs' ≤ deepest) × ((u' < u) ⊎ ((u' ≡ u) × (length fs' < length fs)))
    × Went limit ns ls deepest rs fs None σ u rs' top' fs' None σ' u'
Stepped limit ns ls deepest rs fs σ u rs' top' fs' σ' u' (Err s) =
    Went limit ns ls deepest rs fs None σ u rs' top' fs' (Some s) σ' 0

-- the runner takes a step of the frame f, which was its newest
abbrev pub Steps : (limit : ℕ) → Runner → Frame → Memory → Runner → Memory → Result (Unit {0}) Stop → Type 0
Steps limit r f σ r' σ' o =
    Stepped limit r.table.nodes.now r.table.lens.now (deepest_of r) r.scope.records.now (f ∷ frames_of r) σ r.units
    r'.scope.records.now r'.scope.top (frames_of r') σ' r'.units o

-- the locations of the block that a frame is to end
abbrev pub block_locations : List Node → Records → Frame → List ℕ
block_locations ns rs f = locations_from rs (f.top - ((node_at ns f.at).a + (node_at ns f.at).b)) (node_at ns f.at).a

-- all frames were left, with the stop s: the run was stopped with s'
abbrev pub Unwound : ℕ → List Node → List ℕ → ℕ → Records → ℕ → List Frame → Stop → Memory → Memory → Stop → Type 0
Unwound limit ns ls deepest rs top fs s σ σ' s' = Went limit ns ls deepest rs fs (Some s) σ 0 rs top [] (Some s') σ' 0

-- what the command of the whole table came to
abbrev pub Ran : ℕ → List Node → List ℕ → Records → ℕ → Memory → ℕ → Memory → Result ℕ Stop → Type 0
Ran limit ns ls rs p σ u σ' (Ok u') =
    (F : Forest) → Trees ns ls F → does limit (env_at limit ns ls F rs p) (F.tree (length ns - 1)) σ u (ended tt σ' u')
Ran limit ns ls rs p σ u σ' (Err s) =
    (F : Forest) → Trees ns ls F → does limit (env_at limit ns ls F rs p) (F.tree (length ns - 1)) σ u (stopped s σ')
