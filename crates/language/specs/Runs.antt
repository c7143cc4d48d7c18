-- What a run may do on any store that is known by its meaning alone: a relation, since which free location a store hands out is left open.
use Rattle.std.specs.Prelude.{◌≡◌, ℕ, zero, suc, ◌<◌, Bool, true, false, cond, ◌⊎◌, List, [], ◌∷◌, length, ℤ, pos, Some, None, Ok, Err, Option, Result, ◌==◌}
use Rattle.std.proofs.Math.Option.{Option as Found, some, none}
use Rattle.language.specs.declared.values.Value.{Value}
use Rattle.language.specs.declared.values.Value.TheVariants.{Whole as whole_value, Truth as truth_value}
use Rattle.language.specs.declared.values.Stop.{Stop}
use Rattle.language.specs.declared.values.Stop.TheVariants.{Unit as UnitStop, Stuck}
use Rattle.language.specs.Values.{sort, alike, initial_value, sum, less_than, either_true}
use Rattle.language.specs.Results.{or_else}
use Rattle.language.specs.Memory.{Memory, put, live}
use Rattle.language.specs.Sight.{Bound, place, procedure, placed, find}
use Rattle.language.specs.Sight as S
use Rattle.language.specs.Reference.{as_truth, as_whole}
use Rattle.language.specs.Tree.{Decl, Arg, Expr, Com, Procs, Coms, truth, whole, read, plus, less, or, null, assign, if, while, call, block, pnil, pcons, cnil, ccons}

-- what comes of a step: an end, with the units left; or a stop. Both with the store as it is then
pub data Out (A : Type 0) : Type 0 where
  ended : A → Memory → (units : ℕ) → Out A
  stopped : Stop → Memory → Out A

-- from a store and the units in hand to what may come of it
abbrev pub Step : Type 0 → Type 1
Step A = Memory → ℕ → Out A → Type 0

abbrev pub give : {A : Type 0} → A → Step A
give a σ u o = o ≡ ended a σ u

abbrev pub stop : {A : Type 0} → Stop → Step A
stop s σ u o = o ≡ stopped s σ

infixl 20 ◌>>=◌
abbrev pub ◌>>=◌ : {A B : Type 0} → Step A → (A → Step B) → Step B
◌>>=◌ {A} m k σ u o =
    ((s : Stop) × (τ : Memory) × m σ u (stopped s τ) × (o ≡ stopped s τ))
    ⊎ ((a : A) × (τ : Memory) × (w : ℕ) × m σ u (ended a τ w) × k a τ w o)

abbrev pub answered : {A : Type 0} → Result A Stop → Step A
answered (Ok a) = give a
answered (Err s) = stop s

-- a command begins
abbrev pub tick : ℕ → Step (Unit {0})
tick i σ zero o = o ≡ stopped (UnitStop i) σ
tick i σ (suc u) o = o ≡ ended tt σ u

-- some free location, of those that the limit still allows
abbrev pub take_one : ℕ → Value → Step ℕ
take_one limit v σ u o =
    ((live σ ≡ limit) × (o ≡ stopped Stuck σ))
    ⊎ ((l : ℕ) × (live σ < limit) × (l < 65536) × (σ l ≡ None) × (o ≡ ended l (put σ l (Some v)) u))

abbrev pub fetch : ℕ → Step Value
fetch l σ = answered (or_else Stuck (σ l)) σ

abbrev pub change : ℕ → Option Value → Step (Unit {0})
change l w σ u o = o ≡ ended tt (put σ l w) u

abbrev pub store : ℕ → Value → Step (Unit {0})
store l v = fetch l >>= λ w. cond (alike (sort w) (sort v)) (change l (Some v)) (stop Stuck)

abbrev pub release : ℕ → Step (Unit {0})
release l = fetch l >>= λ w. change l None

abbrev pub release_all : List ℕ → Step (Unit {0})
release_all [] = give tt
release_all (l ∷ ls) = release l >>= λ _. release_all ls

-- a step, and then the release of these locations, whether it ended or stopped
infixl 10 ◌releasing◌
abbrev pub ◌releasing◌ : {A : Type 0} → Step A → List ℕ → Step A
◌releasing◌ {A} m ls σ u o =
    ((s : Stop) × (τ : Memory) × m σ u (stopped s τ) × (release_all ls >>= λ _. stop s) τ 0 o)
    ⊎ ((a : A) × (τ : Memory) × (w : ℕ) × m σ u (ended a τ w) × (release_all ls >>= λ _. give a) τ w o)

abbrev pub Env : Type 1
Env = S.Env (Step (Unit {0}))

abbrev pub located : Found (Bound (Step (Unit {0}))) → Step ℕ
located none = stop Stuck
located (some (place l)) = give l
located (some (procedure n f)) = stop Stuck

abbrev pub value : Env → Expr → Step Value
value ρ (truth b) = give (truth_value b)
value ρ (whole z) = give (whole_value z)
value ρ (read i m) = located (find m ρ) >>= fetch
value ρ (plus i e f) = value ρ e >>= λ v. value ρ f >>= λ w. answered (sum i v w)
value ρ (less i e f) = value ρ e >>= λ v. value ρ f >>= λ w. answered (less_than v w)
value ρ (or i e f) = value ρ e >>= λ v. value ρ f >>= λ w. answered (either_true v w)

abbrev pub test : Env → Expr → Step Bool
test ρ e = value ρ e >>= λ v. answered (as_truth v)

abbrev pub locations : Env → List Arg → Step (List ℕ)
locations ρ [] = give []
locations ρ (x ∷ xs) = located (find x.name ρ) >>= λ l. locations ρ xs >>= λ ls. give (l ∷ ls)

abbrev pub invoke : ℕ → Found (Bound (Step (Unit {0}))) → List ℕ → Step (Unit {0})
invoke n none ls = stop Stuck
invoke n (some (place l)) ls = stop Stuck
invoke n (some (procedure k f)) ls = cond (n == k) (f ls) (stop Stuck)

abbrev pub take_all : ℕ → List Decl → Step (List ℕ)
take_all limit [] = give []
take_all limit (d ∷ ds) = take_one limit (initial_value d.type) >>= λ l. take_all limit ds >>= λ ls. give (l ∷ ls)

-- a while takes a unit, works out its test, and if that is true runs its body and begins again
pub data Loop (i : ℕ) (test : Step Bool) (body : Step (Unit {0})) : Memory → ℕ → Out (Unit {0}) → Type 0 where
  no_unit : {σ : Memory} → Loop i test body σ zero (stopped (UnitStop i) σ)
  no_test : {σ τ : Memory} {u : ℕ} {s : Stop} → test σ u (stopped s τ) → Loop i test body σ (suc u) (stopped s τ)
  leaves : {σ τ : Memory} {u w : ℕ} → test σ u (ended false τ w) → Loop i test body σ (suc u) (ended tt τ w)
  no_body : {σ σ' τ : Memory} {u w : ℕ} {s : Stop} → test σ u (ended true σ' w) → body σ' w (stopped s τ) → Loop i test body σ (suc u) (stopped s τ)
  again : {σ σ' σ'' : Memory} {u w v : ℕ} {o : Out (Unit {0})} → test σ u (ended true σ' w) → body σ' w (ended tt σ'' v) → Loop i test body σ'' v o → Loop i test body σ (suc u) o

abbrev mutual
  pub does : ℕ → Env → Com → Step (Unit {0})
  does limit ρ (null i) = tick i
  does limit ρ (assign i m e) = tick i >>= λ _. value ρ e >>= λ v. located (find m ρ) >>= λ l. store l v
  does limit ρ (if i e c d) = tick i >>= λ _. test ρ e >>= λ b. cond b (does limit ρ c) (does limit ρ d)
  does limit ρ (while i e c) = Loop i (test ρ e) (does limit ρ c)
  does limit ρ (call i m xs) = tick i >>= λ _. locations ρ xs >>= λ ls. invoke (length xs) (find m ρ) ls
  does limit ρ (block i ds ps cs) =
      tick i >>= λ _. take_all limit ds >>= λ ls.
      does_all limit (procedures limit (placed ds ls ρ) ps (placed ds ls ρ)) cs releasing ls

  pub procedures : ℕ → Env → Procs → Env → Env
  procedures limit seen pnil ρ = ρ
  procedures limit seen (pcons i m fs c ps) ρ =
      procedures limit seen ps ((m, procedure (length fs) (λ ls. does limit (placed fs ls seen) c)) ∷ ρ)

  pub does_all : ℕ → Env → Coms → Step (Unit {0})
  does_all limit ρ cnil = give tt
  does_all limit ρ (ccons c cs) = does limit ρ c >>= λ _. does_all limit ρ cs

-- a whole run: a location for the step, one for the result, the rule's command, and the result; both are released at every end
abbrev pub runs : ℕ → Com → ℤ → Step ℤ
runs limit c step =
    take_one limit (whole_value step) >>= λ i. take_one limit (whole_value (pos 0)) >>= λ o.
    (does limit ((1, place o) ∷ (0, place i) ∷ []) c >>= λ _. fetch o >>= λ v. answered (as_whole v)) releasing (i ∷ o ∷ [])
