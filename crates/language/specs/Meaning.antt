-- What a rule means: whole numbers without end, no units to run out of, no store to fill.
-- Beside the outcome stands the trace: each command that began and each sum that was worked out, in order.
use Rattle.std.specs.Prelude.{◌≡◌, ℕ, Bool, true, false, cond, ◌||◌, List, [], ◌∷◌, ◌++◌, length, drop, ℤ, pos, ◌+ℤ◌, Some, int_lt}
use Rattle.std.proofs.Math.Option.{Option as Found, some, none}
use Rattle.language.specs.declared.values.Value.{Value}
use Rattle.language.specs.declared.values.Value.TheVariants.{Whole as whole_value, Truth as truth_value}
use Rattle.language.specs.Values.{sort, initial_value}
use Rattle.language.specs.Sight.{Bound, place, procedure, Env, find, placed}
use Rattle.language.specs.Stack.{Stack, value_at, with_value}
use Rattle.language.specs.Tree.{Decl, Arg, Expr, Com, Procs, Coms, truth, whole, read, plus, less, or, null, assign, if, while, call, block, pnil, pcons, cnil, ccons}

-- each with its node
pub data Event : Type 0 where
  begins : (at : ℕ) → Event
  adds : (at : ℕ) → ℤ → Event

abbrev pub Trace : Type 0
Trace = List Event

-- what a command does: the variables before, what happened, the variables after
abbrev pub Effect : Type 1
Effect = Stack → Trace → Stack → Type 0

-- a name in sight that stands for the location l
abbrev pub Place : Found (Bound Effect) → ℕ → Type 0
Place none l = ⊥
Place (some (place k)) l = k ≡ l
Place (some (procedure n f)) l = ⊥

-- the value of an expression
abbrev pub IsValue : Env Effect → Expr → Stack → Trace → Value → Type 0
IsValue ρ (truth b) σ t v = (v ≡ truth_value b) × (t ≡ [])
IsValue ρ (whole z) σ t v = (v ≡ whole_value z) × (t ≡ [])
IsValue ρ (read i m) σ t v = (l : ℕ) × Place (find m ρ) l × (value_at σ l ≡ Some v) × (t ≡ [])
IsValue ρ (plus i e f) σ t v =
    (x y : ℤ) × (s r : Trace) × IsValue ρ e σ s (whole_value x) × IsValue ρ f σ r (whole_value y)
    × (v ≡ whole_value (x +ℤ y)) × (t ≡ s ++ (r ++ (adds i (x +ℤ y) ∷ [])))
IsValue ρ (less i e f) σ t v =
    (x y : ℤ) × (s r : Trace) × IsValue ρ e σ s (whole_value x) × IsValue ρ f σ r (whole_value y)
    × (v ≡ truth_value (int_lt x y)) × (t ≡ s ++ r)
IsValue ρ (or i e f) σ t v =
    (x y : Bool) × (s r : Trace) × IsValue ρ e σ s (truth_value x) × IsValue ρ f σ r (truth_value y)
    × (v ≡ truth_value (x || y)) × (t ≡ s ++ r)

abbrev pub Places : Env Effect → List Arg → List ℕ → Type 0
Places ρ [] [] = Unit {0}
Places ρ [] (l ∷ ls) = ⊥
Places ρ (x ∷ xs) [] = ⊥
Places ρ (x ∷ xs) (l ∷ ls) = Place (find x.name ρ) l × Places ρ xs ls

-- what a procedure in sight does with as many locations as it has formals
abbrev pub Invoked : Found (Bound Effect) → ℕ → List ℕ → Effect
Invoked none n ls σ t σ' = ⊥
Invoked (some (place k)) n ls σ t σ' = ⊥
Invoked (some (procedure k f)) n ls σ t σ' = (n ≡ k) × f ls σ t σ'

-- a block's variables: the next unused locations, holding 0 or false
abbrev pub fresh : List Decl → Stack → (List ℕ × Stack)
fresh [] σ = ([], σ)
fresh (d ∷ ds) σ = let r = fresh ds (initial_value d.type ∷ σ) in (length σ ∷ r.0, r.1)

-- the least effect that a while at the node i has
pub data Loop (i : ℕ) (test : Stack → Trace → Value → Type 0) (body : Effect) : Stack → Trace → Stack → Type 0 where
  leaves : {σ : Stack} {t : Trace} → test σ t (truth_value false) → Loop i test body σ (begins i ∷ t) σ
  again : {σ σ' σ'' : Stack} {t r s : Trace} → test σ t (truth_value true) → body σ r σ' → Loop i test body σ' s σ''
      → Loop i test body σ (begins i ∷ (t ++ (r ++ s))) σ''

abbrev mutual
  pub CommandMeans : Env Effect → Com → Effect
  CommandMeans ρ (null i) σ t σ' = (t ≡ begins i ∷ []) × (σ' ≡ σ)
  CommandMeans ρ (assign i m e) σ t σ' =
      (l : ℕ) × (v w : Value) × (s : Trace) × Place (find m ρ) l × IsValue ρ e σ s v × (value_at σ l ≡ Some w)
      × (sort w ≡ sort v) × (σ' ≡ with_value σ l v) × (t ≡ begins i ∷ s)
  CommandMeans ρ (if i e c d) σ t σ' =
      (b : Bool) × (s r : Trace) × IsValue ρ e σ s (truth_value b)
      × cond b (CommandMeans ρ c σ r σ') (CommandMeans ρ d σ r σ') × (t ≡ begins i ∷ (s ++ r))
  CommandMeans ρ (while i e c) σ t σ' = Loop i (IsValue ρ e) (CommandMeans ρ c) σ t σ'
  CommandMeans ρ (call i m xs) σ t σ' =
      (ls : List ℕ) × (s : Trace) × Places ρ xs ls × Invoked (find m ρ) (length xs) ls σ s σ' × (t ≡ begins i ∷ s)
  CommandMeans ρ (block i ds ps cs) σ t σ' =
      let new = fresh ds σ in
      let seen = placed ds new.0 ρ in
      (τ : Stack) × (s : Trace) × CommandsMean (procedures seen ps seen) cs new.1 s τ
      × (σ' ≡ drop (length ds) τ) × (t ≡ begins i ∷ s)

  -- the block's procedures, each with the names in sight where it was declared
  pub procedures : Env Effect → Procs → Env Effect → Env Effect
  procedures seen pnil ρ = ρ
  procedures seen (pcons i m fs c ps) ρ =
      procedures seen ps ((m, procedure (length fs) (λ ls. CommandMeans (placed fs ls seen) c)) ∷ ρ)

  pub CommandsMean : Env Effect → Coms → Effect
  CommandsMean ρ cnil σ t σ' = (t ≡ []) × (σ' ≡ σ)
  CommandsMean ρ (ccons c cs) σ t σ' =
      (τ : Stack) × (s r : Trace) × CommandMeans ρ c σ s τ × CommandsMean ρ cs τ r σ' × (t ≡ s ++ r)

-- what a rule means at a step: the contents of `out` at the end, begun with `in` at the step and `out` at 0
abbrev pub Means : Com → ℤ → Trace → ℤ → Type 0
Means c step t z =
    (σ : Stack) × CommandMeans ((1, place 1) ∷ (0, place 0) ∷ []) c (whole_value (pos 0) ∷ whole_value step ∷ []) t σ
    × (value_at σ 1 ≡ Some (whole_value z))
