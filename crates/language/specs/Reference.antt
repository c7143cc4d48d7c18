-- The computable reference: a run on a store that hands out 0, 1, 2 and so on. Every store's run is held to it.
use Rattle.std.specs.Prelude.{ℕ, zero, suc, ◌-◌, Bool, cond, List, [], ◌∷◌, length, drop, ℤ, pos, Ok, Err, Result}
use Rattle.language.specs.declared.values.Value.{Value}
use Rattle.language.specs.declared.values.Value.TheVariants.{Whole as whole_value, Truth as truth_value}
use Rattle.language.specs.declared.values.Stop.{Stop}
use Rattle.language.specs.declared.values.Stop.TheVariants.{Unit as UnitStop, Stuck}
use Rattle.language.specs.declared.values.Graded.{Graded}
use Rattle.language.specs.Values.{sort, alike, initial_value, sum, less_than, either_true}
use Rattle.language.specs.Results.{◌>>=◌, or_else}
use Rattle.language.specs.Same.{same}
use Rattle.language.specs.Stack.{Stack, value_at, with_value}
use Rattle.language.specs.Tree.{Decl, Arg, Expr, Com, Procs, Coms, truth, whole, read, plus, less, or, null, assign, if, while, call, block, pnil, pcons, cnil, ccons}

-- the names in sight: each stands for a place on the stack, or for a procedure with the names in sight at its declaration
pub data Env : Type 0 where
  empty : Env
  place : (name location : ℕ) → Env → Env
  proc : (name : ℕ) → List Decl → Com → (seen : Env) → Env → Env

pub data Found : Type 0 where
  nothing : Found
  a_place : ℕ → Found
  a_proc : List Decl → Com → Env → Found

abbrev pub look : ℕ → Env → Found
look m empty = nothing
look m (place n l ρ) = cond (same m n) (a_place l) (look m ρ)
look m (proc n fs c seen ρ) = cond (same m n) (a_proc fs c seen) (look m ρ)

abbrev pub located : Found → Result ℕ Stop
located nothing = Err Stuck
located (a_place l) = Ok l
located (a_proc fs c seen) = Err Stuck

abbrev pub eval : Env → Stack → Expr → Result Value Stop
eval ρ σ (truth b) = Ok (truth_value b)
eval ρ σ (whole z) = Ok (whole_value z)
eval ρ σ (read i m) = located (look m ρ) >>= λ l. or_else Stuck (value_at σ l)
eval ρ σ (plus i e f) = eval ρ σ e >>= λ v. eval ρ σ f >>= λ w. sum i v w
eval ρ σ (less i e f) = eval ρ σ e >>= λ v. eval ρ σ f >>= λ w. less_than v w
eval ρ σ (or i e f) = eval ρ σ e >>= λ v. eval ρ σ f >>= λ w. either_true v w

abbrev pub write : Stack → ℕ → Value → Result Stack Stop
write σ l v = or_else Stuck (value_at σ l) >>= λ w. cond (alike (sort w) (sort v)) (Ok (with_value σ l v)) (Err Stuck)

abbrev pub as_truth : Value → Result Bool Stop
as_truth (truth_value b) = Ok b
as_truth (whole_value z) = Err Stuck

abbrev pub as_whole : Value → Result ℤ Stop
as_whole (truth_value b) = Err Stuck
as_whole (whole_value z) = Ok z

-- a block's variables
abbrev pub allot : List Decl → Env → Stack → (Env × Stack)
allot [] ρ σ = (ρ, σ)
allot (d ∷ ds) ρ σ = allot ds (place d.name (length σ) ρ) (initial_value d.type ∷ σ)

-- and its procedures
abbrev pub procs : Env → Procs → Env → Env
procs seen pnil ρ = ρ
procs seen (pcons i m fs c ps) ρ = procs seen ps (proc m fs c seen ρ)

abbrev pub called : Found → Result (List Decl × Com × Env) Stop
called nothing = Err Stuck
called (a_place l) = Err Stuck
called (a_proc fs c seen) = Ok (fs, c, seen)

-- each formal stands for its argument's place
abbrev pub bind_formals : Env → List Decl → Env → List Arg → Result Env Stop
bind_formals ρ [] seen [] = Ok seen
bind_formals ρ [] seen (x ∷ xs) = Err Stuck
bind_formals ρ (f ∷ fs) seen [] = Err Stuck
bind_formals ρ (f ∷ fs) seen (x ∷ xs) = located (look x.name ρ) >>= λ l. bind_formals ρ fs (place f.name l seen) xs

abbrev pub node_of : Com → ℕ
node_of (null i) = i
node_of (assign i m e) = i
node_of (if i e c d) = i
node_of (while i e c) = i
node_of (call i m xs) = i
node_of (block i ds ps cs) = i

-- the variables and the units that are left
abbrev pub Left : Type 0
Left = Stack × ℕ

-- each command in turn
abbrev pub each : (Com → Stack → ℕ → Result Left Stop) → Coms → Stack → ℕ → Result Left Stop
each go cnil σ u = Ok (σ, u)
each go (ccons c cs) σ u = go c σ u >>= λ s. each go cs s.0 s.1

-- fuel is at least the units, so it never shows: each command takes a unit
abbrev pub exec : ℕ → Env → Com → Stack → ℕ → Result Left Stop
exec zero ρ c σ u = Err (UnitStop (node_of c))
exec (suc fuel) ρ c σ zero = Err (UnitStop (node_of c))
exec (suc fuel) ρ (null i) σ (suc u) = Ok (σ, u)
exec (suc fuel) ρ (assign i m e) σ (suc u) =
    eval ρ σ e >>= λ v. located (look m ρ) >>= λ l. write σ l v >>= λ σ'. Ok (σ', u)
exec (suc fuel) ρ (if i e c d) σ (suc u) =
    eval ρ σ e >>= as_truth >>= λ b. cond b (exec fuel ρ c σ u) (exec fuel ρ d σ u)
exec (suc fuel) ρ (while i e c) σ (suc u) =
    eval ρ σ e >>= as_truth >>= λ b.
    cond b (exec fuel ρ c σ u >>= λ s. exec fuel ρ (while i e c) s.0 s.1) (Ok (σ, u))
exec (suc fuel) ρ (call i m xs) σ (suc u) =
    called (look m ρ) >>= λ p. bind_formals ρ p.0 p.2 xs >>= λ ρ'. exec fuel ρ' p.1 σ u
exec (suc fuel) ρ (block i ds ps cs) σ (suc u) =
    let inner = allot ds ρ σ in
    each (exec fuel (procs inner.0 ps inner.0)) cs inner.1 u >>= λ s. Ok (drop (length ds) s.0, s.1)

-- the contents of `out`, and the units taken
abbrev pub graded : ℤ → ℕ → Graded
graded z u = record { shift = z; units = u }

abbrev pub finished : ℕ → Left → Result Graded Stop
finished allowance s = or_else Stuck (value_at s.0 1) >>= as_whole >>= λ z. Ok (graded z (allowance - s.1))

-- what a rule gives at a step with an allowance
abbrev pub answer : Com → ℤ → ℕ → Result Graded Stop
answer c step allowance =
    exec allowance (place 1 1 (place 0 0 empty)) c (whole_value (pos 0) ∷ whole_value step ∷ []) allowance >>= finished allowance
