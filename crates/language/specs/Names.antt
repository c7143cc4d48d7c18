-- The questions on names and types, asked node by node, and a command's need of locations.
use Rattle.std.specs.Prelude.{ℕ, ◌+◌, max, Bool, true, false, not, ◌&&◌, List, [], ◌∷◌, length, Some, None, Ok, Err, Option, Result, ◌==◌}
use Rattle.language.specs.declared.values.Scalar.{Scalar}
use Rattle.language.specs.declared.values.Scalar.TheVariants.{Whole as wholes, Truth as truths}
use Rattle.language.specs.declared.faults.Fault.{Fault}
use Rattle.language.specs.declared.faults.Layer.TheVariants.{Names}
use Rattle.language.specs.declared.faults.NamesCause.{NamesCause}
use Rattle.language.specs.declared.faults.NamesCause.TheVariants.{Repeated, Variable, Procedure, Arguments, Types}
use Rattle.language.specs.Faults.{fault}
use Rattle.language.specs.Values.{alike}
use Rattle.language.specs.Results.{◌>>=◌, asked}
use Rattle.language.specs.Sight.{Sight, look, member, without}
use Rattle.language.specs.Tree.{Decl, Arg, Expr, Com, Procs, Coms, truth, whole, read, plus, less, or, null, assign, if, while, call, block, pnil, pcons, cnil, ccons}

-- what check knows of a name in sight: a variable's type, or a procedure's formals and its body's need
pub data Entry : Type 0 where
  variable : Scalar → Entry
  procedure : List Scalar → (need : ℕ) → Entry

abbrev pub refusal : NamesCause → ℕ → Fault
refusal cause i = fault (Names cause) i

abbrev pub all_alike : List Scalar → List Scalar → Bool
all_alike [] [] = true
all_alike [] (t ∷ ts) = false
all_alike (t ∷ ts) [] = false
all_alike (t ∷ ts) (u ∷ us) = alike t u && all_alike ts us

abbrev pub as_variable : ℕ → Option Entry → Result Scalar Fault
as_variable i None = Err (refusal Variable i)
as_variable i (Some (variable t)) = Ok t
as_variable i (Some (procedure ts n)) = Err (refusal Variable i)

abbrev pub as_procedure : ℕ → Option Entry → Result (List Scalar × ℕ) Fault
as_procedure i None = Err (refusal Procedure i)
as_procedure i (Some (variable t)) = Err (refusal Procedure i)
as_procedure i (Some (procedure ts n)) = Ok (ts, n)

abbrev pub check_expr : Sight Entry → Expr → Result Scalar Fault
check_expr ρ (truth b) = Ok truths
check_expr ρ (whole z) = Ok wholes
check_expr ρ (read i m) = as_variable i (look m ρ)
check_expr ρ (plus i l r) =
    check_expr ρ l >>= λ t. check_expr ρ r >>= λ u. asked (alike t wholes && alike u wholes) (refusal Types i) >>= λ _. Ok wholes
check_expr ρ (less i l r) =
    check_expr ρ l >>= λ t. check_expr ρ r >>= λ u. asked (alike t wholes && alike u wholes) (refusal Types i) >>= λ _. Ok truths
check_expr ρ (or i l r) =
    check_expr ρ l >>= λ t. check_expr ρ r >>= λ u. asked (alike t truths && alike u truths) (refusal Types i) >>= λ _. Ok truths

abbrev pub check_args : Sight Entry → List Arg → Result (List Scalar) Fault
check_args ρ [] = Ok []
check_args ρ (x ∷ xs) = as_variable x.at (look x.name ρ) >>= λ t. check_args ρ xs >>= λ ts. Ok (t ∷ ts)

-- each declaration's name differs from the earlier ones
abbrev pub check_decls : List ℕ → List Decl → Result (Unit {0}) Fault
check_decls seen [] = Ok tt
check_decls seen (d ∷ ds) = asked (not (member d.name seen)) (refusal Repeated d.at) >>= λ _. check_decls (d.name ∷ seen) ds

abbrev pub types : List Decl → List Scalar
types [] = []
types (d ∷ ds) = d.type ∷ types ds

abbrev pub variables : List Decl → Sight Entry → Sight Entry
variables [] ρ = ρ
variables (d ∷ ds) ρ = variables ds ((d.name, variable d.type) ∷ ρ)

abbrev pub proc_names : Procs → List ℕ
proc_names pnil = []
proc_names (pcons i m fs c ps) = m ∷ proc_names ps

abbrev mutual
  pub check_com : Sight Entry → Com → Result ℕ Fault
  check_com ρ (null i) = Ok 0
  check_com ρ (assign i m e) =
      check_expr ρ e >>= λ t. as_variable i (look m ρ) >>= λ u. asked (alike t u) (refusal Types i) >>= λ _. Ok 0
  check_com ρ (if i e c d) =
      check_expr ρ e >>= λ t. check_com ρ c >>= λ n. check_com ρ d >>= λ m. asked (alike t truths) (refusal Types i) >>= λ _. Ok (max n m)
  check_com ρ (while i e c) =
      check_expr ρ e >>= λ t. check_com ρ c >>= λ n. asked (alike t truths) (refusal Types i) >>= λ _. Ok n
  check_com ρ (call i m xs) =
      check_args ρ xs >>= λ ts. as_procedure i (look m ρ) >>= λ p.
      asked (length ts == length p.0) (refusal Arguments i) >>= λ _. asked (all_alike ts p.0) (refusal Types i) >>= λ _. Ok p.1
  check_com ρ (block i ds ps cs) =
      check_decls [] ds >>= λ _.
      check_procs (variables ds (without (proc_names ps) ρ)) [] ps (variables ds ρ) >>= λ ρ'.
      check_coms ρ' cs >>= λ n. Ok (length ds + n)

  -- the sight of a block's commands, from the sight of its procedures
  pub check_procs : Sight Entry → List ℕ → Procs → Sight Entry → Result (Sight Entry) Fault
  check_procs inner seen pnil ρ = Ok ρ
  check_procs inner seen (pcons i m fs c ps) ρ =
      check_decls [] fs >>= λ _.
      check_com (variables fs inner) c >>= λ n.
      asked (not (member m seen)) (refusal Repeated i) >>= λ _.
      check_procs inner (m ∷ seen) ps ((m, procedure (types fs) n) ∷ ρ)

  pub check_coms : Sight Entry → Coms → Result ℕ Fault
  check_coms ρ cnil = Ok 0
  check_coms ρ (ccons c cs) = check_com ρ c >>= λ n. check_coms ρ cs >>= λ m. Ok (max n m)

abbrev pub outset : Sight Entry
outset = (1, variable wholes) ∷ (0, variable wholes) ∷ []

-- a rule's need
abbrev pub check_rule : Com → Result ℕ Fault
check_rule c = check_com outset c >>= λ n. Ok (n + 2)
