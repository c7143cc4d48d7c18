-- What stands where in a table of a rule, and the trees that its nodes stand for. The lengths of all stretches are noted in ls.
use Rattle.std.specs.Prelude.{◌≡◌, ℕ, zero, suc, ◌+◌, ◌-◌, ◌<◌, ◌≤◌, Bool, true, false, List, [], ◌∷◌, ◌++◌, length, ℤ, Some, None, Option}
use Rattle.language.specs.declared.tables.Node.{Node}
use Rattle.language.specs.declared.tables.Kind.{Kind}
use Rattle.language.specs.declared.tables.Kind.TheVariants.{Truth, Whole, Read, Plus, Less, Or, Null, Assign, If, While, Call, Argument, Decl as DeclKind, Proc, Block}
use Rattle.language.specs.declared.values.Scalar.TheVariants.{Whole as wholes, Truth as truths}
use Rattle.language.specs.Kinds.{with_number}
use Rattle.language.specs.Table.{type_of}
use Rattle.language.specs.Tree.{Decl, Arg, Expr, Com, Procs, Coms, truth, whole, read, plus, less, or, null, assign, if, while, call, block, pnil, pcons, cnil, ccons}
use Rattle.table.specs.Stretches.{node_at}
use Rattle.table.specs.Walk.{start_at}

abbrev pub kind_at : List Node → ℕ → Option Kind
kind_at ns i = with_number (node_at ns i).kind

-- the truth of a constant
abbrev pub is_true : ℤ → Bool
is_true z = elim (type_of z) [ wholes ↦ false | truths ↦ true ]

abbrev pub ExprKind : Option Kind → Type 0
ExprKind None = ⊥
ExprKind (Some Truth) = Unit {0}
ExprKind (Some Whole) = Unit {0}
ExprKind (Some Read) = Unit {0}
ExprKind (Some Plus) = Unit {0}
ExprKind (Some Less) = Unit {0}
ExprKind (Some Or) = Unit {0}
ExprKind (Some Null) = ⊥
ExprKind (Some Assign) = ⊥
ExprKind (Some If) = ⊥
ExprKind (Some While) = ⊥
ExprKind (Some Call) = ⊥
ExprKind (Some Argument) = ⊥
ExprKind (Some DeclKind) = ⊥
ExprKind (Some Proc) = ⊥
ExprKind (Some Block) = ⊥

abbrev pub ComKind : Option Kind → Type 0
ComKind None = ⊥
ComKind (Some Truth) = ⊥
ComKind (Some Whole) = ⊥
ComKind (Some Read) = ⊥
ComKind (Some Plus) = ⊥
ComKind (Some Less) = ⊥
ComKind (Some Or) = ⊥
ComKind (Some Null) = Unit {0}
ComKind (Some Assign) = Unit {0}
ComKind (Some If) = Unit {0}
ComKind (Some While) = Unit {0}
ComKind (Some Call) = Unit {0}
ComKind (Some Argument) = ⊥
ComKind (Some DeclKind) = ⊥
ComKind (Some Proc) = ⊥
ComKind (Some Block) = Unit {0}

abbrev pub decl_at : List Node → ℕ → Decl
decl_at ns i = record { at = i; name = (node_at ns i).name; type = type_of (node_at ns i).value }

abbrev pub arg_at : List Node → ℕ → Arg
arg_at ns i = record { at = i; name = (node_at ns i).name }

-- the n pieces of one node each from s on
unfoldable pub row : {A : Type 0} → (List Node → ℕ → A) → List Node → ℕ → ℕ → List A
row piece ns s zero = []
row piece ns s (suc n) = row piece ns s n ++ (piece ns (s + n) ∷ [])

abbrev pub decls_at : List Node → ℕ → ℕ → List Decl
decls_at = row decl_at

abbrev pub args_at : List Node → ℕ → ℕ → List Arg
args_at = row arg_at

-- where the last n pieces begin that end right before e
unfoldable pub back : List ℕ → ℕ → ℕ → ℕ
back ls e zero = e
back ls e (suc n) = back ls (start_at ls (e - 1)) n

-- the command or the expression that each node ends
pub record Forest : Type 0 where
  pub tree : ℕ → Com
  pub expr : ℕ → Expr

-- the n commands that end right before e, in front of others
unfoldable pub coms_at : List ℕ → Forest → ℕ → ℕ → Coms → Coms
coms_at ls F e zero cs = cs
coms_at ls F e (suc n) cs = coms_at ls F (start_at ls (e - 1)) n (ccons (F.tree (e - 1)) cs)

-- the n procedures that end right before e, in front of others
unfoldable pub procs_at : List Node → List ℕ → Forest → ℕ → ℕ → Procs → Procs
procs_at ns ls F e zero ps = ps
procs_at ns ls F e (suc n) ps =
    procs_at ns ls F (start_at ls (e - 1)) n
    (pcons (e - 1) (node_at ns (e - 1)).name (decls_at ns (start_at ls (e - 1)) (node_at ns (e - 1)).a) (F.tree (e - 1 - 1)) ps)

-- n procedures stand right before e
abbrev pub ProcsBefore : List Node → List ℕ → ℕ → ℕ → Type 0
ProcsBefore ns ls e zero = Unit {0}
ProcsBefore ns ls e (suc n) =
    (1 ≤ e) × (kind_at ns (e - 1) ≡ Some Proc) × (start_at ls (e - 1) < e) × ProcsBefore ns ls (start_at ls (e - 1)) n

-- n commands stand right before e, none of them from before lo
abbrev pub ComsBefore : List Node → List ℕ → ℕ → ℕ → ℕ → Type 0
ComsBefore ns ls lo e zero = lo ≤ e
ComsBefore ns ls lo e (suc n) =
    (1 ≤ e) × ComKind (kind_at ns (e - 1)) × (lo ≤ start_at ls (e - 1)) × (start_at ls (e - 1) < e)
    × ComsBefore ns ls lo (start_at ls (e - 1)) n

pub record PairShape (ns : List Node) (ls : List ℕ) (i : ℕ) : Type 0 where
  pub right : 1 ≤ i
  pub right_kind : ExprKind (kind_at ns (i - 1))
  pub left : 1 ≤ start_at ls (i - 1)
  pub left_kind : ExprKind (kind_at ns (start_at ls (i - 1) - 1))
  pub from : start_at ls i ≡ start_at ls (start_at ls (i - 1) - 1)

pub record AssignShape (ns : List Node) (ls : List ℕ) (i : ℕ) : Type 0 where
  pub right : 1 ≤ i
  pub right_kind : ExprKind (kind_at ns (i - 1))
  pub from : start_at ls i ≤ start_at ls (i - 1)

pub record WhileShape (ns : List Node) (ls : List ℕ) (i : ℕ) : Type 0 where
  pub body : 1 ≤ i
  pub body_kind : ComKind (kind_at ns (i - 1))
  pub test : 1 ≤ start_at ls (i - 1)
  pub test_kind : ExprKind (kind_at ns (start_at ls (i - 1) - 1))
  pub from : start_at ls i ≤ start_at ls (start_at ls (i - 1) - 1)

pub record IfShape (ns : List Node) (ls : List ℕ) (i : ℕ) : Type 0 where
  pub other : 1 ≤ i
  pub other_kind : ComKind (kind_at ns (i - 1))
  pub then : 1 ≤ start_at ls (i - 1)
  pub then_kind : ComKind (kind_at ns (start_at ls (i - 1) - 1))
  pub test : 1 ≤ start_at ls (start_at ls (i - 1) - 1)
  pub test_kind : ExprKind (kind_at ns (start_at ls (start_at ls (i - 1) - 1) - 1))
  pub from : start_at ls i ≤ start_at ls (start_at ls (start_at ls (i - 1) - 1) - 1)

pub record BlockShape (ns : List Node) (ls : List ℕ) (i : ℕ) : Type 0 where
  pub commands : ComsBefore ns ls (back ls i (node_at ns i).c) i (node_at ns i).c
  pub procedures : ProcsBefore ns ls (back ls i (node_at ns i).c) (node_at ns i).b
  pub declarations : start_at ls i + (node_at ns i).a ≤ back ls (back ls i (node_at ns i).c) (node_at ns i).b

pub record ProcShape (ns : List Node) (ls : List ℕ) (i : ℕ) : Type 0 where
  pub body : 1 ≤ i
  pub body_kind : ComKind (kind_at ns (i - 1))
  pub formals : start_at ls i + (node_at ns i).a ≤ start_at ls (i - 1)

-- each node has the pieces that it takes right before it
pub record Shaped (ns : List Node) (ls : List ℕ) : Type 0 where
  pub size : length ls ≡ length ns
  pub begins : (i : ℕ) → i < length ns → start_at ls i ≤ i
  pub of_truth : (i : ℕ) → i < length ns → kind_at ns i ≡ Some Truth → start_at ls i ≡ i
  pub of_whole : (i : ℕ) → i < length ns → kind_at ns i ≡ Some Whole → start_at ls i ≡ i
  pub of_read : (i : ℕ) → i < length ns → kind_at ns i ≡ Some Read → start_at ls i ≡ i
  pub of_plus : (i : ℕ) → i < length ns → kind_at ns i ≡ Some Plus → PairShape ns ls i
  pub of_less : (i : ℕ) → i < length ns → kind_at ns i ≡ Some Less → PairShape ns ls i
  pub of_or : (i : ℕ) → i < length ns → kind_at ns i ≡ Some Or → PairShape ns ls i
  pub of_assign : (i : ℕ) → i < length ns → kind_at ns i ≡ Some Assign → AssignShape ns ls i
  pub of_if : (i : ℕ) → i < length ns → kind_at ns i ≡ Some If → IfShape ns ls i
  pub of_while : (i : ℕ) → i < length ns → kind_at ns i ≡ Some While → WhileShape ns ls i
  pub of_call : (i : ℕ) → i < length ns → kind_at ns i ≡ Some Call → start_at ls i + (node_at ns i).a ≤ i
  pub of_proc : (i : ℕ) → i < length ns → kind_at ns i ≡ Some Proc → ProcShape ns ls i
  pub of_block : (i : ℕ) → i < length ns → kind_at ns i ≡ Some Block → BlockShape ns ls i

-- the tree of each node is made of the trees of its pieces
pub record Trees (ns : List Node) (ls : List ℕ) (F : Forest) : Type 0 where
  pub truths : (i : ℕ) → i < length ns → kind_at ns i ≡ Some Truth → F.expr i ≡ truth (is_true (node_at ns i).value)
  pub wholes : (i : ℕ) → i < length ns → kind_at ns i ≡ Some Whole → F.expr i ≡ whole (node_at ns i).value
  pub reads : (i : ℕ) → i < length ns → kind_at ns i ≡ Some Read → F.expr i ≡ read i (node_at ns i).name
  pub pluses : (i : ℕ) → i < length ns → kind_at ns i ≡ Some Plus
      → F.expr i ≡ plus i (F.expr (start_at ls (i - 1) - 1)) (F.expr (i - 1))
  pub lesses : (i : ℕ) → i < length ns → kind_at ns i ≡ Some Less
      → F.expr i ≡ less i (F.expr (start_at ls (i - 1) - 1)) (F.expr (i - 1))
  pub ors : (i : ℕ) → i < length ns → kind_at ns i ≡ Some Or
      → F.expr i ≡ or i (F.expr (start_at ls (i - 1) - 1)) (F.expr (i - 1))
  pub nulls : (i : ℕ) → i < length ns → kind_at ns i ≡ Some Null → F.tree i ≡ null i
  pub assigns : (i : ℕ) → i < length ns → kind_at ns i ≡ Some Assign
      → F.tree i ≡ assign i (node_at ns i).name (F.expr (i - 1))
  pub ifs : (i : ℕ) → i < length ns → kind_at ns i ≡ Some If
      → F.tree i ≡ if i (F.expr (start_at ls (start_at ls (i - 1) - 1) - 1)) (F.tree (start_at ls (i - 1) - 1)) (F.tree (i - 1))
  pub whiles : (i : ℕ) → i < length ns → kind_at ns i ≡ Some While
      → F.tree i ≡ while i (F.expr (start_at ls (i - 1) - 1)) (F.tree (i - 1))
  pub calls : (i : ℕ) → i < length ns → kind_at ns i ≡ Some Call
      → F.tree i ≡ call i (node_at ns i).name (args_at ns (start_at ls i) (node_at ns i).a)
  pub blocks : (i : ℕ) → i < length ns → kind_at ns i ≡ Some Block
      → F.tree i ≡ block i (decls_at ns (start_at ls i) (node_at ns i).a)
      (procs_at ns ls F (back ls i (node_at ns i).c) (node_at ns i).b pnil) (coms_at ls F i (node_at ns i).c cnil)
