-- Where the parts of a rule stand in a part of its table. The part's nodes are numbered from o on; a piece takes up the
-- stretch from its place s in the part on, and the length of the stretch is noted at the node that ends it.
use Rattle.std.specs.Prelude.{◌≡◌, ℕ, ◌+◌, List, [], ◌∷◌, length, get_or, pos, Some, slice_index_or}
use Rattle.language.specs.declared.tables.Node.{Node}
use Rattle.language.specs.declared.tables.Kind.{Kind}
use Rattle.language.specs.declared.tables.Kind.TheVariants.{Truth, Whole, Read, Plus, Less, Or, Null, Assign, If, While, Call, Argument, Decl as DeclKind, Proc, Block}
use Rattle.language.specs.Kinds.{with_number}
use Rattle.language.specs.Tree.{Decl, Arg, Expr, Com, Procs, Coms, truth, whole, read, plus, less, or, null, assign, if, while, call, block, pnil, pcons, cnil, ccons}
use Rattle.language.specs.Table.{type_of}
use Rattle.language.specs.Spelling.{how_many_procs, how_many_coms, size_expr, size, size_procs, size_coms}

abbrev pub blank : Node
blank = record { kind = 0; name = 0; value = pos 0; a = 0; b = 0; c = 0 }

abbrev pub node_at : List Node → ℕ → Node
node_at ns r = slice_index_or ns r blank

-- the stretch of z nodes from s on ends with the node of the number i, of the kind k
pub record Ends (ns : List Node) (ls : List ℕ) (o s z i : ℕ) (k : Kind) : Type 0 where
  pub last : ℕ
  pub ends : last + 1 ≡ s + z
  pub number : i ≡ o + last
  pub kind : with_number (node_at ns last).kind ≡ Some k
  pub len : get_or ls last 0 ≡ z

-- the same, of a node that lists a name
pub record Named (ns : List Node) (ls : List ℕ) (o s z i : ℕ) (k : Kind) (m : ℕ) : Type 0 where
  pub end : Ends ns ls o s z i k
  pub name : (node_at ns end.last).name ≡ m

abbrev pub ExprAt : List Node → List ℕ → ℕ → ℕ → Expr → Type 0
ExprAt ns ls o s (truth b) = Ends ns ls o s 1 (o + s) Truth
ExprAt ns ls o s (whole z) = Ends ns ls o s 1 (o + s) Whole
ExprAt ns ls o s (read i m) = Named ns ls o s 1 i Read m
ExprAt ns ls o s (plus i l r) = Ends ns ls o s (size_expr l + size_expr r + 1) i Plus × ExprAt ns ls o s l × ExprAt ns ls o (s + size_expr l) r
ExprAt ns ls o s (less i l r) = Ends ns ls o s (size_expr l + size_expr r + 1) i Less × ExprAt ns ls o s l × ExprAt ns ls o (s + size_expr l) r
ExprAt ns ls o s (or i l r) = Ends ns ls o s (size_expr l + size_expr r + 1) i Or × ExprAt ns ls o s l × ExprAt ns ls o (s + size_expr l) r

abbrev pub ArgsAt : List Node → List ℕ → ℕ → ℕ → List Arg → Type 0
ArgsAt ns ls o s [] = Unit {0}
ArgsAt ns ls o s (x ∷ xs) = Named ns ls o s 1 x.at Argument x.name × ArgsAt ns ls o (s + 1) xs

pub record DeclAt (ns : List Node) (ls : List ℕ) (o s : ℕ) (d : Decl) : Type 0 where
  pub named : Named ns ls o s 1 d.at DeclKind d.name
  pub type : type_of (node_at ns named.end.last).value ≡ d.type

abbrev pub DeclsAt : List Node → List ℕ → ℕ → ℕ → List Decl → Type 0
DeclsAt ns ls o s [] = Unit {0}
DeclsAt ns ls o s (d ∷ ds) = DeclAt ns ls o s d × DeclsAt ns ls o (s + 1) ds

abbrev mutual
  pub ComAt : List Node → List ℕ → ℕ → ℕ → Com → Type 0
  ComAt ns ls o s (null i) = Ends ns ls o s 1 i Null
  ComAt ns ls o s (assign i m e) = Named ns ls o s (size_expr e + 1) i Assign m × ExprAt ns ls o s e
  ComAt ns ls o s (if i e c d) =
      Ends ns ls o s (size_expr e + size c + size d + 1) i If × ExprAt ns ls o s e × ComAt ns ls o (s + size_expr e) c
      × ComAt ns ls o (s + size_expr e + size c) d
  ComAt ns ls o s (while i e c) =
      Ends ns ls o s (size_expr e + size c + 1) i While × ExprAt ns ls o s e × ComAt ns ls o (s + size_expr e) c
  ComAt ns ls o s (call i m xs) =
      (h : Named ns ls o s (length xs + 1) i Call m) × ((node_at ns h.end.last).a ≡ length xs) × ArgsAt ns ls o s xs
  ComAt ns ls o s (block i ds ps cs) =
      (h : Ends ns ls o s (length ds + size_procs ps + size_coms cs + 1) i Block)
      × ((node_at ns h.last).a ≡ length ds) × ((node_at ns h.last).b ≡ how_many_procs ps) × ((node_at ns h.last).c ≡ how_many_coms cs)
      × DeclsAt ns ls o s ds × ProcsAt ns ls o (s + length ds) ps × ComsAt ns ls o (s + length ds + size_procs ps) cs

  pub ProcsAt : List Node → List ℕ → ℕ → ℕ → Procs → Type 0
  ProcsAt ns ls o s pnil = Unit {0}
  ProcsAt ns ls o s (pcons i m fs c ps) =
      ((h : Named ns ls o s (length fs + size c + 1) i Proc m) × ((node_at ns h.end.last).a ≡ length fs)
      × DeclsAt ns ls o s fs × ComAt ns ls o (s + length fs) c)
      × ProcsAt ns ls o (s + (length fs + size c + 1)) ps

  pub ComsAt : List Node → List ℕ → ℕ → ℕ → Coms → Type 0
  ComsAt ns ls o s cnil = Unit {0}
  ComsAt ns ls o s (ccons c cs) = ComAt ns ls o s c × ComsAt ns ls o (s + size c) cs

-- one procedure
abbrev pub ProcAt : List Node → List ℕ → ℕ → ℕ → ℕ → ℕ → List Decl → Com → Type 0
ProcAt ns ls o s i m fs c =
    (h : Named ns ls o s (length fs + size c + 1) i Proc m) × ((node_at ns h.end.last).a ≡ length fs)
    × DeclsAt ns ls o s fs × ComAt ns ls o (s + length fs) c
