-- A rule's tree written out as its table: each part's pieces first, then its own node.
use Rattle.std.specs.Prelude.{◌≡◌, ℕ, ◌+◌, cond, List, [], ◌∷◌, ◌++◌, length, ℤ, pos}
use Rattle.language.specs.declared.tables.Node.{Node}
use Rattle.language.specs.declared.values.Scalar.{Scalar}
use Rattle.language.specs.declared.values.Scalar.TheVariants.{Whole as wholes, Truth as truths}
use Rattle.language.specs.Tree.{Decl, Arg, Expr, Com, Procs, Coms, truth, whole, read, plus, less, or, null, assign, if, while, call, block, pnil, pcons, cnil, ccons}

abbrev pub node : (kind name : ℕ) → ℤ → (a b c : ℕ) → Node
node k m v a b c = record { kind = k; name = m; value = v; a = a; b = b; c = c }

abbrev pub type_bit : Scalar → ℤ
type_bit wholes = pos 0
type_bit truths = pos 1

abbrev pub spell_expr : Expr → List Node
spell_expr (truth b) = node 0 0 (pos (cond b 1 0)) 0 0 0 ∷ []
spell_expr (whole z) = node 1 0 z 0 0 0 ∷ []
spell_expr (read i m) = node 2 m (pos 0) 0 0 0 ∷ []
spell_expr (plus i e f) = spell_expr e ++ (spell_expr f ++ (node 3 0 (pos 0) 0 0 0 ∷ []))
spell_expr (less i e f) = spell_expr e ++ (spell_expr f ++ (node 4 0 (pos 0) 0 0 0 ∷ []))
spell_expr (or i e f) = spell_expr e ++ (spell_expr f ++ (node 5 0 (pos 0) 0 0 0 ∷ []))

abbrev pub spell_args : List Arg → List Node
spell_args [] = []
spell_args (x ∷ xs) = node 11 x.name (pos 0) 0 0 0 ∷ spell_args xs

abbrev pub spell_decls : List Decl → List Node
spell_decls [] = []
spell_decls (d ∷ ds) = node 12 d.name (type_bit d.type) 0 0 0 ∷ spell_decls ds

abbrev pub how_many_procs : Procs → ℕ
how_many_procs pnil = 0
how_many_procs (pcons i m fs c ps) = 1 + how_many_procs ps

abbrev pub how_many_coms : Coms → ℕ
how_many_coms cnil = 0
how_many_coms (ccons c cs) = 1 + how_many_coms cs

abbrev mutual
  pub spell : Com → List Node
  spell (null i) = node 6 0 (pos 0) 0 0 0 ∷ []
  spell (assign i m e) = spell_expr e ++ (node 7 m (pos 0) 0 0 0 ∷ [])
  spell (if i e c d) = spell_expr e ++ (spell c ++ (spell d ++ (node 8 0 (pos 0) 0 0 0 ∷ [])))
  spell (while i e c) = spell_expr e ++ (spell c ++ (node 9 0 (pos 0) 0 0 0 ∷ []))
  spell (call i m xs) = spell_args xs ++ (node 10 m (pos 0) (length xs) 0 0 ∷ [])
  spell (block i ds ps cs) =
      spell_decls ds ++ (spell_procs ps ++ (spell_coms cs ++ (node 14 0 (pos 0) (length ds) (how_many_procs ps) (how_many_coms cs) ∷ [])))

  pub spell_procs : Procs → List Node
  spell_procs pnil = []
  spell_procs (pcons i m fs c ps) = spell_decls fs ++ (spell c ++ (node 13 m (pos 0) (length fs) 0 0 ∷ spell_procs ps))

  pub spell_coms : Coms → List Node
  spell_coms cnil = []
  spell_coms (ccons c cs) = spell c ++ spell_coms cs

-- each part's number is that of its node, where the first node of the whole is the s-th
abbrev pub size_expr : Expr → ℕ
size_expr (truth b) = 1
size_expr (whole z) = 1
size_expr (read i m) = 1
size_expr (plus i e f) = size_expr e + size_expr f + 1
size_expr (less i e f) = size_expr e + size_expr f + 1
size_expr (or i e f) = size_expr e + size_expr f + 1

abbrev mutual
  pub size : Com → ℕ
  size (null i) = 1
  size (assign i m e) = size_expr e + 1
  size (if i e c d) = size_expr e + size c + size d + 1
  size (while i e c) = size_expr e + size c + 1
  size (call i m xs) = length xs + 1
  size (block i ds ps cs) = length ds + size_procs ps + size_coms cs + 1

  pub size_procs : Procs → ℕ
  size_procs pnil = 0
  size_procs (pcons i m fs c ps) = length fs + size c + 1 + size_procs ps

  pub size_coms : Coms → ℕ
  size_coms cnil = 0
  size_coms (ccons c cs) = size c + size_coms cs

abbrev pub NumberedExpr : ℕ → Expr → Type 0
NumberedExpr s (truth b) = Unit {0}
NumberedExpr s (whole z) = Unit {0}
NumberedExpr s (read i m) = i ≡ s
NumberedExpr s (plus i e f) = NumberedExpr s e × NumberedExpr (s + size_expr e) f × (i ≡ s + size_expr e + size_expr f)
NumberedExpr s (less i e f) = NumberedExpr s e × NumberedExpr (s + size_expr e) f × (i ≡ s + size_expr e + size_expr f)
NumberedExpr s (or i e f) = NumberedExpr s e × NumberedExpr (s + size_expr e) f × (i ≡ s + size_expr e + size_expr f)

abbrev pub NumberedArgs : ℕ → List Arg → Type 0
NumberedArgs s [] = Unit {0}
NumberedArgs s (x ∷ xs) = (x.at ≡ s) × NumberedArgs (s + 1) xs

abbrev pub NumberedDecls : ℕ → List Decl → Type 0
NumberedDecls s [] = Unit {0}
NumberedDecls s (d ∷ ds) = (d.at ≡ s) × NumberedDecls (s + 1) ds

abbrev mutual
  pub Numbered : ℕ → Com → Type 0
  Numbered s (null i) = i ≡ s
  Numbered s (assign i m e) = NumberedExpr s e × (i ≡ s + size_expr e)
  Numbered s (if i e c d) =
      NumberedExpr s e × Numbered (s + size_expr e) c × Numbered (s + size_expr e + size c) d
      × (i ≡ s + size_expr e + size c + size d)
  Numbered s (while i e c) = NumberedExpr s e × Numbered (s + size_expr e) c × (i ≡ s + size_expr e + size c)
  Numbered s (call i m xs) = NumberedArgs s xs × (i ≡ s + length xs)
  Numbered s (block i ds ps cs) =
      NumberedDecls s ds × NumberedProcs (s + length ds) ps × NumberedComs (s + length ds + size_procs ps) cs
      × (i ≡ s + length ds + size_procs ps + size_coms cs)

  pub NumberedProcs : ℕ → Procs → Type 0
  NumberedProcs s pnil = Unit {0}
  NumberedProcs s (pcons i m fs c ps) =
      NumberedDecls s fs × Numbered (s + length fs) c × (i ≡ s + length fs + size c) × NumberedProcs (s + length fs + size c + 1) ps

  pub NumberedComs : ℕ → Coms → Type 0
  NumberedComs s cnil = Unit {0}
  NumberedComs s (ccons c cs) = Numbered s c × NumberedComs (s + size c) cs

-- the table is the rule's, written out
abbrev pub Spells : List Node → Com → Type 0
Spells nodes c = (nodes ≡ spell c) × Numbered 0 c
