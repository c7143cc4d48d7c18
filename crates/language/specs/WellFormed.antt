-- The consistency rules: every name is declared, and the types fit.
use Rattle.std.specs.Prelude.{◌≡◌, ℕ, false, List, [], ◌∷◌, Some}
use Rattle.language.specs.declared.values.Scalar.{Scalar}
use Rattle.language.specs.declared.values.Scalar.TheVariants.{Whole as wholes, Truth as truths}
use Rattle.language.specs.Tree.{Decl, Arg, Expr, Com, Procs, Coms, truth, whole, read, plus, less, or, null, assign, if, while, call, block, pnil, pcons, cnil, ccons}
use Rattle.language.specs.Sight.{Sight, look, member, without}
use Rattle.language.specs.Names.{types, proc_names}

pub data Attr : Type 0 where
  variable : Scalar → Attr
  procedure : List Scalar → Attr

abbrev pub Has : Sight Attr → Expr → Scalar → Type 0
Has ρ (truth b) t = t ≡ truths
Has ρ (whole z) t = t ≡ wholes
Has ρ (read i m) t = look m ρ ≡ Some (variable t)
Has ρ (plus i e f) t = Has ρ e wholes × Has ρ f wholes × (t ≡ wholes)
Has ρ (less i e f) t = Has ρ e wholes × Has ρ f wholes × (t ≡ truths)
Has ρ (or i e f) t = Has ρ e truths × Has ρ f truths × (t ≡ truths)

abbrev pub Distinct : List ℕ → Type 0
Distinct [] = Unit {0}
Distinct (x ∷ xs) = (member x xs ≡ false) × Distinct xs

abbrev pub names : List Decl → List ℕ
names [] = []
names (d ∷ ds) = d.name ∷ names ds

abbrev pub variables : List Decl → Sight Attr → Sight Attr
variables [] ρ = ρ
variables (d ∷ ds) ρ = variables ds ((d.name, variable d.type) ∷ ρ)

abbrev pub procedures : Procs → Sight Attr → Sight Attr
procedures pnil ρ = ρ
procedures (pcons i m fs c ps) ρ = procedures ps ((m, procedure (types fs)) ∷ ρ)

abbrev pub Args : Sight Attr → List Arg → List Scalar → Type 0
Args ρ [] [] = Unit {0}
Args ρ [] (t ∷ ts) = ⊥
Args ρ (x ∷ xs) [] = ⊥
Args ρ (x ∷ xs) (t ∷ ts) = (look x.name ρ ≡ Some (variable t)) × Args ρ xs ts

abbrev mutual
  pub WellFormed : Sight Attr → Com → Type 0
  WellFormed ρ (null i) = Unit {0}
  WellFormed ρ (assign i m e) = (t : Scalar) × (look m ρ ≡ Some (variable t)) × Has ρ e t
  WellFormed ρ (if i e c d) = Has ρ e truths × WellFormed ρ c × WellFormed ρ d
  WellFormed ρ (while i e c) = Has ρ e truths × WellFormed ρ c
  WellFormed ρ (call i m xs) = (ts : List Scalar) × (look m ρ ≡ Some (procedure ts)) × Args ρ xs ts
  WellFormed ρ (block i ds ps cs) =
      Distinct (names ds) × Distinct (proc_names ps)
      × Bodies (variables ds (without (proc_names ps) ρ)) ps
      × AllFormed (procedures ps (variables ds ρ)) cs

  pub Bodies : Sight Attr → Procs → Type 0
  Bodies ρ pnil = Unit {0}
  Bodies ρ (pcons i m fs c ps) = Distinct (names fs) × WellFormed (variables fs ρ) c × Bodies ρ ps

  pub AllFormed : Sight Attr → Coms → Type 0
  AllFormed ρ cnil = Unit {0}
  AllFormed ρ (ccons c cs) = WellFormed ρ c × AllFormed ρ cs

abbrev pub Formed : Com → Type 0
Formed c = WellFormed ((1, variable wholes) ∷ (0, variable wholes) ∷ []) c
