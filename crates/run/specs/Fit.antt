-- The lengths noted beside a table fit it in one way at most.
use Rattle.std.proofs.Common.{refl, arith, sym, ◌∙◌}
use Rattle.std.specs.Prelude.{◌≡◌, ℕ, ◌+◌, List, [], ◌∷◌, length, Some, Bool, true, false, unwrap_or, get_or, Ok, Err, Result}
use Rattle.std.specs.Coded.{×_prop, Unit-prop, coded_option, code_by, coded_ℕ, coded_bool, Coded, Coded-set}
use mathlib.Core.Path.{path_j}
use mathlib.Core.HLevel.{is_prop→PathP}
use native.Mathlib.Nat.{ℕ_set}
use Rattle.language.specs.declared.tables.Node.{Node}
use Rattle.language.specs.declared.tables.Kind.{Kind}
use Rattle.language.specs.declared.tables.Kind.TheVariants.{Truth, Whole, Read, Plus, Less, Or, Null, Assign, If, While, Call, Argument, Decl as DeclKind, Proc, Block}
use Rattle.language.specs.declared.values.Scalar.{Scalar}
use Rattle.language.specs.declared.values.Scalar.TheVariants.{Whole as wholes, Truth as truths}
use Rattle.language.specs.Kinds.{numbered, with_number}
use Rattle.language.specs.Table.{type_of, build}
use Rattle.language.specs.Spelling.{how_many_procs, how_many_coms, size_expr, size, size_procs, size_coms}
use Rattle.language.specs.Tree.{Decl, Arg, Expr, Com, Procs, Coms, truth, whole, read, plus, less, or, null, assign, if, while, call, block, pnil, pcons, cnil, ccons}
use Rattle.language.specs.declared.faults.Fault.{Fault}
use Rattle.table.specs.Measured.{Lengths}
use Rattle.table.specs.Stretches.{node_at, Ends, Named, ExprAt, ArgsAt, DeclAt, DeclsAt, ComAt, ProcsAt, ComsAt}

abbrev kind_of : ℕ → Kind
kind_of n = unwrap_or (with_number n) Null

kind_of-numbered : (k : Kind) → kind_of (numbered k) ≡ k
kind_of-numbered Truth = refl
kind_of-numbered Whole = refl
kind_of-numbered Read = refl
kind_of-numbered Plus = refl
kind_of-numbered Less = refl
kind_of-numbered Or = refl
kind_of-numbered Null = refl
kind_of-numbered Assign = refl
kind_of-numbered If = refl
kind_of-numbered While = refl
kind_of-numbered Call = refl
kind_of-numbered Argument = refl
kind_of-numbered DeclKind = refl
kind_of-numbered Proc = refl
kind_of-numbered Block = refl

abbrev coded_kind : Coded Kind
coded_kind = code_by ℕ coded_ℕ numbered kind_of kind_of-numbered

abbrev is_whole : Scalar → Bool
is_whole wholes = true
is_whole truths = false

abbrev scalar_of : Bool → Scalar
scalar_of true = wholes
scalar_of false = truths

scalar_of-is_whole : (t : Scalar) → scalar_of (is_whole t) ≡ t
scalar_of-is_whole wholes = refl
scalar_of-is_whole truths = refl

abbrev coded_scalar : Coded Scalar
coded_scalar = code_by Bool coded_bool is_whole scalar_of scalar_of-is_whole

module _ (ns : List Node) (ls : List ℕ) (o : ℕ) where
  Ends-prop : (s z i : ℕ) (k : Kind) → IsProp (Ends ns ls o s z i k)
  Ends-prop s z i k x y =
      let e : x.last ≡ y.last = omega (arith, x.ends, y.ends) in
      λ j. record {
        last = e j;
        ends = is_prop→PathP (λ j. e j + 1 ≡ s + z) (λ j. ℕ_set _ _) x.ends y.ends j;
        number = is_prop→PathP (λ j. i ≡ o + e j) (λ j. ℕ_set _ _) x.number y.number j;
        kind = is_prop→PathP (λ j. with_number (node_at ns (e j)).kind ≡ Some k) (λ j. Coded-set (coded_option coded_kind) _ _) x.kind y.kind j;
        len = is_prop→PathP (λ j. get_or ls (e j) 0 ≡ z) (λ j. ℕ_set _ _) x.len y.len j;
      }

  Named-prop : (s z i : ℕ) (k : Kind) (m : ℕ) → IsProp (Named ns ls o s z i k m)
  Named-prop s z i k m x y =
      let e : x.end ≡ y.end = Ends-prop s z i k x.end y.end in
      λ j. record { end = e j; name = is_prop→PathP (λ j. (node_at ns (e j).last).name ≡ m) (λ j. ℕ_set _ _) x.name y.name j }

  ExprAt-prop : (s : ℕ) (e : Expr) → IsProp (ExprAt ns ls o s e)
  ExprAt-prop s (truth b) = Ends-prop s 1 (o + s) Truth
  ExprAt-prop s (whole z) = Ends-prop s 1 (o + s) Whole
  ExprAt-prop s (read i m) = Named-prop s 1 i Read m
  ExprAt-prop s (plus i l r) =
      λ x y j. (Ends-prop s (size_expr l + size_expr r + 1) i Plus x.0 y.0 j, ExprAt-prop s l x.1 y.1 j, ExprAt-prop (s + size_expr l) r x.2 y.2 j)
  ExprAt-prop s (less i l r) =
      λ x y j. (Ends-prop s (size_expr l + size_expr r + 1) i Less x.0 y.0 j, ExprAt-prop s l x.1 y.1 j, ExprAt-prop (s + size_expr l) r x.2 y.2 j)
  ExprAt-prop s (or i l r) =
      λ x y j. (Ends-prop s (size_expr l + size_expr r + 1) i Or x.0 y.0 j, ExprAt-prop s l x.1 y.1 j, ExprAt-prop (s + size_expr l) r x.2 y.2 j)

  ArgsAt-prop : (s : ℕ) (xs : List Arg) → IsProp (ArgsAt ns ls o s xs)
  ArgsAt-prop s [] = Unit-prop
  ArgsAt-prop s (x ∷ xs) = ×_prop (Named-prop s 1 x.at Argument x.name) (ArgsAt-prop (s + 1) xs)

  DeclAt-prop : (s : ℕ) (d : Decl) → IsProp (DeclAt ns ls o s d)
  DeclAt-prop s d x y =
      let e : x.named ≡ y.named = Named-prop _ _ _ _ _ x.named y.named in
      λ j. record { named = e j; type = is_prop→PathP (λ j. type_of (node_at ns (e j).end.last).value ≡ d.type) (λ j. Coded-set coded_scalar _ _) x.type y.type j }

  DeclsAt-prop : (s : ℕ) (ds : List Decl) → IsProp (DeclsAt ns ls o s ds)
  DeclsAt-prop s [] = Unit-prop
  DeclsAt-prop s (d ∷ ds) = ×_prop (DeclAt-prop s d) (DeclsAt-prop (s + 1) ds)

  mutual
    pub ComAt-prop : (s : ℕ) (c : Com) → IsProp (ComAt ns ls o s c)
    ComAt-prop s (null i) = Ends-prop s 1 i Null
    ComAt-prop s (assign i m e) = ×_prop (Named-prop s (size_expr e + 1) i Assign m) (ExprAt-prop s e)
    ComAt-prop s (if i e c d) =
        λ x y j. (
          Ends-prop s (size_expr e + size c + size d + 1) i If x.0 y.0 j,
          ExprAt-prop s e x.1 y.1 j,
          ComAt-prop (s + size_expr e) c x.2 y.2 j,
          ComAt-prop (s + size_expr e + size c) d x.3 y.3 j,
        )
    ComAt-prop s (while i e c) =
        λ x y j. (Ends-prop s (size_expr e + size c + 1) i While x.0 y.0 j, ExprAt-prop s e x.1 y.1 j, ComAt-prop (s + size_expr e) c x.2 y.2 j)
    ComAt-prop s (call i m xs) =
        λ x y. let e : x.0 ≡ y.0 = Named-prop s (length xs + 1) i Call m x.0 y.0 in
        λ j. (e j, is_prop→PathP (λ j. (node_at ns (e j).end.last).a ≡ length xs) (λ j. ℕ_set _ _) x.1 y.1 j, ArgsAt-prop s xs x.2 y.2 j)
    ComAt-prop s (block i ds ps cs) =
        λ x y. let e : x.0 ≡ y.0 = Ends-prop s (length ds + size_procs ps + size_coms cs + 1) i Block x.0 y.0 in
        λ j. (
          e j,
          is_prop→PathP (λ j. (node_at ns (e j).last).a ≡ length ds) (λ j. ℕ_set _ _) x.1 y.1 j,
          is_prop→PathP (λ j. (node_at ns (e j).last).b ≡ how_many_procs ps) (λ j. ℕ_set _ _) x.2 y.2 j,
          is_prop→PathP (λ j. (node_at ns (e j).last).c ≡ how_many_coms cs) (λ j. ℕ_set _ _) x.3 y.3 j,
          DeclsAt-prop s ds x.4 y.4 j,
          ProcsAt-prop (s + length ds) ps x.5 y.5 j,
          ComsAt-prop (s + length ds + size_procs ps) cs x.6 y.6 j,
        )

    ProcsAt-prop : (s : ℕ) (ps : Procs) → IsProp (ProcsAt ns ls o s ps)
    ProcsAt-prop s pnil = Unit-prop
    ProcsAt-prop s (pcons i m fs c ps) =
        λ x y. let e : x.0.0 ≡ y.0.0 = Named-prop s (length fs + size c + 1) i Proc m x.0.0 y.0.0 in
        λ j. (
          (
            e j,
            is_prop→PathP (λ j. (node_at ns (e j).end.last).a ≡ length fs) (λ j. ℕ_set _ _) x.0.1 y.0.1 j,
            DeclsAt-prop s fs x.0.2 y.0.2 j,
            ComAt-prop (s + length fs) c x.0.3 y.0.3 j,
          ),
          ProcsAt-prop (s + (length fs + size c + 1)) ps x.1 y.1 j,
        )

    ComsAt-prop : (s : ℕ) (cs : Coms) → IsProp (ComsAt ns ls o s cs)
    ComsAt-prop s cnil = Unit-prop
    ComsAt-prop s (ccons c cs) = ×_prop (ComAt-prop s c) (ComsAt-prop (s + size c) cs)

-- a result is one value at most
abbrev Gives : Result Com Fault → Type 0
Gives b = (c : Com) × (b ≡ Ok c)

abbrev Alone : (c : Com) (b : Result Com Fault) → Ok c ≡ b → Type 0
Alone c (Ok d) q = ◌≡◌ {A = Gives (Ok c)} (c, refl) (d, q)
Alone c (Err f) q = Unit {0}

alone : (c : Com) (b : Result Com Fault) (q : Ok c ≡ b) → Alone c b q
alone c b q = path_j (Alone c) refl q

Gives-prop : (b : Result Com Fault) → IsProp (Gives b)
Gives-prop (Ok c) x y = sym (alone c (Ok x.0) x.1) ∙ alone c (Ok y.0) y.1
Gives-prop (Err f) x y = absurd (let z : ◌≡◌ {A = ℕ} 0 1 = cc x.1 in omega arith)

pub Lengths-prop : (ns : List Node) (ls : List ℕ) → IsProp (Lengths ns ls)
Lengths-prop ns ls x y =
    let e : ◌≡◌ {A = Gives (build ns)} (x.rule, x.built) (y.rule, y.built) = Gives-prop (build ns) (x.rule, x.built) (y.rule, y.built) in
    λ j. record {
      rule = (e j).0;
      built = (e j).1;
      stands = is_prop→PathP (λ j. ComAt ns ls 0 0 (e j).0) (λ j. ComAt-prop ns ls 0 0 (e j).0) x.stands y.stands j;
      whole = is_prop→PathP (λ j. size (e j).0 ≡ length ns) (λ j. ℕ_set _ _) x.whole y.whole j;
    }
