-- Where the lengths of a rule's pieces are noted, each node has its shape, and the trees of the nodes are the rule's.
use Rattle.std.proofs.Common.{◌≡◌, ℕ, zero, suc, ◌+◌, ◌-◌, ◌<◌, ◌≤◌, Bool, true, false, cond, ltb, List, [], ◌∷◌, ◌++◌, length, get_or, pos, Some, None, Option, sym, refl, ap, ◌∙◌, subst, ap₂, add-zero, zero-add, arith, ltb-false, ltb-true}
use Rattle.language.specs.declared.tables.Node.{Node}
use Rattle.language.specs.declared.tables.Kind.{Kind}
use Rattle.language.specs.declared.tables.Kind.TheVariants.{Truth, Whole, Read, Plus, Less, Or, Null, Assign, If, While, Call, Argument, Decl as DeclKind, Proc, Block}
use Rattle.language.specs.Tree.{Decl, Arg, Expr, Com, Procs, Coms, truth, whole, read, plus, less, or, null, assign, if, while, call, block, pnil, pcons, cnil, ccons}
use Rattle.language.specs.Table.{Piece, expr, comm, type_of}
use Rattle.language.specs.Spelling.{spell_expr, spell, spell_procs, spell_coms, how_many_procs, how_many_coms, size_expr, size, size_procs, size_coms}
use Rattle.table.specs.Stretches.{node_at, Ends, Named, ExprAt, ArgsAt, DeclAt, DeclsAt, ComAt, ProcsAt, ComsAt}
use Rattle.table.specs.Walk.{start_at}
use Rattle.table.specs.Measured.{Lengths}
use Rattle.language.proofs.Read.{built_exactly}
use Rattle.run.specs.Shapes.{kind_at, is_true, ExprKind, ComKind, decl_at, arg_at, row, decls_at, args_at, back, Forest, coms_at, procs_at, ProcsBefore, ComsBefore, PairShape, AssignShape, WhileShape, IfShape, BlockShape, ProcShape, Shaped, Trees}
use Rattle.run.proofs.Forests.{Both, both_whole, node_here, piece_here, cut_expr, cut_args, cut_decls, cut_com, cut_procs, cut_coms, cut_one, ended_expr, ended, ended_procs, ended_coms, com_of, expr_of, piece_at, forest}

-- ---- rows of one node each, from their first
row_cons : {A : Type 0} (piece : List Node → ℕ → A) (ns : List Node) (s n : ℕ) → row piece ns s (suc n) ≡ piece ns s ∷ row piece ns (s + 1) n
unfolding row
row_cons piece ns s zero = rw add-zero refl
row_cons piece ns s (suc n) =
    let e : s + suc n ≡ s + 1 + n = omega arith in
    rw (row_cons piece ns s n, e) refl

truth_spelled : (b : Bool) → is_true (pos (cond b 1 0)) ≡ b
truth_spelled true = refl
truth_spelled false = refl

module _ (ns : List Node) (ls : List ℕ) (F : Forest) where
  -- ---- the shape and the tree of a node, by its kind
  abbrev PairLaw : (ℕ → Expr → Expr → Expr) → ℕ → Type 0
  PairLaw make i = PairShape ns ls i × (F.expr i ≡ make i (F.expr (start_at ls (i - 1) - 1)) (F.expr (i - 1)))

  abbrev Law : ℕ → Option Kind → Type 0
  Law i None = Unit {0}
  Law i (Some Truth) = (start_at ls i ≡ i) × (F.expr i ≡ truth (is_true (node_at ns i).value))
  Law i (Some Whole) = (start_at ls i ≡ i) × (F.expr i ≡ whole (node_at ns i).value)
  Law i (Some Read) = (start_at ls i ≡ i) × (F.expr i ≡ read i (node_at ns i).name)
  Law i (Some Plus) = PairLaw plus i
  Law i (Some Less) = PairLaw less i
  Law i (Some Or) = PairLaw or i
  Law i (Some Null) = F.tree i ≡ null i
  Law i (Some Assign) = AssignShape ns ls i × (F.tree i ≡ assign i (node_at ns i).name (F.expr (i - 1)))
  Law i (Some If) =
      IfShape ns ls i
      × (F.tree i ≡ if i (F.expr (start_at ls (start_at ls (i - 1) - 1) - 1)) (F.tree (start_at ls (i - 1) - 1)) (F.tree (i - 1)))
  Law i (Some While) = WhileShape ns ls i × (F.tree i ≡ while i (F.expr (start_at ls (i - 1) - 1)) (F.tree (i - 1)))
  Law i (Some Call) =
      (start_at ls i + (node_at ns i).a ≤ i) × (F.tree i ≡ call i (node_at ns i).name (args_at ns (start_at ls i) (node_at ns i).a))
  Law i (Some Argument) = Unit {0}
  Law i (Some DeclKind) = Unit {0}
  Law i (Some Proc) = ProcShape ns ls i
  Law i (Some Block) =
      BlockShape ns ls i
      × (F.tree i ≡ block i (decls_at ns (start_at ls i) (node_at ns i).a)
      (procs_at ns ls F (back ls i (node_at ns i).c) (node_at ns i).b pnil) (coms_at ls F i (node_at ns i).c cnil))

  record Lawful (i : ℕ) : Type 0 where
    pub law : Law i (kind_at ns i)
    pub begins : start_at ls i ≤ i

  -- each node from s on, before e
  record Every (s e : ℕ) : Type 0 where
    pub each : (j : ℕ) → s ≤ j → j < e → Lawful j

  none : (s e : ℕ) → e ≡ s → Every s e
  none s e q = record { each = λ j lo hi. absurd (omega arith) }

  then : {s m e : ℕ} → Every s m → Every m e → Every s e
  then {s} {m} {e} l r = record { each = λ j lo hi. go j lo hi (ltb j m) refl }
    where
      go : (j : ℕ) → s ≤ j → j < e → (b : Bool) → ltb j m ≡ b → Lawful j
      go j lo hi true q = l.each j lo (ltb-true j m q)
      go j lo hi false q = r.each j (ltb-false j m q) hi

  -- ---- the last node of a piece
  record Closed (s e i : ℕ) (k : Kind) : Type 0 where
    pub ends : i + 1 ≡ e
    pub kind : kind_at ns i ≡ Some k
    pub starts : start_at ls i ≡ s
    pub less : s < e

  -- a piece's number is that of the node that ends it
  last_is : {s z i : ℕ} {k : Kind} (h : Ends ns ls 0 s z i k) → h.last ≡ i
  last_is h = omega (arith, h.number)

  closed : {s z i e : ℕ} {k : Kind} → e ≡ s + z → 1 ≤ z → Ends ns ls 0 s z i k → Closed s e i k
  closed {s} {z} {i} {e} {k} q le h =
      let w = last_is h in
      let l : get_or ls i 0 ≡ z = ap (λ (j : ℕ). get_or ls j 0) (sym w) ∙ h.len in
      record {
        ends = omega (arith, h.ends);
        kind = ap (kind_at ns) (sym w) ∙ h.kind;
        starts = omega (arith, h.ends);
        less = omega arith;
      }

  named : {s z i m : ℕ} {k : Kind} (h : Named ns ls 0 s z i k m) → (node_at ns i).name ≡ m
  named h = ap (λ (j : ℕ). (node_at ns j).name) (sym (last_is h.end)) ∙ h.name

  closes : {s e i : ℕ} {k : Kind} → Closed s e i k → Law i (Some k) → Every i e
  closes {s} {e} {i} {k} z l =
      let here : Lawful i = record { law = subst (Law i) (sym z.kind) l; begins = omega (arith, z.starts, z.ends, z.less) } in
      record { each = λ j lo hi. let q : i ≡ j = omega (arith, z.ends) in subst Lawful q here }

  -- ---- a piece right before e, from s on
  record Before {A : Type 0} (Fits : Option Kind → Type 0) (tree : ℕ → A) (e s : ℕ) (x : A) : Type 0 where
    pub some : 1 ≤ e
    pub kind : Fits (kind_at ns (e - 1))
    pub starts : start_at ls (e - 1) ≡ s
    pub less : s < e
    pub is : tree (e - 1) ≡ x

  abbrev ExprBefore : (e s : ℕ) → Expr → Type 0
  ExprBefore = Before ExprKind F.expr

  abbrev ComBefore : (e s : ℕ) → Com → Type 0
  ComBefore = Before ComKind F.tree

  record ProcBefore (e s i m : ℕ) (fs : List Decl) (c : Com) : Type 0 where
    pub some : 1 ≤ e
    pub kind : kind_at ns (e - 1) ≡ Some Proc
    pub starts : start_at ls (e - 1) ≡ s
    pub less : s < e
    pub number : e - 1 ≡ i
    pub name : (node_at ns (e - 1)).name ≡ m
    pub formals : decls_at ns s (node_at ns (e - 1)).a ≡ fs
    pub body : F.tree (e - 1 - 1) ≡ c

  done : {A : Type 0} {Fits : Option Kind → Type 0} {tree : ℕ → A} {s e i : ℕ} {k : Kind} {x : A} → Every s i → Closed s e i k → Law i (Some k)
      → Fits (Some k) → tree i ≡ x → Every s e × Before Fits tree e s x
  done {A} {Fits} {tree} {s} {e} {i} {k} {x} all z l so f =
      let q : i ≡ e - 1 = omega (arith, z.ends) in
      let b : Fits (kind_at ns i) = subst Fits (sym z.kind) so in (
        then all (closes z l),
        record {
          some = omega (arith, z.less);
          kind = subst (λ (j : ℕ). Fits (kind_at ns j)) q b;
          starts = subst (λ (j : ℕ). start_at ls j ≡ s) q z.starts;
          less = z.less;
          is = subst (λ (j : ℕ). tree j ≡ x) q f;
        },
      )

  -- ---- laws from the pieces
  pair_law : (make : ℕ → Expr → Expr → Expr) {s m e i : ℕ} {k : Kind} {l r : Expr} → Closed s e i k → ExprBefore m s l → ExprBefore i m r
      → F.expr i ≡ make i l r → PairLaw make i
  pair_law make z l r f = (
    record {
      right = r.some;
      right_kind = r.kind;
      left = rw r.starts l.some;
      left_kind = rw r.starts l.kind;
      from = rw (z.starts, r.starts, l.starts) refl;
    },
    f ∙ rw (r.starts, r.is, l.is) refl,
  )

  assign_law : {s e i m : ℕ} {x : Expr} → Closed s e i Assign → (node_at ns i).name ≡ m → ExprBefore i s x → F.tree i ≡ assign i m x
      → Law i (Some Assign)
  assign_law z n x f = (
    record { right = x.some; right_kind = x.kind; from = omega (arith, z.starts, x.starts) },
    f ∙ rw (n, x.is) refl,
  )

  while_law : {s m e i : ℕ} {x : Expr} {c : Com} → Closed s e i While → ExprBefore m s x → ComBefore i m c → F.tree i ≡ while i x c
      → Law i (Some While)
  while_law z x c f = (
    record {
      body = c.some;
      body_kind = c.kind;
      test = rw c.starts x.some;
      test_kind = rw c.starts x.kind;
      from = rw (z.starts, c.starts, x.starts) (omega arith);
    },
    f ∙ rw (c.starts, c.is, x.is) refl,
  )

  if_law : {s m n e i : ℕ} {x : Expr} {c d : Com} → Closed s e i If → ExprBefore m s x → ComBefore n m c → ComBefore i n d → F.tree i ≡ if i x c d
      → Law i (Some If)
  if_law z x c d f = (
    record {
      other = d.some;
      other_kind = d.kind;
      then = rw d.starts c.some;
      then_kind = rw d.starts c.kind;
      test = rw (d.starts, c.starts) x.some;
      test_kind = rw (d.starts, c.starts) x.kind;
      from = rw (z.starts, d.starts, c.starts, x.starts) (omega arith);
    },
    f ∙ rw (d.starts, c.starts, d.is, c.is, x.is) refl,
  )

  -- ---- rows of arguments and of declarations
  leaf : {s i : ℕ} {k : Kind} → Ends ns ls 0 s 1 i k → Law i (Some k) → Every s (s + 1)
  leaf {s} {i} {k} h l =
      let z : Closed s (s + 1) i k = closed refl (omega arith) h in
      let q : i ≡ s = omega (arith, z.ends) in
      subst (λ (j : ℕ). Every j (s + 1)) q (closes z l)

  row_laws : {A : Type 0} (piece : List Node → ℕ → A) (At : ℕ → List A → Type 0)
      → ((x : A) (xs : List A) (s : ℕ) → At s (x ∷ xs) → Every s (s + 1) × (x ≡ piece ns s) × At (s + 1) xs)
      → (xs : List A) (s e : ℕ) → e ≡ s + length xs → At s xs → Every s e × (xs ≡ row piece ns s (length xs))
  unfolding row
  row_laws piece At first [] s e q h = (none s e (omega arith), refl)
  row_laws piece At first (x ∷ xs) s e q h =
      let (here, is, rest) = first x xs s h in
      let (all, are) = row_laws piece At first xs (s + 1) e (omega arith) rest in
      (then here all, ap₂ ◌∷◌ is are ∙ sym (row_cons piece ns s (length xs)))

  arg_is : (x : Arg) (s : ℕ) → Named ns ls 0 s 1 x.at Argument x.name → x ≡ arg_at ns s
  arg_is x s h =
      let a : x.at ≡ s = omega (arith, h.end.number, h.end.ends) in
      let n : x.name ≡ (node_at ns s).name = sym (named h) ∙ ap (λ (j : ℕ). (node_at ns j).name) a in
      λ i. record { at = a i; name = n i }

  decl_is : (d : Decl) (s : ℕ) → DeclAt ns ls 0 s d → d ≡ decl_at ns s
  decl_is d s h =
      let a : d.at ≡ s = omega (arith, h.named.end.number, h.named.end.ends) in
      let l : h.named.end.last ≡ s = last_is h.named.end ∙ a in
      let n : d.name ≡ (node_at ns s).name = sym (named h.named) ∙ ap (λ (j : ℕ). (node_at ns j).name) a in
      let t : d.type ≡ type_of (node_at ns s).value = sym h.type ∙ ap (λ (j : ℕ). type_of (node_at ns j).value) l in
      λ i. record { at = a i; name = n i; type = t i }

  args_laws : (xs : List Arg) (s e : ℕ) → e ≡ s + length xs → ArgsAt ns ls 0 s xs → Every s e × (xs ≡ args_at ns s (length xs))
  args_laws = row_laws arg_at (ArgsAt ns ls 0) (λ x xs s h. (leaf h.0.end tt, arg_is x s h.0, h.1))

  decls_laws : (ds : List Decl) (s e : ℕ) → e ≡ s + length ds → DeclsAt ns ls 0 s ds → Every s e × (ds ≡ decls_at ns s (length ds))
  decls_laws = row_laws decl_at (DeclsAt ns ls 0) (λ d ds s h. (leaf h.0.named.end tt, decl_is d s h.0, h.1))

  -- ---- rows of commands and of procedures: one more in front
  back_last : (n e : ℕ) → back ls e (suc n) ≡ start_at ls (back ls e n - 1)
  unfolding back
  back_last zero e = refl
  back_last (suc n) e = back_last n (start_at ls (e - 1))

  coms_last : (n e : ℕ) (cs : Coms) → coms_at ls F e (suc n) cs ≡ ccons (F.tree (back ls e n - 1)) (coms_at ls F e n cs)
  unfolding back coms_at
  coms_last zero e cs = refl
  coms_last (suc n) e cs = coms_last n (start_at ls (e - 1)) (ccons (F.tree (e - 1)) cs)

  -- the n commands before e begin at s
  record ComsRow (s e n : ℕ) (cs : Coms) : Type 0 where
    pub begins : back ls e n ≡ s
    pub low : s ≤ e
    pub stand : ComsBefore ns ls s e n
    pub are : coms_at ls F e n cnil ≡ cs

  coms_stand : {s t : ℕ} {c : Com} (n e : ℕ) → back ls e n ≡ t → ComBefore t s c → ComsBefore ns ls t e n → ComsBefore ns ls s e (suc n)
  unfolding back
  coms_stand {s} {t} {c} zero e b h r =
      let k : ComBefore e s c = subst (λ (j : ℕ). ComBefore j s c) (sym b) h in
      (k.some, k.kind, omega (arith, k.starts), omega (arith, k.starts, k.less), omega (arith, k.starts))
  coms_stand (suc n) e b h r = (r.0, r.1, omega (arith, r.2, h.less), r.3, coms_stand n (start_at ls (e - 1)) b h r.4)

  coms_none : (s e : ℕ) → e ≡ s → ComsRow s e 0 cnil
  unfolding back coms_at
  coms_none s e q = record { begins = q; low = omega arith; stand = omega arith; are = refl }

  coms_more : {s t e n : ℕ} {c : Com} {cs : Coms} → ComBefore t s c → ComsRow t e n cs → ComsRow s e (suc n) (ccons c cs)
  coms_more {s} {t} {e} {n} {c} {cs} h r =
      record {
        begins = back_last n e ∙ rw r.begins h.starts;
        low = omega (arith, h.less, r.low);
        stand = coms_stand n e r.begins h r.stand;
        are = coms_last n e cnil ∙ rw (r.begins, h.is, r.are) refl;
      }

  procs_last : (n e : ℕ) (ps : Procs) → procs_at ns ls F e (suc n) ps
      ≡ (let b = back ls e n in
      pcons (b - 1) (node_at ns (b - 1)).name (decls_at ns (start_at ls (b - 1)) (node_at ns (b - 1)).a) (F.tree (b - 1 - 1)) (procs_at ns ls F e n ps))
  unfolding back procs_at
  procs_last zero e ps = refl
  procs_last (suc n) e ps = procs_last n (start_at ls (e - 1)) _

  -- the n procedures before e begin at s
  record ProcsRow (s e n : ℕ) (ps : Procs) : Type 0 where
    pub begins : back ls e n ≡ s
    pub low : s ≤ e
    pub stand : ProcsBefore ns ls e n
    pub are : procs_at ns ls F e n pnil ≡ ps

  procs_stand : {s t i m : ℕ} {fs : List Decl} {c : Com} (n e : ℕ) → back ls e n ≡ t → ProcBefore t s i m fs c → ProcsBefore ns ls e n
      → ProcsBefore ns ls e (suc n)
  unfolding back
  procs_stand {s} {t} {i} {m} {fs} {c} zero e b h r =
      let k : ProcBefore e s i m fs c = subst (λ (j : ℕ). ProcBefore j s i m fs c) (sym b) h in
      (k.some, k.kind, omega (arith, k.starts, k.less), tt)
  procs_stand (suc n) e b h r = (r.0, r.1, r.2, procs_stand n (start_at ls (e - 1)) b h r.3)

  procs_none : (s e : ℕ) → e ≡ s → ProcsRow s e 0 pnil
  unfolding back procs_at
  procs_none s e q = record { begins = q; low = omega arith; stand = tt; are = refl }

  procs_more : {s t e n i m : ℕ} {fs : List Decl} {c : Com} {ps : Procs} → ProcBefore t s i m fs c → ProcsRow t e n ps
      → ProcsRow s e (suc n) (pcons i m fs c ps)
  procs_more {s} {t} {e} {n} {i} {m} {fs} {c} {ps} h r =
      record {
        begins = back_last n e ∙ rw r.begins h.starts;
        low = omega (arith, h.less, r.low);
        stand = procs_stand n e r.begins h r.stand;
        are = procs_last n e pnil ∙ rw (r.begins, h.starts, h.formals, h.name, h.body, r.are, h.number) refl;
      }

  -- ---- laws from rows
  call_law : {s e i m : ℕ} {xs : List Arg} → Closed s e i Call → (node_at ns i).name ≡ m → (node_at ns i).a ≡ length xs → i ≡ s + length xs
      → xs ≡ args_at ns s (length xs) → F.tree i ≡ call i m xs → Law i (Some Call)
  call_law z n a q r f = (omega (arith, z.starts), f ∙ rw (z.starts, n, a, ← r) refl)

  block_law : {s m t e i : ℕ} {ds : List Decl} {ps : Procs} {cs : Coms} → Closed s e i Block → (node_at ns i).a ≡ length ds → m ≡ s + length ds
      → ds ≡ decls_at ns s (length ds) → ProcsRow m t (node_at ns i).b ps → ComsRow t i (node_at ns i).c cs → F.tree i ≡ block i ds ps cs
      → Law i (Some Block)
  block_law {s} {m} {t} {e} {i} {ds} {ps} {cs} z a q r p c f = (
    record {
      commands = subst (λ (j : ℕ). ComsBefore ns ls j i (node_at ns i).c) (sym c.begins) c.stand;
      procedures = subst (λ (j : ℕ). ProcsBefore ns ls j (node_at ns i).b) (sym c.begins) p.stand;
      declarations = rw (c.begins, p.begins) (omega (arith, z.starts));
    },
    f ∙ rw (z.starts, c.begins, p.are, c.are, a, ← r) refl,
  )

  proc_law : {s m e i k : ℕ} {c : Com} → Closed s e i Proc → (node_at ns i).a ≡ k → m ≡ s + k → ComBefore i m c
      → Law i (Some Proc)
  proc_law z a q c = record { body = c.some; body_kind = c.kind; formals = omega (arith, z.starts, c.starts) }

  proc_done : {s m e i n : ℕ} {fs : List Decl} {c : Com} → Closed s e i Proc → (node_at ns i).name ≡ n → (node_at ns i).a ≡ length fs
      → fs ≡ decls_at ns s (length fs) → ComBefore i m c → ProcBefore e s i n fs c
  proc_done {s} {m} {e} {i} {n} {fs} {c} z h a r b =
      let q : i ≡ e - 1 = omega (arith, z.ends) in
      record {
        some = omega (arith, z.less);
        kind = rw (← q) z.kind;
        starts = rw (← q) z.starts;
        less = z.less;
        number = sym q;
        name = rw (← q) h;
        formals = rw (← q, a) (sym r);
        body = rw (← q) b.is;
      }

  -- ---- every node of a piece, where the forest has what the nodes end
  module _ (all : List Piece) (trees : (i : ℕ) → F.tree i ≡ com_of (piece_at all i)) (exprs : (i : ℕ) → F.expr i ≡ expr_of (piece_at all i)) where
    expr_here : {x : Expr} {xs : List Node} {ys : List Piece} (i s : ℕ) → i ≡ s → Both ns all s xs (expr x ∷ ys) → F.expr i ≡ x
    expr_here i s q p = exprs i ∙ ap expr_of (piece_here i q p)

    com_here : {c : Com} {xs : List Node} {ys : List Piece} (i s : ℕ) → i ≡ s → Both ns all s xs (comm c ∷ ys) → F.tree i ≡ c
    com_here i s q p = trees i ∙ ap com_of (piece_here i q p)

    abbrev ExprLawful : Expr → ℕ → Type 0
    ExprLawful x s = (e : ℕ) → e ≡ s + size_expr x → Both ns all s (spell_expr x) (ended_expr x) → Every s e × ExprBefore e s x

    pair_laws : (make : ℕ → Expr → Expr → Expr) (k : Kind) (i s e : ℕ) (l r : Expr) (n : Node) → (PairLaw make i → Law i (Some k)) → ExprKind (Some k)
        → e ≡ s + (size_expr l + size_expr r + 1) → Ends ns ls 0 s (size_expr l + size_expr r + 1) i k
        → ExprLawful l s → ExprLawful r (s + size_expr l)
        → Both ns all s (spell_expr l ++ (spell_expr r ++ (n ∷ []))) (ended_expr l ++ (ended_expr r ++ (expr (make i l r) ∷ [])))
        → Every s e × ExprBefore e s (make i l r)
    pair_laws make k i s e l r n law so q h left right p =
        let z : Closed s e i k = closed q (omega arith) h in
        let w : i ≡ s + size_expr l + size_expr r = omega (arith, z.ends) in
        let (a, b) = cut_expr l _ _ p in
        let (c, d) = cut_expr r _ _ b in
        let x = left (s + size_expr l) refl a in
        let y = right i w c in
        let f : F.expr i ≡ make i l r = expr_here i _ w d in
        done (then x.0 y.0) z (law (pair_law make z x.1 y.1 f)) so f

    expr_laws : (x : Expr) (s : ℕ) → ExprAt ns ls 0 s x → ExprLawful x s
    expr_laws (truth b) s h e q p =
        let z : Closed s e s Truth = closed q (omega arith) (rw zero-add at h) in
        let f : F.expr s ≡ truth b = expr_here s s refl p in
        let v : is_true (node_at ns s).value ≡ b = ap (λ (n : Node). is_true n.value) (node_here s refl p) ∙ truth_spelled b in
        done (none s s refl) z (z.starts, f ∙ ap truth (sym v)) tt f
    expr_laws (whole v) s h e q p =
        let z : Closed s e s Whole = closed q (omega arith) (rw zero-add at h) in
        let f : F.expr s ≡ whole v = expr_here s s refl p in
        done (none s s refl) z (z.starts, f ∙ ap (λ (n : Node). whole n.value) (sym (node_here s refl p))) tt f
    expr_laws (read i m) s h e q p =
        let z : Closed s e i Read = closed q (omega arith) h.end in
        let w : i ≡ s = omega (arith, z.ends) in
        let f : F.expr i ≡ read i m = expr_here i s w p in
        done (none s i w) z (z.starts ∙ sym w, f ∙ ap (read i) (sym (named h))) tt f
    expr_laws (plus i l r) s h e q p =
        pair_laws plus Plus i s e l r _ (λ x. x) tt q h.0 (expr_laws l s h.1) (expr_laws r (s + size_expr l) h.2) p
    expr_laws (less i l r) s h e q p =
        pair_laws less Less i s e l r _ (λ x. x) tt q h.0 (expr_laws l s h.1) (expr_laws r (s + size_expr l) h.2) p
    expr_laws (or i l r) s h e q p =
        pair_laws or Or i s e l r _ (λ x. x) tt q h.0 (expr_laws l s h.1) (expr_laws r (s + size_expr l) h.2) p

    mutual
      com_laws : (c : Com) (s : ℕ) → ComAt ns ls 0 s c → (e : ℕ) → e ≡ s + size c → Both ns all s (spell c) (ended c) → Every s e × ComBefore e s c
      com_laws (null i) s h e q p =
          let z : Closed s e i Null = closed q (omega arith) h in
          let w : i ≡ s = omega (arith, z.ends) in
          let f : F.tree i ≡ null i = com_here i s w p in
          done (none s i w) z f tt f
      com_laws (assign i m x) s h e q p =
          let z : Closed s e i Assign = closed q (omega arith) h.0.end in
          let w : i ≡ s + size_expr x = omega (arith, z.ends) in
          let (a, b) = cut_expr x _ _ p in
          let r = expr_laws x s h.1 i w a in
          let f : F.tree i ≡ assign i m x = com_here i _ w b in
          done r.0 z (assign_law z (named h.0) r.1 f) tt f
      com_laws (if i x c d) s h e q p =
          let z : Closed s e i If = closed q (omega arith) h.0 in
          let w : i ≡ s + size_expr x + size c + size d = omega (arith, z.ends) in
          let (a₁, b₁) = cut_expr x _ _ p in
          let (a₂, b₂) = cut_com c _ _ b₁ in
          let (a₃, b₃) = cut_com d _ _ b₂ in
          let r₁ = expr_laws x s h.1 (s + size_expr x) refl a₁ in
          let r₂ = com_laws c (s + size_expr x) h.2 (s + size_expr x + size c) refl a₂ in
          let r₃ = com_laws d (s + size_expr x + size c) h.3 i w a₃ in
          let f : F.tree i ≡ if i x c d = com_here i _ w b₃ in
          done (then (then r₁.0 r₂.0) r₃.0) z (if_law z r₁.1 r₂.1 r₃.1 f) tt f
      com_laws (while i x c) s h e q p =
          let z : Closed s e i While = closed q (omega arith) h.0 in
          let w : i ≡ s + size_expr x + size c = omega (arith, z.ends) in
          let (a₁, b₁) = cut_expr x _ _ p in
          let (a₂, b₂) = cut_com c _ _ b₁ in
          let r₁ = expr_laws x s h.1 (s + size_expr x) refl a₁ in
          let r₂ = com_laws c (s + size_expr x) h.2 i w a₂ in
          let f : F.tree i ≡ while i x c = com_here i _ w b₂ in
          done (then r₁.0 r₂.0) z (while_law z r₁.1 r₂.1 f) tt f
      com_laws (call i m xs) s h e q p =
          let z : Closed s e i Call = closed q (omega arith) h.0.end in
          let w : i ≡ s + length xs = omega (arith, z.ends) in
          let n : (node_at ns i).a ≡ length xs = ap (λ (j : ℕ). (node_at ns j).a) (sym (last_is h.0.end)) ∙ h.1 in
          let r = args_laws xs s i w h.2 in
          let f : F.tree i ≡ call i m xs = com_here i _ w (cut_args xs _ _ p) in
          done r.0 z (call_law z (named h.0) n w r.1 f) tt f
      com_laws (block i ds ps cs) s h e q p =
          let z : Closed s e i Block = closed q (omega arith) h.0 in
          let w : i ≡ s + length ds + size_procs ps + size_coms cs = omega (arith, z.ends) in
          let l = sym (last_is h.0) in
          let a : (node_at ns i).a ≡ length ds = ap (λ (j : ℕ). (node_at ns j).a) l ∙ h.1 in
          let b : how_many_procs ps ≡ (node_at ns i).b = sym (ap (λ (j : ℕ). (node_at ns j).b) l ∙ h.2) in
          let c : how_many_coms cs ≡ (node_at ns i).c = sym (ap (λ (j : ℕ). (node_at ns j).c) l ∙ h.3) in
          let p₁ = cut_decls ds _ _ p in
          let (a₂, p₂) = cut_procs ps _ _ p₁ in
          let (a₃, p₃) = cut_coms cs _ _ p₂ in
          let r₁ = decls_laws ds s (s + length ds) refl h.4 in
          let r₂ = procs_laws ps (s + length ds) h.5 (s + length ds + size_procs ps) refl a₂ in
          let r₃ = coms_laws cs (s + length ds + size_procs ps) h.6 i w a₃ in
          let f : F.tree i ≡ block i ds ps cs = com_here i _ w p₃ in
          let rows_p = subst (λ (n : ℕ). ProcsRow (s + length ds) (s + length ds + size_procs ps) n ps) b r₂.1 in
          let rows_c = subst (λ (n : ℕ). ComsRow (s + length ds + size_procs ps) i n cs) c r₃.1 in
          done (then (then r₁.0 r₂.0) r₃.0) z (block_law z a refl r₁.1 rows_p rows_c f) tt f

      procs_laws : (ps : Procs) (s : ℕ) → ProcsAt ns ls 0 s ps → (e : ℕ) → e ≡ s + size_procs ps → Both ns all s (spell_procs ps) (ended_procs ps)
          → Every s e × ProcsRow s e (how_many_procs ps) ps
      procs_laws pnil s h e q p = (none s e (omega arith), procs_none s e (omega arith))
      procs_laws (pcons i m fs c ps) s h e q p =
          let z : Closed s (s + (length fs + size c + 1)) i Proc = closed refl (omega arith) h.0.0.end in
          let w : i ≡ s + length fs + size c = omega (arith, z.ends) in
          let n : (node_at ns i).a ≡ length fs = ap (λ (j : ℕ). (node_at ns j).a) (sym (last_is h.0.0.end)) ∙ h.0.1 in
          let (a₂, p₂) = cut_com c _ _ (cut_decls fs _ _ p) in
          let t : s + length fs + size c + 1 ≡ s + (length fs + size c + 1) = omega arith in
          let a₃ = subst (λ (j : ℕ). Both ns all j (spell_procs ps) (ended_procs ps)) t (cut_one p₂) in
          let r₁ = decls_laws fs s (s + length fs) refl h.0.2 in
          let r₂ = com_laws c (s + length fs) h.0.3 i w a₂ in
          let r₃ = procs_laws ps (s + (length fs + size c + 1)) h.1 e (omega arith) a₃ in
          let d = proc_done z (named h.0.0) n r₁.1 r₂.1 in
          let k : suc (how_many_procs ps) ≡ 1 + how_many_procs ps = omega arith in (
            then (then (then r₁.0 r₂.0) (closes z (proc_law z n refl r₂.1))) r₃.0,
            subst (λ (j : ℕ). ProcsRow s e j (pcons i m fs c ps)) k (procs_more d r₃.1),
          )

      coms_laws : (cs : Coms) (s : ℕ) → ComsAt ns ls 0 s cs → (e : ℕ) → e ≡ s + size_coms cs → Both ns all s (spell_coms cs) (ended_coms cs)
          → Every s e × ComsRow s e (how_many_coms cs) cs
      coms_laws cnil s h e q p = (none s e (omega arith), coms_none s e (omega arith))
      coms_laws (ccons c cs) s h e q p =
          let (a, b) = cut_com c _ _ p in
          let r₁ = com_laws c s h.0 (s + size c) refl a in
          let r₂ = coms_laws cs (s + size c) h.1 e (omega arith) b in
          let k : suc (how_many_coms cs) ≡ 1 + how_many_coms cs = omega arith in
          (then r₁.0 r₂.0, subst (λ (j : ℕ). ComsRow s e j (ccons c cs)) k (coms_more r₁.1 r₂.1))

  -- ---- all nodes
  law_of : Every 0 (length ns) → (i : ℕ) → i < length ns → (k : Kind) → kind_at ns i ≡ Some k → Law i (Some k)
  law_of all i h k q = subst (Law i) q (all.each i (omega arith) h).law

  shaped : length ls ≡ length ns → Every 0 (length ns) → Shaped ns ls
  shaped long all =
      record {
        size = long;
        begins = λ i h. (all.each i (omega arith) h).begins;
        of_truth = λ i h q. (law_of all i h Truth q).0;
        of_whole = λ i h q. (law_of all i h Whole q).0;
        of_read = λ i h q. (law_of all i h Read q).0;
        of_plus = λ i h q. (law_of all i h Plus q).0;
        of_less = λ i h q. (law_of all i h Less q).0;
        of_or = λ i h q. (law_of all i h Or q).0;
        of_assign = λ i h q. (law_of all i h Assign q).0;
        of_if = λ i h q. (law_of all i h If q).0;
        of_while = λ i h q. (law_of all i h While q).0;
        of_call = λ i h q. (law_of all i h Call q).0;
        of_proc = λ i h q. law_of all i h Proc q;
        of_block = λ i h q. (law_of all i h Block q).0;
      }

  trees_are : Every 0 (length ns) → Trees ns ls F
  trees_are all =
      record {
        truths = λ i h q. (law_of all i h Truth q).1;
        wholes = λ i h q. (law_of all i h Whole q).1;
        reads = λ i h q. (law_of all i h Read q).1;
        pluses = λ i h q. (law_of all i h Plus q).1;
        lesses = λ i h q. (law_of all i h Less q).1;
        ors = λ i h q. (law_of all i h Or q).1;
        nulls = λ i h q. law_of all i h Null q;
        assigns = λ i h q. (law_of all i h Assign q).1;
        ifs = λ i h q. (law_of all i h If q).1;
        whiles = λ i h q. (law_of all i h While q).1;
        calls = λ i h q. (law_of all i h Call q).1;
        blocks = λ i h q. (law_of all i h Block q).1;
      }

pub standing : (ns : List Node) (ls : List ℕ) → length ls ≡ length ns → (g : Lengths ns ls)
    → (0 < length ns) × Shaped ns ls × ComKind (kind_at ns (length ns - 1)) × ((F : Forest) × Trees ns ls F × (F.tree (length ns - 1) ≡ g.rule))
standing ns ls long g =
    let c = g.rule in
    let F : Forest = forest (ended c) in
    let p = both_whole ns c ((built_exactly ns c).0 g.built).0 in
    let q : length ns ≡ 0 + size c = omega (arith, g.whole) in
    let r = com_laws ns ls F (ended c) (λ i. refl) (λ i. refl) c 0 g.stands (length ns) q p in
    (r.1.some, shaped ns ls F long r.0, r.1.kind, (F, trees_are ns ls F r.0, r.1.is))
