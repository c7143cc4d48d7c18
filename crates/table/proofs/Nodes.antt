-- One node more: the step of the code beside the one of the definition.
use Rattle.std.proofs.Common.{◌≡◌, ℕ, ◌+◌, List, [], ◌∷◌, length, get_or, Some, None, Option, sym, refl, ◌∙◌, arith}
use Rattle.language.specs.declared.tables.Node.{Node}
use Rattle.language.specs.declared.tables.Kind.{Kind}
use Rattle.language.specs.declared.tables.Kind.TheVariants.{Truth, Whole, Read, Plus, Less, Or, Null, Assign, If, While, Call, Argument, Decl as DeclKind, Proc, Block}
use Rattle.language.specs.Kinds.{with_number}
use Rattle.language.specs.Results.{◌>>?◌}
use Rattle.language.specs.Tree.{Decl, Arg, Expr, Com, Procs, Coms, plus, less, or, assign, if, while, call, block, pnil, pcons, cnil, ccons}
use Rattle.language.specs.Table.{Piece, expr, comm, arg, dec, pro, Stack, as_expr_piece, as_com_piece, as_arg_piece, as_decl_piece, as_proc_piece, pop, pops, two, take_pieces}
use Rattle.language.specs.Spelling.{how_many_procs, how_many_coms, size_expr, size, size_procs, size_coms}
use Rattle.table.specs.declared.node.Sort.TheVariants.{Expression, Command, Argument as ArgumentSort, Declaration, Procedure}
use Rattle.table.specs.Walk.{step_back, start_of}
use Rattle.table.specs.Stretches.{node_at, Ends, Named, ExprAt, ArgsAt, DeclAt, DeclsAt, ComAt, ProcAt, ProcsAt, ComsAt}
use Rattle.table.specs.Pieces.{size_piece, PieceAt, Stacked}
use Rattle.table.proofs.Frames.{piece_sort, Alike, expr_frame, args_frame, decls_frame, com_frame, procs_frame, coms_frame}
use Rattle.table.proofs.Pops.{Tells, tells_one, tells_other, Family, Pop1, PopN, stops, goes, stops_n, goes_n, pop1, popn, bind_off}

module _ (ns : List Node) (ls : List ℕ) where
  abbrev exprs : Family ns ls Expr (ℕ × ℕ)
  exprs = record {
    so = Expression;
    pick = as_expr_piece;
    add = λ a b. (size_expr a + b.0, b.1 + 1);
    size_a = size_expr;
    size_b = λ b. b.0;
    count = λ b. b.1;
    Ra = ExprAt ns ls 0;
    RB = λ s b. Unit {0};
    tells = λ s p h. tell s p h;
    joins = λ s a b x y. tt;
    adds = λ a b. refl;
    counts = λ a b. refl;
  }
    where
      tell : (s : ℕ) (p : Piece) → PieceAt ns ls s p → Tells (as_expr_piece p) Expression (piece_sort p) (size_piece p) size_expr (ExprAt ns ls 0 s)
      tell s (expr e) h = tells_one e refl refl h refl
      tell s (comm c) h = tells_other refl (λ z. omega arith)
      tell s (arg x) h = tells_other refl (λ z. omega arith)
      tell s (dec d) h = tells_other refl (λ z. omega arith)
      tell s (pro i m fs c) h = tells_other refl (λ z. omega arith)

  abbrev pub coms : Family ns ls Com Coms
  coms = record {
    so = Command;
    pick = as_com_piece;
    add = ccons;
    size_a = size;
    size_b = size_coms;
    count = how_many_coms;
    Ra = ComAt ns ls 0;
    RB = ComsAt ns ls 0;
    tells = λ s p h. tell s p h;
    joins = λ s a b x y. (x, y);
    adds = λ a b. refl;
    counts = λ a b. omega arith;
  }
    where
      tell : (s : ℕ) (p : Piece) → PieceAt ns ls s p → Tells (as_com_piece p) Command (piece_sort p) (size_piece p) size (ComAt ns ls 0 s)
      tell s (expr e) h = tells_other refl (λ z. omega arith)
      tell s (comm c) h = tells_one c refl refl h refl
      tell s (arg x) h = tells_other refl (λ z. omega arith)
      tell s (dec d) h = tells_other refl (λ z. omega arith)
      tell s (pro i m fs c) h = tells_other refl (λ z. omega arith)

  abbrev args : Family ns ls Arg (List Arg)
  args = record {
    so = ArgumentSort;
    pick = as_arg_piece;
    add = ◌∷◌;
    size_a = λ a. 1;
    size_b = λ b. length b;
    count = λ b. length b;
    Ra = λ s x. Named ns ls 0 s 1 x.at Argument x.name;
    RB = ArgsAt ns ls 0;
    tells = λ s p h. tell s p h;
    joins = λ s a b x y. (x, y);
    adds = λ a b. omega arith;
    counts = λ a b. omega arith;
  }
    where
      tell : (s : ℕ) (p : Piece) → PieceAt ns ls s p → Tells (as_arg_piece p) ArgumentSort (piece_sort p) (size_piece p) (λ a. 1) (λ x. Named ns ls 0 s 1 x.at Argument x.name)
      tell s (expr e) h = tells_other refl (λ z. omega arith)
      tell s (comm c) h = tells_other refl (λ z. omega arith)
      tell s (arg x) h = tells_one x refl refl h refl
      tell s (dec d) h = tells_other refl (λ z. omega arith)
      tell s (pro i m fs c) h = tells_other refl (λ z. omega arith)

  abbrev decls : Family ns ls Decl (List Decl)
  decls = record {
    so = Declaration;
    pick = as_decl_piece;
    add = ◌∷◌;
    size_a = λ a. 1;
    size_b = λ b. length b;
    count = λ b. length b;
    Ra = DeclAt ns ls 0;
    RB = DeclsAt ns ls 0;
    tells = λ s p h. tell s p h;
    joins = λ s a b x y. (x, y);
    adds = λ a b. omega arith;
    counts = λ a b. omega arith;
  }
    where
      tell : (s : ℕ) (p : Piece) → PieceAt ns ls s p → Tells (as_decl_piece p) Declaration (piece_sort p) (size_piece p) (λ a. 1) (DeclAt ns ls 0 s)
      tell s (expr e) h = tells_other refl (λ z. omega arith)
      tell s (comm c) h = tells_other refl (λ z. omega arith)
      tell s (arg x) h = tells_other refl (λ z. omega arith)
      tell s (dec d) h = tells_one d refl refl h refl
      tell s (pro i m fs c) h = tells_other refl (λ z. omega arith)

  abbrev procs : Family ns ls (ℕ × ℕ × List Decl × Com) Procs
  procs = record {
    so = Procedure;
    pick = as_proc_piece;
    add = λ p ps. pcons p.0 p.1 p.2 p.3 ps;
    size_a = λ p. length p.2 + size p.3 + 1;
    size_b = size_procs;
    count = how_many_procs;
    Ra = λ s p. ProcAt ns ls 0 s p.0 p.1 p.2 p.3;
    RB = ProcsAt ns ls 0;
    tells = λ s p h. tell s p h;
    joins = λ s a b x y. (x, y);
    adds = λ a b. refl;
    counts = λ a b. omega arith;
  }
    where
      tell : (s : ℕ) (p : Piece) → PieceAt ns ls s p → Tells (as_proc_piece p) Procedure (piece_sort p) (size_piece p) (λ p. length p.2 + size p.3 + 1) (λ p. ProcAt ns ls 0 s p.0 p.1 p.2 p.3)
      tell s (expr e) h = tells_other refl (λ z. omega arith)
      tell s (comm c) h = tells_other refl (λ z. omega arith)
      tell s (arg x) h = tells_other refl (λ z. omega arith)
      tell s (dec d) h = tells_other refl (λ z. omega arith)
      tell s (pro i m fs c) h = tells_one (i, m, fs, c) refl refl h refl

  module _ (i : ℕ) where
    -- the start that the code finds, beside the stack that the definition has
    pub data Stepped (o : Option ℕ) (t : Option Stack) : Type 0 where
      halts : o ≡ None → t ≡ None → Stepped o t
      moves : (s : ℕ) (p : Piece) (st : Stack) → o ≡ Some s → t ≡ Some (p ∷ st) → i + 1 ≡ s + size_piece p
          → ((ms : List ℕ) → Alike ls ms i → get_or ms i 0 ≡ size_piece p → PieceAt ns ms s p) → Stacked ns ls s st → Stepped o t

    module _ {A B : Type 0} (F : Family ns ls A B) where
      then1 : {o : Option ℕ} {t : Option (A × Stack)} {e : ℕ} (K : ℕ → Option ℕ) (T : A × Stack → Option Stack) → Pop1 ns ls F o t e
          → ((a : A) (s : ℕ) (st : Stack) → F.Ra s a → e ≡ s + F.size_a a → Stacked ns ls s st → Stepped (K s) (T (a, st)))
          → Stepped (o >>? K) (t >>? T)
      then1 K T (stops p q) k = halts (bind_off K p) (bind_off T q)
      then1 K T (goes a s st p q ra z h) k = rw (p, q) (k a s st ra z h)

      last1 : {o : Option ℕ} {t : Option (A × Stack)} {e : ℕ} (T : A × Stack → Option Stack) → Pop1 ns ls F o t e
          → ((a : A) (s : ℕ) (st : Stack) → F.Ra s a → e ≡ s + F.size_a a → Stacked ns ls s st → Stepped (Some s) (T (a, st)))
          → Stepped o (t >>? T)
      last1 T (stops p q) k = halts p (bind_off T q)
      last1 T (goes a s st p q ra z h) k = rw (p, q) (k a s st ra z h)

      then_n : {o : Option ℕ} {t : Option (B × Stack)} {e n : ℕ} (K : ℕ → Option ℕ) (T : B × Stack → Option Stack) → PopN ns ls F o t e n
          → ((b : B) (s : ℕ) (st : Stack) → F.RB s b → s + F.size_b b ≡ e → F.count b ≡ n → Stacked ns ls s st → Stepped (K s) (T (b, st)))
          → Stepped (o >>? K) (t >>? T)
      then_n K T (stops_n p q) k = halts (bind_off K p) (bind_off T q)
      then_n K T (goes_n b s st p q rb z n h) k = rw (p, q) (k b s st rb z n h)

      last_n : {o : Option ℕ} {t : Option (B × Stack)} {e n : ℕ} (T : B × Stack → Option Stack) → PopN ns ls F o t e n
          → ((b : B) (s : ℕ) (st : Stack) → F.RB s b → s + F.size_b b ≡ e → F.count b ≡ n → Stacked ns ls s st → Stepped (Some s) (T (b, st)))
          → Stepped o (t >>? T)
      last_n T (stops_n p q) k = halts p (bind_off T q)
      last_n T (goes_n b s st p q rb z n h) k = rw (p, q) (k b s st rb z n h)

    abbrev ended : {ms : List ℕ} {s z : ℕ} {k : Kind} → with_number (node_at ns i).kind ≡ Some k → i + 1 ≡ s + z → get_or ms i 0 ≡ z → Ends ns ms 0 s z i k
    ended q e l = record { last = i; ends = e; number = omega arith; kind = q; len = l }

    abbrev named : {ms : List ℕ} {s z : ℕ} {k : Kind} → with_number (node_at ns i).kind ≡ Some k → i + 1 ≡ s + z → get_or ms i 0 ≡ z
        → Named ns ms 0 s z i k (node_at ns i).name
    named q e l = record { end = ended q e l; name = refl }

    two_steps : (k : Kind) (f : Expr → Expr → Expr) → with_number (node_at ns i).kind ≡ Some k
        → ((l r : Expr) → size_expr (f l r) ≡ size_expr l + size_expr r + 1)
        → ((ms : List ℕ) (s : ℕ) (l r : Expr) → Ends ns ms 0 s (size_expr l + size_expr r + 1) i k → ExprAt ns ms 0 s l → ExprAt ns ms 0 (s + size_expr l) r → ExprAt ns ms 0 s (f l r))
        → (st : Stack) → Stacked ns ls i st → Stepped (step_back ns ls Expression i >>? step_back ns ls Expression) (two st f)
    two_steps k f q zf at st h =
        then1 exprs _ (λ r. pop as_expr_piece r.1 >>? λ l. Some (expr (f l.0 r.0) ∷ l.1)) (pop1 ns ls exprs i st h)
        (λ r s₁ st₁ hr e₁ h₁.
        last1 exprs (λ l. Some (expr (f l.0 r) ∷ l.1)) (pop1 ns ls exprs s₁ st₁ h₁)
        (λ l s₂ st₂ hl e₂ h₂.
        moves s₂ (expr (f l r)) st₂ refl refl (omega (arith, zf l r))
        (λ ms same len.
        at ms s₂ l r (ended q (omega arith) (len ∙ zf l r))
        (expr_frame ns ls ms 0 l s₂ (λ k lt. same k (omega arith)) hl)
        (rw (sym e₂) (expr_frame ns ls ms 0 r s₁ (λ k lt. same k (omega arith)) hr)))
        h₂))

    pub steps : (k : Kind) → with_number (node_at ns i).kind ≡ Some k → (st : Stack) → Stacked ns ls i st → Stepped (start_of k (node_at ns i) ns ls i) (take_pieces k i (node_at ns i) st)
    steps Truth q st h = moves i _ st refl refl refl (λ ms f l. record { last = i; ends = refl; number = refl; kind = q; len = l }) h
    steps Whole q st h = moves i _ st refl refl refl (λ ms f l. record { last = i; ends = refl; number = refl; kind = q; len = l }) h
    steps Read q st h = moves i _ st refl refl refl (λ ms f l. named q refl l) h
    steps Plus q st h = two_steps Plus (plus i) q (λ l r. refl) (λ ms s l r x y z. (x, y, z)) st h
    steps Less q st h = two_steps Less (less i) q (λ l r. refl) (λ ms s l r x y z. (x, y, z)) st h
    steps Or q st h = two_steps Or (or i) q (λ l r. refl) (λ ms s l r x y z. (x, y, z)) st h
    steps Null q st h = moves i _ st refl refl refl (λ ms f l. ended q refl l) h
    steps Assign q st h =
        last1 exprs (λ e. Some (comm (assign i (node_at ns i).name e.0) ∷ e.1)) (pop1 ns ls exprs i st h)
        (λ e s₁ st₁ he e₁ h₁.
        moves s₁ _ st₁ refl refl (omega arith)
        (λ ms f l. (named q (omega arith) l, expr_frame ns ls ms 0 e s₁ (λ k lt. f k (omega arith)) he)) h₁)
    steps If q st h =
        then1 coms _ (λ e. pop as_com_piece e.1 >>? λ t. pop as_expr_piece t.1 >>? λ x. Some (comm (if i x.0 t.0 e.0) ∷ x.1)) (pop1 ns ls coms i st h)
        (λ d s₁ st₁ hd e₁ h₁.
        then1 coms _ (λ t. pop as_expr_piece t.1 >>? λ x. Some (comm (if i x.0 t.0 d) ∷ x.1)) (pop1 ns ls coms s₁ st₁ h₁)
        (λ c s₂ st₂ hc e₂ h₂.
        last1 exprs (λ x. Some (comm (if i x.0 c d) ∷ x.1)) (pop1 ns ls exprs s₂ st₂ h₂)
        (λ x s₃ st₃ hx e₃ h₃.
        moves s₃ (comm (if i x c d)) st₃ refl refl (omega arith)
        (λ ms f l.
        let p : s₃ + size_expr x + size c ≡ s₁ = omega arith in (
          ended q (omega arith) l,
          expr_frame ns ls ms 0 x s₃ (λ k lt. f k (omega arith)) hx,
          rw (sym e₃) (com_frame ns ls ms 0 c s₂ (λ k lt. f k (omega arith)) hc),
          rw p (com_frame ns ls ms 0 d s₁ (λ k lt. f k (omega arith)) hd),
        )) h₃)))
    steps While q st h =
        then1 coms _ (λ b. pop as_expr_piece b.1 >>? λ x. Some (comm (while i x.0 b.0) ∷ x.1)) (pop1 ns ls coms i st h)
        (λ c s₂ st₂ hc e₂ h₂.
        last1 exprs (λ x. Some (comm (while i x.0 c) ∷ x.1)) (pop1 ns ls exprs s₂ st₂ h₂)
        (λ x s₃ st₃ hx e₃ h₃.
        moves s₃ (comm (while i x c)) st₃ refl refl (omega arith)
        (λ ms f l. (
          ended q (omega arith) l,
          expr_frame ns ls ms 0 x s₃ (λ k lt. f k (omega arith)) hx,
          rw (sym e₃) (com_frame ns ls ms 0 c s₂ (λ k lt. f k (omega arith)) hc),
        )) h₃))
    steps Call q st h =
        last_n args (λ r. Some (comm (call i (node_at ns i).name r.0) ∷ r.1)) (popn ns ls args (node_at ns i).a i st [] i (node_at ns i).a h tt (omega arith) (omega arith))
        (λ xs s₁ st₁ hx e₁ n₁ h₁.
        moves s₁ _ st₁ refl refl (omega arith)
        (λ ms f l. (named q (omega arith) l, sym n₁, args_frame ns ls ms 0 xs s₁ (λ k lt. f k (omega arith)) hx)) h₁)
    steps Argument q st h = moves i _ st refl refl refl (λ ms f l. named q refl l) h
    steps DeclKind q st h = moves i _ st refl refl refl (λ ms f l. record { named = named q refl l; type = refl }) h
    steps Proc q st h =
        then1 coms _ (λ c. pops as_decl_piece ◌∷◌ (node_at ns i).a [] c.1 >>? λ r. Some (pro i (node_at ns i).name r.0 c.0 ∷ r.1)) (pop1 ns ls coms i st h)
        (λ c s₁ st₁ hc e₁ h₁.
        last_n decls (λ r. Some (pro i (node_at ns i).name r.0 c ∷ r.1)) (popn ns ls decls (node_at ns i).a s₁ st₁ [] s₁ (node_at ns i).a h₁ tt (omega arith) (omega arith))
        (λ ds s₂ st₂ hd e₂ n₂ h₂.
        moves s₂ (pro i (node_at ns i).name ds c) st₂ refl refl (omega arith)
        (λ ms f l. (
          named q (omega arith) l,
          sym n₂,
          decls_frame ns ls ms 0 ds s₂ (λ k lt. f k (omega arith)) hd,
          rw e₂ (com_frame ns ls ms 0 c s₁ (λ k lt. f k (omega arith)) hc),
        )) h₂))
    steps Block q st h =
        then_n coms _
        (λ c. pops as_proc_piece (λ p ps. pcons p.0 p.1 p.2 p.3 ps) (node_at ns i).b pnil c.1 >>? λ p.
        pops as_decl_piece ◌∷◌ (node_at ns i).a [] p.1 >>? λ d. Some (comm (block i d.0 p.0 c.0) ∷ d.1))
        (popn ns ls coms (node_at ns i).c i st cnil i (node_at ns i).c h tt (omega arith) (omega arith))
        (λ cs s₁ st₁ hc e₁ n₁ h₁.
        then_n procs _
        (λ p. pops as_decl_piece ◌∷◌ (node_at ns i).a [] p.1 >>? λ d. Some (comm (block i d.0 p.0 cs) ∷ d.1))
        (popn ns ls procs (node_at ns i).b s₁ st₁ pnil s₁ (node_at ns i).b h₁ tt (omega arith) (omega arith))
        (λ ps s₂ st₂ hp e₂ n₂ h₂.
        last_n decls (λ d. Some (comm (block i d.0 ps cs) ∷ d.1)) (popn ns ls decls (node_at ns i).a s₂ st₂ [] s₂ (node_at ns i).a h₂ tt (omega arith) (omega arith))
        (λ ds s₃ st₃ hd e₃ n₃ h₃.
        moves s₃ (comm (block i ds ps cs)) st₃ refl refl (omega arith)
        (λ ms f l.
        let p : s₃ + length ds + size_procs ps ≡ s₁ = omega arith in (
          ended q (omega arith) l,
          sym n₃,
          sym n₂,
          sym n₁,
          decls_frame ns ls ms 0 ds s₃ (λ k lt. f k (omega arith)) hd,
          rw e₃ (procs_frame ns ls ms 0 ps s₂ (λ k lt. f k (omega arith)) hp),
          rw p (coms_frame ns ls ms 0 cs s₁ (λ k lt. f k (omega arith)) hc),
        )) h₃)))
