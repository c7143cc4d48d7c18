-- What stands before a node does not change where its length is written; what the last node of a piece shows.
use Rattle.std.proofs.Common.{◌≡◌, ℕ, ◌+◌, ◌-◌, ◌<◌, ◌≤◌, List, [], ◌∷◌, length, get_or, Some, sym, refl, ◌∙◌, arith}
use Rattle.language.specs.declared.tables.Node.{Node}
use Rattle.language.specs.declared.tables.Kind.{Kind}
use Rattle.language.specs.Kinds.{with_number}
use Rattle.language.specs.Tree.{Decl, Arg, Expr, Com, Procs, Coms, truth, whole, read, plus, less, or, null, assign, if, while, call, block, pnil, pcons, cnil, ccons}
use Rattle.language.specs.Table.{Piece, expr, comm, arg, dec, pro, Stack}
use Rattle.language.specs.Spelling.{size_expr, size, size_procs, size_coms}
use Rattle.table.specs.declared.node.Sort.{Sort}
use Rattle.table.specs.declared.node.Sort.TheVariants.{Expression, Command, Argument, Declaration, Procedure}
use Rattle.table.specs.Sorts.{sort_of}
use Rattle.table.specs.Stretches.{node_at, Ends, Named, ExprAt, ArgsAt, DeclAt, DeclsAt, ComAt, ProcsAt, ComsAt}
use Rattle.table.specs.Pieces.{size_piece, PieceAt, Stacked}

abbrev pub Alike : List ℕ → List ℕ → ℕ → Type 0
Alike ls ms e = (k : ℕ) → k < e → get_or ls k 0 ≡ get_or ms k 0

module _ (ns : List Node) (ls ms : List ℕ) (o : ℕ) where
  abbrev pub ends_frame : {s z i : ℕ} {k : Kind} → Alike ls ms (s + z) → Ends ns ls o s z i k → Ends ns ms o s z i k
  ends_frame f h =
      record { last = h.last; ends = h.ends; number = h.number; kind = h.kind; len = sym (f h.last (omega (arith, h.ends))) ∙ h.len }

  abbrev pub named_frame : {s z i m : ℕ} {k : Kind} → Alike ls ms (s + z) → Named ns ls o s z i k m → Named ns ms o s z i k m
  named_frame f h = record { end = ends_frame f h.end; name = h.name }

  pub expr_frame : (e : Expr) (s : ℕ) → Alike ls ms (s + size_expr e) → ExprAt ns ls o s e → ExprAt ns ms o s e
  expr_frame (truth b) s f h = ends_frame f h
  expr_frame (whole z) s f h = ends_frame f h
  expr_frame (read i m) s f h = named_frame f h
  expr_frame (plus i l r) s f h =
      (ends_frame f h.0, expr_frame l s (λ k lt. f k (omega arith)) h.1, expr_frame r (s + size_expr l) (λ k lt. f k (omega arith)) h.2)
  expr_frame (less i l r) s f h =
      (ends_frame f h.0, expr_frame l s (λ k lt. f k (omega arith)) h.1, expr_frame r (s + size_expr l) (λ k lt. f k (omega arith)) h.2)
  expr_frame (or i l r) s f h =
      (ends_frame f h.0, expr_frame l s (λ k lt. f k (omega arith)) h.1, expr_frame r (s + size_expr l) (λ k lt. f k (omega arith)) h.2)

  pub args_frame : (xs : List Arg) (s : ℕ) → Alike ls ms (s + length xs) → ArgsAt ns ls o s xs → ArgsAt ns ms o s xs
  args_frame [] s f h = tt
  args_frame (x ∷ xs) s f h =
      (named_frame (λ k lt. f k (omega arith)) h.0, args_frame xs (s + 1) (λ k lt. f k (omega arith)) h.1)

  pub decl_frame : (d : Decl) (s : ℕ) → Alike ls ms (s + 1) → DeclAt ns ls o s d → DeclAt ns ms o s d
  decl_frame d s f h = record { named = named_frame f h.named; type = h.type }

  pub decls_frame : (ds : List Decl) (s : ℕ) → Alike ls ms (s + length ds) → DeclsAt ns ls o s ds → DeclsAt ns ms o s ds
  decls_frame [] s f h = tt
  decls_frame (d ∷ ds) s f h =
      (decl_frame d s (λ k lt. f k (omega arith)) h.0, decls_frame ds (s + 1) (λ k lt. f k (omega arith)) h.1)

  mutual
    pub com_frame : (c : Com) (s : ℕ) → Alike ls ms (s + size c) → ComAt ns ls o s c → ComAt ns ms o s c
    com_frame (null i) s f h = ends_frame f h
    com_frame (assign i m e) s f h = (named_frame f h.0, expr_frame e s (λ k lt. f k (omega arith)) h.1)
    com_frame (if i e c d) s f h = (
      ends_frame f h.0,
      expr_frame e s (λ k lt. f k (omega arith)) h.1,
      com_frame c (s + size_expr e) (λ k lt. f k (omega arith)) h.2,
      com_frame d (s + size_expr e + size c) (λ k lt. f k (omega arith)) h.3,
    )
    com_frame (while i e c) s f h =
        (ends_frame f h.0, expr_frame e s (λ k lt. f k (omega arith)) h.1, com_frame c (s + size_expr e) (λ k lt. f k (omega arith)) h.2)
    com_frame (call i m xs) s f h = (named_frame f h.0, h.1, args_frame xs s (λ k lt. f k (omega arith)) h.2)
    com_frame (block i ds ps cs) s f h = (
      ends_frame f h.0,
      h.1,
      h.2,
      h.3,
      decls_frame ds s (λ k lt. f k (omega arith)) h.4,
      procs_frame ps (s + length ds) (λ k lt. f k (omega arith)) h.5,
      coms_frame cs (s + length ds + size_procs ps) (λ k lt. f k (omega arith)) h.6,
    )

    pub procs_frame : (ps : Procs) (s : ℕ) → Alike ls ms (s + size_procs ps) → ProcsAt ns ls o s ps → ProcsAt ns ms o s ps
    procs_frame pnil s f h = tt
    procs_frame (pcons i m fs c ps) s f h = (
      (
        named_frame (λ k lt. f k (omega arith)) h.0.0,
        h.0.1,
        decls_frame fs s (λ k lt. f k (omega arith)) h.0.2,
        com_frame c (s + length fs) (λ k lt. f k (omega arith)) h.0.3,
      ),
      procs_frame ps (s + (length fs + size c + 1)) (λ k lt. f k (omega arith)) h.1,
    )

    pub coms_frame : (cs : Coms) (s : ℕ) → Alike ls ms (s + size_coms cs) → ComsAt ns ls o s cs → ComsAt ns ms o s cs
    coms_frame cnil s f h = tt
    coms_frame (ccons c cs) s f h =
        (com_frame c s (λ k lt. f k (omega arith)) h.0, coms_frame cs (s + size c) (λ k lt. f k (omega arith)) h.1)

module _ (ns : List Node) (ls ms : List ℕ) where
  pub piece_frame : (p : Piece) (s : ℕ) → Alike ls ms (s + size_piece p) → PieceAt ns ls s p → PieceAt ns ms s p
  piece_frame (expr e) s f h = expr_frame ns ls ms 0 e s f h
  piece_frame (comm c) s f h = com_frame ns ls ms 0 c s f h
  piece_frame (arg x) s f h = named_frame ns ls ms 0 f h
  piece_frame (dec d) s f h = decl_frame ns ls ms 0 d s f h
  piece_frame (pro i m fs c) s f h = (
    named_frame ns ls ms 0 f h.0,
    h.1,
    decls_frame ns ls ms 0 fs s (λ k lt. f k (omega arith)) h.2,
    com_frame ns ls ms 0 c (s + length fs) (λ k lt. f k (omega arith)) h.3,
  )

  pub stack_frame : (st : Stack) (e : ℕ) → Alike ls ms e → Stacked ns ls e st → Stacked ns ms e st
  stack_frame [] e f h = h
  stack_frame (p ∷ st) e f (s, q, at, rest) =
      (s, q, piece_frame p s (λ k lt. f k (omega arith)) at, stack_frame st s (λ k lt. f k (omega arith)) rest)

abbrev pub piece_sort : Piece → Sort
piece_sort (expr e) = Expression
piece_sort (comm c) = Command
piece_sort (arg x) = Argument
piece_sort (dec d) = Declaration
piece_sort (pro i m fs c) = Procedure

-- the last node of a stretch shows its length, and by its kind the sort
pub record Shown (ns : List Node) (ls : List ℕ) (s z : ℕ) (so : Sort) : Type 0 where
  pub some : 1 ≤ z
  pub len : get_or ls (s + z - 1) 0 ≡ z
  pub of : Kind
  pub kind : with_number (node_at ns (s + z - 1)).kind ≡ Some of
  pub sort : sort_of of ≡ so

module _ (ns : List Node) (ls : List ℕ) (o : ℕ) where
  pub shown : {s z i : ℕ} {k : Kind} → 1 ≤ z → Ends ns ls o s z i k → Shown ns ls s z (sort_of k)
  shown {s} {z} {i} {k} h l =
      let e : s + z - 1 ≡ l.last = omega (arith, l.ends) in
      record { some = h; len = rw e l.len; of = k; kind = rw e l.kind; sort = refl }

  pub expr_shown : (e : Expr) (s : ℕ) → ExprAt ns ls o s e → Shown ns ls s (size_expr e) Expression
  expr_shown (truth b) s h = shown (omega arith) h
  expr_shown (whole z) s h = shown (omega arith) h
  expr_shown (read i m) s h = shown (omega arith) h.end
  expr_shown (plus i l r) s h = shown (omega arith) h.0
  expr_shown (less i l r) s h = shown (omega arith) h.0
  expr_shown (or i l r) s h = shown (omega arith) h.0

  pub com_shown : (c : Com) (s : ℕ) → ComAt ns ls o s c → Shown ns ls s (size c) Command
  com_shown (null i) s h = shown (omega arith) h
  com_shown (assign i m e) s h = shown (omega arith) h.0.end
  com_shown (if i e c d) s h = shown (omega arith) h.0
  com_shown (while i e c) s h = shown (omega arith) h.0
  com_shown (call i m xs) s h = shown (omega arith) h.0.end
  com_shown (block i ds ps cs) s h = shown (omega arith) h.0

module _ (ns : List Node) (ls : List ℕ) where
  pub piece_shown : (p : Piece) (s : ℕ) → PieceAt ns ls s p → Shown ns ls s (size_piece p) (piece_sort p)
  piece_shown (expr e) s h = expr_shown ns ls 0 e s h
  piece_shown (comm c) s h = com_shown ns ls 0 c s h
  piece_shown (arg x) s h = shown ns ls 0 (omega arith) h.end
  piece_shown (dec d) s h = shown ns ls 0 (omega arith) h.named.end
  piece_shown (pro i m fs c) s h = shown ns ls 0 (omega arith) h.0.end

pub expr_some : (e : Expr) → 1 ≤ size_expr e
expr_some (truth b) = omega arith
expr_some (whole z) = omega arith
expr_some (read i m) = omega arith
expr_some (plus i l r) = omega arith
expr_some (less i l r) = omega arith
expr_some (or i l r) = omega arith

pub com_some : (c : Com) → 1 ≤ size c
com_some (null i) = omega arith
com_some (assign i m e) = omega arith
com_some (if i e c d) = omega arith
com_some (while i e c) = omega arith
com_some (call i m xs) = omega arith
com_some (block i ds ps cs) = omega arith

pub piece_some : (p : Piece) → 1 ≤ size_piece p
piece_some (expr e) = expr_some e
piece_some (comm c) = com_some c
piece_some (arg x) = omega arith
piece_some (dec d) = omega arith
piece_some (pro i m fs c) = omega arith
