-- What stands in a part stands in the piece of it that is handed on.
use Rattle.std.proofs.Common.{◌≡◌, ℕ, ◌+◌, ◌-◌, ◌<◌, ◌≤◌, List, [], ◌∷◌, length, get_or, drop, sym, refl, ap, ◌∙◌, subst, arith}
use Rattle.std.proofs.lemmas.List.{get_or-take, get_or-drop, length-drop, length-take-le}
use Rattle.language.specs.declared.tables.Node.{Node}
use Rattle.language.specs.declared.tables.Kind.{Kind}
use Rattle.language.specs.Tree.{Decl, Arg, Expr, Com, Procs, Coms, truth, whole, read, plus, less, or, null, assign, if, while, call, block, pnil, pcons, cnil, ccons}
use Rattle.language.specs.Kinds.{with_number}
use Rattle.language.specs.Table.{type_of}
use Rattle.language.specs.Spelling.{size_expr, size, size_procs, size_coms}
use Rattle.table.specs.Stretches.{blank, node_at, Ends, Named, ExprAt, ArgsAt, DeclsAt, ComAt, ProcAt, ProcsAt, ComsAt}
use Rattle.rule.specs.declared.parts.Part.{Part}
use Rattle.rule.specs.Pieces.{long, Cut, IsExpr, IsCom, IsComs, IsProcs, IsProc}

pub expr_some : (e : Expr) → 1 ≤ size_expr e
expr_some (truth b) = omega arith
expr_some (whole z) = omega arith
expr_some (read i m) = omega arith
expr_some (plus i l r) = omega arith
expr_some (less i l r) = omega arith
expr_some (or i l r) = omega arith

pub com_some : (c : Com) → 1 ≤ size c
com_some (null i) = omega arith
com_some (assign i m e) = omega arith
com_some (if i e c d) = omega arith
com_some (while i e c) = omega arith
com_some (call i m xs) = omega arith
com_some (block i ds ps cs) = omega arith

-- ms and ks are the z nodes and lengths from a on
module _ (ns ms : List Node) (ls ks : List ℕ) (o a z : ℕ)
    (nodes : (k : ℕ) → k < z → node_at ms k ≡ node_at ns (a + k)) (lens : (k : ℕ) → k < z → get_or ks k 0 ≡ get_or ls (a + k) 0) where
  same_node : (i : ℕ) → a ≤ i → i - a < z → node_at ms (i - a) ≡ node_at ns i
  same_node i le lt = let e : a + (i - a) ≡ i = omega arith in nodes (i - a) lt ∙ ap (node_at ns) e

  same_len : (i : ℕ) → a ≤ i → i - a < z → get_or ks (i - a) 0 ≡ get_or ls i 0
  same_len i le lt = let e : a + (i - a) ≡ i = omega arith in lens (i - a) lt ∙ ap (λ (k : ℕ). get_or ls k 0) e

  abbrev ends_cut : {t s w i j : ℕ} {k : Kind} → t ≡ a + s → 1 ≤ w → s + w ≤ z → i ≡ j → Ends ns ls o t w i k → Ends ms ks (o + a) s w j k
  ends_cut {t} {s} {w} {i} {j} {k} e so le q h =
      record {
        last = h.last - a;
        ends = omega (arith, h.ends);
        number = omega (arith, h.ends, h.number);
        kind = ap (λ (n : Node). with_number n.kind) (same_node h.last (omega (arith, h.ends)) (omega (arith, h.ends))) ∙ h.kind;
        len = same_len h.last (omega (arith, h.ends)) (omega (arith, h.ends)) ∙ h.len;
      }

  -- the last node of a stretch is the same
  ends_node : {t w i : ℕ} {k : Kind} (s : ℕ) → t ≡ a + s → 1 ≤ w → s + w ≤ z → (h : Ends ns ls o t w i k) → node_at ms (h.last - a) ≡ node_at ns h.last
  ends_node s e so le h = same_node h.last (omega (arith, h.ends)) (omega (arith, h.ends))

  abbrev named_cut : {t s w i m : ℕ} {k : Kind} → t ≡ a + s → 1 ≤ w → s + w ≤ z → Named ns ls o t w i k m → Named ms ks (o + a) s w i k m
  named_cut {t} {s} e so le h =
      record { end = ends_cut e so le refl h.end; name = ap (λ (n : Node). n.name) (ends_node s e so le h.end) ∙ h.name }

  pub expr_cut : (x : Expr) (t s : ℕ) → t ≡ a + s → s + size_expr x ≤ z → ExprAt ns ls o t x → ExprAt ms ks (o + a) s x
  expr_cut (truth b) t s e le h = ends_cut e (omega arith) le (omega arith) h
  expr_cut (whole n) t s e le h = ends_cut e (omega arith) le (omega arith) h
  expr_cut (read i m) t s e le h = named_cut e (omega arith) le h
  expr_cut (plus i l r) t s e le h =
      (ends_cut e (omega arith) le refl h.0, expr_cut l t s e (omega arith) h.1, expr_cut r (t + size_expr l) (s + size_expr l) (omega arith) (omega arith) h.2)
  expr_cut (less i l r) t s e le h =
      (ends_cut e (omega arith) le refl h.0, expr_cut l t s e (omega arith) h.1, expr_cut r (t + size_expr l) (s + size_expr l) (omega arith) (omega arith) h.2)
  expr_cut (or i l r) t s e le h =
      (ends_cut e (omega arith) le refl h.0, expr_cut l t s e (omega arith) h.1, expr_cut r (t + size_expr l) (s + size_expr l) (omega arith) (omega arith) h.2)

  pub args_cut : (xs : List Arg) (t s : ℕ) → t ≡ a + s → s + length xs ≤ z → ArgsAt ns ls o t xs → ArgsAt ms ks (o + a) s xs
  args_cut [] t s e le h = tt
  args_cut (x ∷ xs) t s e le h = (named_cut e (omega arith) (omega arith) h.0, args_cut xs (t + 1) (s + 1) (omega arith) (omega arith) h.1)

  pub decls_cut : (ds : List Decl) (t s : ℕ) → t ≡ a + s → s + length ds ≤ z → DeclsAt ns ls o t ds → DeclsAt ms ks (o + a) s ds
  decls_cut [] t s e le h = tt
  decls_cut (d ∷ ds) t s e le h = (
    record {
      named = named_cut e (omega arith) (omega arith) h.0.named;
      type = ap (λ (n : Node). type_of n.value) (ends_node s e (omega arith) (omega arith) h.0.named.end) ∙ h.0.type;
    },
    decls_cut ds (t + 1) (s + 1) (omega arith) (omega arith) h.1,
  )

  mutual
    pub com_cut : (c : Com) (t s : ℕ) → t ≡ a + s → s + size c ≤ z → ComAt ns ls o t c → ComAt ms ks (o + a) s c
    com_cut (null i) t s e le h = ends_cut e (omega arith) le refl h
    com_cut (assign i m x) t s e le h = (named_cut e (omega arith) le h.0, expr_cut x t s e (omega arith) h.1)
    com_cut (if i x c d) t s e le h = (
      ends_cut e (omega arith) le refl h.0,
      expr_cut x t s e (omega arith) h.1,
      com_cut c (t + size_expr x) (s + size_expr x) (omega arith) (omega arith) h.2,
      com_cut d (t + size_expr x + size c) (s + size_expr x + size c) (omega arith) (omega arith) h.3,
    )
    com_cut (while i x c) t s e le h = (
      ends_cut e (omega arith) le refl h.0,
      expr_cut x t s e (omega arith) h.1,
      com_cut c (t + size_expr x) (s + size_expr x) (omega arith) (omega arith) h.2,
    )
    com_cut (call i m xs) t s e le h = (
      named_cut e (omega arith) le h.0,
      ap (λ (n : Node). n.a) (ends_node s e (omega arith) le h.0.end) ∙ h.1,
      args_cut xs t s e (omega arith) h.2,
    )
    com_cut (block i ds ps cs) t s e le h =
        let n = ends_node s e (omega arith) le h.0 in (
          ends_cut e (omega arith) le refl h.0,
          ap (λ (n : Node). n.a) n ∙ h.1,
          ap (λ (n : Node). n.b) n ∙ h.2,
          ap (λ (n : Node). n.c) n ∙ h.3,
          decls_cut ds t s e (omega arith) h.4,
          procs_cut ps (t + length ds) (s + length ds) (omega arith) (omega arith) h.5,
          coms_cut cs (t + length ds + size_procs ps) (s + length ds + size_procs ps) (omega arith) (omega arith) h.6,
        )

    pub procs_cut : (ps : Procs) (t s : ℕ) → t ≡ a + s → s + size_procs ps ≤ z → ProcsAt ns ls o t ps → ProcsAt ms ks (o + a) s ps
    procs_cut pnil t s e le h = tt
    procs_cut (pcons i m fs c ps) t s e le h = (
      (
        named_cut e (omega arith) (omega arith) h.0.0,
        ap (λ (n : Node). n.a) (ends_node s e (omega arith) (omega arith) h.0.0.end) ∙ h.0.1,
        decls_cut fs t s e (omega arith) h.0.2,
        com_cut c (t + length fs) (s + length fs) (omega arith) (omega arith) h.0.3,
      ),
      procs_cut ps (t + (length fs + size c + 1)) (s + (length fs + size c + 1)) (omega arith) (omega arith) h.1,
    )

    pub coms_cut : (cs : Coms) (t s : ℕ) → t ≡ a + s → s + size_coms cs ≤ z → ComsAt ns ls o t cs → ComsAt ms ks (o + a) s cs
    coms_cut cnil t s e le h = tt
    coms_cut (ccons c cs) t s e le h =
        (com_cut c t s e (omega arith) h.0, coms_cut cs (t + size c) (s + size c) (omega arith) (omega arith) h.1)

  pub proc_cut : (i m : ℕ) (fs : List Decl) (c : Com) (t s : ℕ) → t ≡ a + s → s + (length fs + size c + 1) ≤ z → ProcAt ns ls o t i m fs c → ProcAt ms ks (o + a) s i m fs c
  proc_cut i m fs c t s e le h = (
    named_cut e (omega arith) le h.0,
    ap (λ (n : Node). n.a) (ends_node s e (omega arith) le h.0.end) ∙ h.1,
    decls_cut fs t s e (omega arith) h.2,
    com_cut c (t + length fs) (s + length fs) (omega arith) (omega arith) h.3,
  )

-- the cut part of a part
module _ {p q : Part} {s e : ℕ} where
  cut_nodes : Cut p q s e → (k : ℕ) → k < e - s → node_at q.nodes.now k ≡ node_at p.nodes.now (s + k)
  cut_nodes c k lt = ap (λ (l : List Node). node_at l k) c.nodes ∙ get_or-take (e - s) (drop s p.nodes.now) k blank lt ∙ get_or-drop s p.nodes.now k blank

  cut_lens : Cut p q s e → (k : ℕ) → k < e - s → get_or q.lens.now k 0 ≡ get_or p.lens.now (s + k) 0
  cut_lens c k lt = ap (λ (l : List ℕ). get_or l k 0) c.lens ∙ get_or-take (e - s) (drop s p.lens.now) k 0 lt ∙ get_or-drop s p.lens.now k 0

  pub cut_long : Cut p q s e → s ≤ e → e ≤ long p → long q ≡ e - s
  cut_long c se le = ap (λ (l : List Node). length l) c.nodes ∙ length-take-le (e - s) (drop s p.nodes.now) (omega (arith, length-drop s p.nodes.now))

  pub is_expr : (x : Expr) → Cut p q s e → e ≡ s + size_expr x → e ≤ long p → ExprAt p.nodes.now p.lens.now p.first s x → IsExpr q x
  is_expr x c z le h =
      record {
        at = subst (λ (o : ℕ). ExprAt q.nodes.now q.lens.now o 0 x) (sym c.first)
            (expr_cut p.nodes.now q.nodes.now p.lens.now q.lens.now p.first s (e - s) (cut_nodes c) (cut_lens c) x s 0 (omega arith) (omega arith) h);
        whole = omega (arith, cut_long c (omega arith) le);
      }

  pub is_com : (x : Com) → Cut p q s e → e ≡ s + size x → e ≤ long p → ComAt p.nodes.now p.lens.now p.first s x → IsCom q x
  is_com x c z le h =
      record {
        at = subst (λ (o : ℕ). ComAt q.nodes.now q.lens.now o 0 x) (sym c.first)
            (com_cut p.nodes.now q.nodes.now p.lens.now q.lens.now p.first s (e - s) (cut_nodes c) (cut_lens c) x s 0 (omega arith) (omega arith) h);
        whole = omega (arith, cut_long c (omega arith) le);
      }

  pub is_coms : (x : Coms) → Cut p q s e → e ≡ s + size_coms x → e ≤ long p → ComsAt p.nodes.now p.lens.now p.first s x → IsComs q x
  is_coms x c z le h =
      record {
        at = subst (λ (o : ℕ). ComsAt q.nodes.now q.lens.now o 0 x) (sym c.first)
            (coms_cut p.nodes.now q.nodes.now p.lens.now q.lens.now p.first s (e - s) (cut_nodes c) (cut_lens c) x s 0 (omega arith) (omega arith) h);
        whole = omega (arith, cut_long c (omega arith) le);
      }

  pub is_procs : (x : Procs) → Cut p q s e → e ≡ s + size_procs x → e ≤ long p → ProcsAt p.nodes.now p.lens.now p.first s x → IsProcs q x
  is_procs x c z le h =
      record {
        at = subst (λ (o : ℕ). ProcsAt q.nodes.now q.lens.now o 0 x) (sym c.first)
            (procs_cut p.nodes.now q.nodes.now p.lens.now q.lens.now p.first s (e - s) (cut_nodes c) (cut_lens c) x s 0 (omega arith) (omega arith) h);
        whole = omega (arith, cut_long c (omega arith) le);
      }

  pub is_proc : (i m : ℕ) (fs : List Decl) (x : Com) → Cut p q s e → e ≡ s + (length fs + size x + 1) → e ≤ long p
      → ProcAt p.nodes.now p.lens.now p.first s i m fs x → IsProc q i m fs x
  is_proc i m fs x c z le h =
      record {
        at = subst (λ (o : ℕ). ProcAt q.nodes.now q.lens.now o 0 i m fs x) (sym c.first)
            (proc_cut p.nodes.now q.nodes.now p.lens.now q.lens.now p.first s (e - s) (cut_nodes c) (cut_lens c) i m fs x s 0 (omega arith) (omega arith) h);
        whole = omega (arith, cut_long c (omega arith) le);
      }
