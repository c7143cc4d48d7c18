-- What the kind of the last node tells of a command.
use Rattle.std.proofs.Common.{◌≡◌, ℕ, suc, ◌+◌, ◌-◌, ◌≤◌, true, List, [], ◌∷◌, length, take, drop, is_some, Some, sym, refl, ap, ◌∙◌, subst, ap₂, arith}
use Rattle.std.proofs.lemmas.List.{drop_more}
use Rattle.language.proofs.Binds.{some_is}
use Rattle.language.specs.declared.tables.Node.{Node}
use Rattle.language.specs.declared.tables.Kind.{Kind}
use Rattle.language.specs.declared.tables.Kind.TheVariants.{Truth, Whole, Read, Plus, Less, Or, Null, Assign, If, While, Call, Argument, Decl as DeclKind, Proc, Block}
use Rattle.language.specs.declared.values.Scalar.{Scalar}
use Rattle.language.specs.Kinds.{with_number}
use Rattle.language.specs.Table.{type_of}
use Rattle.language.specs.Tree.{Decl, Arg, Expr, Com, Procs, Coms, null, assign, if, while, call, block}
use Rattle.language.specs.Spelling.{how_many_coms, size_expr, size, size_procs, size_coms}
use Rattle.table.specs.Stretches.{blank, node_at, Named, ArgsAt, DeclsAt, ComAt, ProcsAt, ComsAt}
use Rattle.rule.specs.declared.parts.Part.{Part}
use Rattle.rule.specs.Pieces.{long, last_node, placed, Cut, begins, Halved, Halves, Thirded, Thirds, commands_at, Blocked, BlockCuts, Inside, IsCom}
use Rattle.rule.specs.Rows.{decls_from, args_from}
use Rattle.rule.specs.Shapes.{Assigns, Branches, Loops, Calls, Blocks}
use Rattle.rule.proofs.Cuts.{com_some, is_expr, is_com, is_coms, is_procs, cut_long}
use Rattle.rule.proofs.ExprShapes.{ends_last, ends_kind, ends_place}
use Rattle.rule.proofs.Snocs.{com_ended, skip_are}

same_decl : (d : Decl) (s m : ℕ) (t : Scalar) → d.at ≡ s → m ≡ d.name → t ≡ d.type → record { at = s; name = m; type = t } ≡ d
same_decl d s m t e n q = rw (sym e, n, q) refl

same_arg : (x : Arg) (s m : ℕ) → x.at ≡ s → m ≡ x.name → record { at = s; name = m } ≡ x
same_arg x s m e n = rw (sym e, n) refl

module _ (ns : List Node) (ls : List ℕ) (o : ℕ) where
  pub decls_are : (ds : List Decl) (s : ℕ) → s + length ds ≤ length ns → DeclsAt ns ls o s ds → decls_from (o + s) (take (length ds) (drop s ns)) ≡ ds
  decls_are [] s le h = refl
  decls_are (d ∷ ds) s le h =
      let l : h.0.named.end.last ≡ s = omega (arith, h.0.named.end.ends) in
      let a : d.at ≡ o + s = omega (arith, h.0.named.end.number) in
      let n : (node_at ns s).name ≡ d.name = ap (λ (i : ℕ). (node_at ns i).name) (sym l) ∙ h.0.named.name in
      let t : type_of (node_at ns s).value ≡ d.type = ap (λ (i : ℕ). type_of (node_at ns i).value) (sym l) ∙ h.0.type in
      let q : o + s + 1 ≡ o + (s + 1) = omega arith in
      ap (λ (l : List Node). decls_from (o + s) (take (suc (length ds)) l)) (drop_more ns s blank (omega arith))
      ∙ ap₂ ◌∷◌ (same_decl d (o + s) _ _ a n t) (ap (λ (k : ℕ). decls_from k (take (length ds) (drop (s + 1) ns))) q ∙ decls_are ds (s + 1) (omega arith) h.1)

  pub args_are : (xs : List Arg) (s : ℕ) → s + length xs ≤ length ns → ArgsAt ns ls o s xs → args_from (o + s) (take (length xs) (drop s ns)) ≡ xs
  args_are [] s le h = refl
  args_are (x ∷ xs) s le h =
      let l : h.0.end.last ≡ s = omega (arith, h.0.end.ends) in
      let a : x.at ≡ o + s = omega (arith, h.0.end.number) in
      let n : (node_at ns s).name ≡ x.name = ap (λ (i : ℕ). (node_at ns i).name) (sym l) ∙ h.0.name in
      let q : o + s + 1 ≡ o + (s + 1) = omega arith in
      ap (λ (l : List Node). args_from (o + s) (take (suc (length xs)) l)) (drop_more ns s blank (omega arith))
      ∙ ap₂ ◌∷◌ (same_arg x (o + s) _ a n) (ap (λ (k : ℕ). args_from k (take (length xs) (drop (s + 1) ns))) q ∙ args_are xs (s + 1) (omega arith) h.1)

pub is_decls : {p q : Part} {s e : ℕ} (ds : List Decl) → Cut p q s e → e ≡ s + length ds → e ≤ long p → DeclsAt p.nodes.now p.lens.now p.first s ds
    → decls_from q.first q.nodes.now ≡ ds
is_decls {p} {q} {s} {e} ds c z le h =
    let w : e - s ≡ length ds = omega arith in
    ap₂ decls_from c.first (c.nodes ∙ ap (λ (k : ℕ). take k (drop s p.nodes.now)) w)
    ∙ decls_are p.nodes.now p.lens.now p.first ds s (omega arith) h

pub is_args : {p q : Part} {s e : ℕ} (xs : List Arg) → Cut p q s e → e ≡ s + length xs → e ≤ long p → ArgsAt p.nodes.now p.lens.now p.first s xs
    → args_from q.first q.nodes.now ≡ xs
is_args {p} {q} {s} {e} xs c z le h =
    let w : e - s ≡ length xs = omega arith in
    ap₂ args_from c.first (c.nodes ∙ ap (λ (k : ℕ). take k (drop s p.nodes.now)) w)
    ∙ args_are p.nodes.now p.lens.now p.first xs s (omega arith) h

pub inside : {p q : Part} {s e : ℕ} → s ≤ e → e ≤ long p → Cut p q s e → Inside p q
inside {p} {q} {s} {e} o w c = record { s = s; e = e; order = o; within = w; cut = c }

pub record IfShape (p : Part) (c : Com) : Type 0 where
  pub thirded : Thirded p
  pub view : (t y n : Part) → Thirds p t y n → Branches p t y n c

pub record WhileShape (p : Part) (c : Com) : Type 0 where
  pub halved : Halved p
  pub view : (t b : Part) → Halves p t b → Loops p t b c

pub record BlockShape (p : Part) (c : Com) : Type 0 where
  pub blocked : Blocked p
  pub view : (v q r : Part) → BlockCuts p v q r → Blocks p v q r c

abbrev pub Shape : Part → Kind → Com → Type 0
Shape p Truth c = ⊥
Shape p Whole c = ⊥
Shape p Read c = ⊥
Shape p Plus c = ⊥
Shape p Less c = ⊥
Shape p Or c = ⊥
Shape p Null c = c ≡ null (placed p)
Shape p Assign c = (v : Part) → Cut p v 0 (long p - 1) → Assigns p (last_node p).name v c
Shape p If c = IfShape p c
Shape p While c = WhileShape p c
Shape p Call c = (a : Part) → Cut p a 0 (long p - 1) → Calls p (last_node p).name a c
Shape p Argument c = ⊥
Shape p DeclKind c = ⊥
Shape p Proc c = ⊥
Shape p Block c = BlockShape p c

module _ (p : Part) where
  At : ℕ → Com → Type 0
  At s c = ComAt p.nodes.now p.lens.now p.first s c

  name_last : {z i m : ℕ} {k : Kind} → long p ≡ z → (h : Named p.nodes.now p.lens.now p.first 0 z i k m) → m ≡ (last_node p).name
  name_last e h = sym h.name ∙ ap (λ (i : ℕ). (node_at p.nodes.now i).name) (ends_last p e h.end)

  if_shape : (i : ℕ) (e : Expr) (x z : Com) → IsCom p (if i e x z) → IfShape p (if i e x z)
  if_shape i e x z h =
      let n = com_ended p z (0 + size_expr e + size x) (long p - 1) (omega (arith, h.whole)) (omega arith) h.at.3 in
      let y = com_ended p x (0 + size_expr e) (begins p (long p - 1)) n.1 (omega (arith, n.1, h.whole)) h.at.2 in
      let hz : ComAt p.nodes.now p.lens.now p.first (begins p (long p - 1)) z = subst (λ (s : ℕ). ComAt p.nodes.now p.lens.now p.first s z) (sym n.1) h.at.3 in
      let hx : ComAt p.nodes.now p.lens.now p.first (begins p (begins p (long p - 1))) x = subst (λ (s : ℕ). ComAt p.nodes.now p.lens.now p.first s x) (sym y.1) h.at.2 in
      record {
        thirded = record { some = omega (arith, h.whole); third = n.0; second = y.0 };
        view = λ t u v c.
            let it = is_expr e c.first (omega (arith, y.1)) (omega (arith, y.1, h.whole)) h.at.1 in
            let iu = is_com x c.second (omega (arith, y.1, n.1)) (omega (arith, n.1, h.whole)) hx in
            let iv = is_com z c.third (omega (arith, n.1, h.whole)) (omega arith) hz in
            record {
              e = e;
              x = x;
              z = z;
              is = ap (λ (j : ℕ). if j e x z) (ends_place p h.whole h.at.0);
              test = it;
              yes = iu;
              no = iv;
              yes_in = inside (omega (arith, y.1, n.1)) (omega (arith, n.1, h.whole)) c.second;
              no_in = inside (omega (arith, n.1, h.whole)) (omega arith) c.third;
              sizes = omega (arith, h.whole, it.whole, iu.whole, iv.whole);
            };
      }

  while_shape : (i : ℕ) (e : Expr) (x : Com) → IsCom p (while i e x) → WhileShape p (while i e x)
  while_shape i e x h =
      let n = com_ended p x (0 + size_expr e) (long p - 1) (omega (arith, h.whole)) (omega arith) h.at.2 in
      let hx : ComAt p.nodes.now p.lens.now p.first (begins p (long p - 1)) x = subst (λ (s : ℕ). ComAt p.nodes.now p.lens.now p.first s x) (sym n.1) h.at.2 in
      record {
        halved = record { some = omega (arith, h.whole); ended = n.0 };
        view = λ t b c.
            let it = is_expr e c.left (omega (arith, n.1)) (omega (arith, n.1, h.whole)) h.at.1 in
            let ib = is_com x c.right (omega (arith, n.1, h.whole)) (omega arith) hx in
            record {
              e = e;
              x = x;
              is = ap (λ (j : ℕ). while j e x) (ends_place p h.whole h.at.0);
              test = it;
              body = ib;
              body_in = inside (omega (arith, n.1, h.whole)) (omega arith) c.right;
              sizes = omega (arith, h.whole, it.whole, ib.whole);
            };
      }

  call_shape : (i m : ℕ) (xs : List Arg) → IsCom p (call i m xs) → (a : Part) → Cut p a 0 (long p - 1) → Calls p (last_node p).name a (call i m xs)
  call_shape i m xs h a c =
      let z : long p ≡ length xs + 1 = h.whole in
      let l = is_args xs c (omega arith) (omega arith) h.at.2 in
      let n = name_last z h.at.0 in
      let j = ends_place p z h.at.0.end in
      record { is = rw (l, sym j, sym n) refl; sizes = omega (arith, cut_long c (omega arith) (omega arith)) }

  block_shape : (i : ℕ) (ds : List Decl) (ps : Procs) (cs : Coms) → IsCom p (block i ds ps cs) → BlockShape p (block i ds ps cs)
  block_shape i ds ps cs h =
      let z : long p ≡ length ds + size_procs ps + size_coms cs + 1 = h.whole in
      let l = ends_last p z h.at.0 in
      let a : (last_node p).a ≡ length ds = ap (λ (i : ℕ). (node_at p.nodes.now i).a) (sym l) ∙ h.at.1 in
      let m : (last_node p).c ≡ how_many_coms cs = ap (λ (i : ℕ). (node_at p.nodes.now i).c) (sym l) ∙ h.at.3 in
      let k : commands_at p ≡ 0 + length ds + size_procs ps = skip_are p (last_node p).c cs (0 + length ds + size_procs ps) (long p - 1) m h.at.6 (omega arith) (omega arith) in
      let hq : ProcsAt p.nodes.now p.lens.now p.first (last_node p).a ps = subst (λ (s : ℕ). ProcsAt p.nodes.now p.lens.now p.first s ps) (omega arith) h.at.5 in
      let hr : ComsAt p.nodes.now p.lens.now p.first (commands_at p) cs = subst (λ (s : ℕ). ComsAt p.nodes.now p.lens.now p.first s cs) (sym k) h.at.6 in
      record {
        blocked = record {
          some = omega arith;
          row = record { s = 0 + length ds + size_procs ps; cs = cs; at = h.at.6; ends = omega arith; many = m; within = omega arith };
          order = omega arith;
          low = omega arith;
        };
        view = λ v q r c.
            let d = is_decls ds c.variables (omega arith) (omega arith) h.at.4 in
            let iq = is_procs ps c.procedures (omega arith) (omega arith) hq in
            let ir = is_coms cs c.commands (omega arith) (omega arith) hr in
            record {
              ps = ps;
              cs = cs;
              is = ap₂ (λ (j : ℕ) (ds : List Decl). block j ds ps cs) (ends_place p z h.at.0) (sym d);
              procedures = iq;
              commands = ir;
              procedures_in = inside (omega arith) (omega arith) c.procedures;
              commands_in = inside (omega arith) (omega arith) c.commands;
              sizes = omega (arith, cut_long c.variables (omega arith) (omega arith), iq.whole, ir.whole);
            };
      }

  shape : (c : Com) → IsCom p c → (k : Kind) × (with_number (last_node p).kind ≡ Some k) × Shape p k c
  shape (null i) h = (Null, ends_kind p h.whole h.at, ap null (ends_place p h.whole h.at))
  shape (assign i m e) h = (
    Assign,
    ends_kind p h.whole h.at.0.end,
    λ v c. record {
      e = e;
      is = ap₂ (λ (j n : ℕ). assign j n e) (ends_place p h.whole h.at.0.end) (name_last h.whole h.at.0);
      value = is_expr e c (omega (arith, h.whole)) (omega arith) h.at.1;
    },
  )
  shape (if i e x z) h = (If, ends_kind p h.whole h.at.0, if_shape i e x z h)
  shape (while i e x) h = (While, ends_kind p h.whole h.at.0, while_shape i e x h)
  shape (call i m xs) h = (Call, ends_kind p h.whole h.at.0.end, call_shape i m xs h)
  shape (block i ds ps cs) h = (Block, ends_kind p h.whole h.at.0, block_shape i ds ps cs h)

  -- at the kind that the code has found
  pub shape_of : (k : Kind) (c : Com) → with_number (last_node p).kind ≡ Some k → IsCom p c → Shape p k c
  shape_of k c e h = let w = shape c h in subst (λ (k : Kind). Shape p k c) (some_is _ _ (sym w.1 ∙ e)) w.2

  pub com_known : (c : Com) → IsCom p c → is_some (with_number (last_node p).kind) ≡ true
  com_known c h = ap is_some (shape c h).1

  pub com_long : (c : Com) → IsCom p c → 1 ≤ long p
  com_long c h = omega (arith, h.whole, com_some c)

  -- a command is of no other kind
  pub no_other : (k : Kind) (c : Com) → (k ≡ Null → ⊥) → (k ≡ Assign → ⊥) → (k ≡ If → ⊥) → (k ≡ While → ⊥) → (k ≡ Call → ⊥) → (k ≡ Block → ⊥) → Shape p k c → ⊥
  no_other Truth x a b c d e f h = h
  no_other Whole x a b c d e f h = h
  no_other Read x a b c d e f h = h
  no_other Plus x a b c d e f h = h
  no_other Less x a b c d e f h = h
  no_other Or x a b c d e f h = h
  no_other Null x a b c d e f h = a refl
  no_other Assign x a b c d e f h = b refl
  no_other If x a b c d e f h = c refl
  no_other While x a b c d e f h = d refl
  no_other Call x a b c d e f h = e refl
  no_other Argument x a b c d e f h = h
  no_other DeclKind x a b c d e f h = h
  no_other Proc x a b c d e f h = h
  no_other Block x a b c d e f h = f refl

  -- with the name that the code has read
  pub assign_shows : (n : Node) (c : Com) (v : Part) → n ≡ last_node p → Assigns p (last_node p).name v c → Assigns p n.name v c
  assign_shows n c v e h = subst (λ (m : ℕ). Assigns p m v c) (ap (λ (n : Node). n.name) (sym e)) h

  pub call_shows : (n : Node) (c : Com) (a : Part) → n ≡ last_node p → Calls p (last_node p).name a c → Calls p n.name a c
  call_shows n c a e h = subst (λ (m : ℕ). Calls p m a c) (ap (λ (n : Node). n.name) (sym e)) h
