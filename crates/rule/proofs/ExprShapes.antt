-- What the kind of the last node tells of an expression.
use Rattle.std.proofs.Common.{◌≡◌, ℕ, ◌+◌, ◌-◌, ◌≤◌, true, get_or, is_some, Some, Ok, sym, refl, ap, ◌∙◌, subst, arith}
use Rattle.language.proofs.Binds.{some_is}
use Rattle.language.specs.declared.tables.Node.{Node}
use Rattle.language.specs.declared.tables.Kind.{Kind}
use Rattle.language.specs.declared.tables.Kind.TheVariants.{Truth, Whole, Read, Plus, Less, Or, Null, Assign, If, While, Call, Argument, Decl as DeclKind, Proc, Block}
use Rattle.language.specs.declared.values.Scalar.{Scalar}
use Rattle.language.specs.declared.values.Scalar.TheVariants.{Whole as wholes, Truth as truths}
use Rattle.language.specs.Kinds.{with_number}
use Rattle.language.specs.Tree.{Expr, truth, whole, read, plus, less, or}
use Rattle.language.specs.Spelling.{size_expr}
use Rattle.language.specs.Sight.{look}
use Rattle.language.specs.Names.{as_variable, check_expr}
use Rattle.table.specs.Stretches.{node_at, Ends, ExprAt}
use Rattle.rule.specs.declared.parts.Part.{Part}
use Rattle.rule.specs.declared.expressions.ExprView.{ExprView}
use Rattle.rule.specs.Pieces.{long, last_node, placed, begins, Ended, Halved, Halves, IsExpr}
use Rattle.rule.specs.Seen.{Names}
use Rattle.rule.specs.Shown.{both, Pair, Shows, Operates}
use Rattle.rule.proofs.Cuts.{expr_some, is_expr}

-- two operands can be cut out
pub record Split (p : Part) (want give : Scalar) (x : Expr) : Type 0 where
  pub halved : Halved p
  pub pair : (l r : Part) → Halves p l r → Pair p l r want give x

abbrev pub Shape : Part → Kind → Expr → Type 0
Shape p Truth x = (ρ : Names) → check_expr ρ x ≡ Ok truths
Shape p Whole x = (ρ : Names) → check_expr ρ x ≡ Ok wholes
Shape p Read x = (ρ : Names) → check_expr ρ x ≡ as_variable (placed p) (look (last_node p).name ρ)
Shape p Plus x = Split p wholes wholes x
Shape p Less x = Split p wholes truths x
Shape p Or x = Split p truths truths x
Shape p Null x = ⊥
Shape p Assign x = ⊥
Shape p If x = ⊥
Shape p While x = ⊥
Shape p Call x = ⊥
Shape p Argument x = ⊥
Shape p DeclKind x = ⊥
Shape p Proc x = ⊥
Shape p Block x = ⊥

module _ (p : Part) where
  -- a stretch that is the whole part ends with its last node
  pub ends_last : {o z i : ℕ} {k : Kind} → long p ≡ z → (h : Ends p.nodes.now p.lens.now o 0 z i k) → h.last ≡ long p - 1
  ends_last e h = omega (arith, h.ends)

  pub ends_kind : {o z i : ℕ} {k : Kind} → long p ≡ z → Ends p.nodes.now p.lens.now o 0 z i k → with_number (last_node p).kind ≡ Some k
  ends_kind e h = ap (λ (i : ℕ). with_number (node_at p.nodes.now i).kind) (sym (ends_last e h)) ∙ h.kind

  pub ends_place : {z i : ℕ} {k : Kind} → long p ≡ z → Ends p.nodes.now p.lens.now p.first 0 z i k → i ≡ placed p
  ends_place e h = h.number ∙ ap (λ (l : ℕ). p.first + l) (ends_last e h)

  -- the piece that ends right before e begins where its length says
  pub ended_at : {o s z i e : ℕ} {k : Kind} → 1 ≤ z → e ≡ s + z → e ≤ long p → Ends p.nodes.now p.lens.now o s z i k → Ended p e × (begins p e ≡ s)
  ended_at {o} {s} {z} {i} {e} so q le h =
      let j : h.last ≡ e - 1 = omega (arith, h.ends) in
      let l : get_or p.lens.now (e - 1) 0 ≡ z = ap (λ (i : ℕ). get_or p.lens.now i 0) (sym j) ∙ h.len in
      (record { some = omega arith; within = le; fits = omega arith }, omega arith)

  pub expr_ended : (x : Expr) (s e : ℕ) → e ≡ s + size_expr x → e ≤ long p → ExprAt p.nodes.now p.lens.now p.first s x → Ended p e × (begins p e ≡ s)
  expr_ended (truth b) s e q le h = ended_at (omega arith) q le h
  expr_ended (whole z) s e q le h = ended_at (omega arith) q le h
  expr_ended (read i m) s e q le h = ended_at (omega arith) q le h.end
  expr_ended (plus i l r) s e q le h = ended_at (omega arith) q le h.0
  expr_ended (less i l r) s e q le h = ended_at (omega arith) q le h.0
  expr_ended (or i l r) s e q le h = ended_at (omega arith) q le h.0

  split : (want give : Scalar) (x l r : Expr) → long p ≡ size_expr l + size_expr r + 1 → ExprAt p.nodes.now p.lens.now p.first 0 l
      → ExprAt p.nodes.now p.lens.now p.first (0 + size_expr l) r → ((ρ : Names) → check_expr ρ x ≡ both ρ l r want give (placed p)) → Split p want give x
  split want give x l r e hl hr says =
      let b = expr_ended r (0 + size_expr l) (long p - 1) (omega arith) (omega arith) hr in
      let m : begins p (long p - 1) ≡ size_expr l = b.1 ∙ omega arith in
      let hr' : ExprAt p.nodes.now p.lens.now p.first (begins p (long p - 1)) r = subst (λ (s : ℕ). ExprAt p.nodes.now p.lens.now p.first s r) (sym b.1) hr in
      record {
        halved = record { some = omega arith; ended = b.0 };
        pair = λ u v h.
            let il = is_expr l h.left (omega arith) (omega arith) hl in
            let ir = is_expr r h.right (omega arith) (omega arith) hr' in
            record { e = l; f = r; left = il; right = ir; sizes = omega (arith, il.whole, ir.whole); says = says };
      }

  shape : (x : Expr) → IsExpr p x → (k : Kind) × (with_number (last_node p).kind ≡ Some k) × Shape p k x
  shape (truth b) h = (Truth, ends_kind h.whole h.at, λ ρ. refl)
  shape (whole z) h = (Whole, ends_kind h.whole h.at, λ ρ. refl)
  shape (read i m) h =
      let n : (last_node p).name ≡ m = ap (λ (i : ℕ). (node_at p.nodes.now i).name) (sym (ends_last h.whole h.at.end)) ∙ h.at.name in
      (Read, ends_kind h.whole h.at.end, λ ρ. rw (ends_place h.whole h.at.end, n) refl)
  shape (plus i l r) h = (
    Plus,
    ends_kind h.whole h.at.0,
    split wholes wholes (plus i l r) l r h.whole h.at.1 h.at.2 (λ ρ. ap (both ρ l r wholes wholes) (ends_place h.whole h.at.0)),
  )
  shape (less i l r) h = (
    Less,
    ends_kind h.whole h.at.0,
    split wholes truths (less i l r) l r h.whole h.at.1 h.at.2 (λ ρ. ap (both ρ l r wholes truths) (ends_place h.whole h.at.0)),
  )
  shape (or i l r) h = (
    Or,
    ends_kind h.whole h.at.0,
    split truths truths (or i l r) l r h.whole h.at.1 h.at.2 (λ ρ. ap (both ρ l r truths truths) (ends_place h.whole h.at.0)),
  )

  -- at the kind that the code has found
  pub shape_of : (k : Kind) (x : Expr) → with_number (last_node p).kind ≡ Some k → IsExpr p x → Shape p k x
  shape_of k x e h = let w = shape x h in subst (λ (k : Kind). Shape p k x) (some_is _ _ (sym w.1 ∙ e)) w.2

  pub expr_known : (x : Expr) → IsExpr p x → is_some (with_number (last_node p).kind) ≡ true
  expr_known x h = ap is_some (shape x h).1

  pub expr_long : (x : Expr) → IsExpr p x → 1 ≤ long p
  expr_long x h = omega (arith, h.whole, expr_some x)

  pub operates : {v : ExprView} {want give : Scalar} (x : Expr) → Split p want give x → Operates p v want give → Shows v p x
  operates {v} x s o = subst (λ (v : ExprView). Shows v p x) (sym o.is) (s.pair o.l o.r o.halves)

  pub read_shows : (n : Node) (x : Expr) → n ≡ last_node p → Shape p Read x → (ρ : Names) → check_expr ρ x ≡ as_variable (placed p) (look n.name ρ)
  read_shows n x e h ρ = h ρ ∙ ap (λ (n : Node). as_variable (placed p) (look n.name ρ)) (sym e)

  -- an expression is of no other kind
  pub no_other : (k : Kind) (x : Expr) → (k ≡ Truth → ⊥) → (k ≡ Whole → ⊥) → (k ≡ Read → ⊥) → (k ≡ Plus → ⊥) → (k ≡ Less → ⊥) → (k ≡ Or → ⊥)
      → Shape p k x → ⊥
  no_other Truth x a b c d e f h = a refl
  no_other Whole x a b c d e f h = b refl
  no_other Read x a b c d e f h = c refl
  no_other Plus x a b c d e f h = d refl
  no_other Less x a b c d e f h = e refl
  no_other Or x a b c d e f h = f refl
  no_other Null x a b c d e f h = h
  no_other Assign x a b c d e f h = h
  no_other If x a b c d e f h = h
  no_other While x a b c d e f h = h
  no_other Call x a b c d e f h = h
  no_other Argument x a b c d e f h = h
  no_other DeclKind x a b c d e f h = h
  no_other Proc x a b c d e f h = h
  no_other Block x a b c d e f h = h
