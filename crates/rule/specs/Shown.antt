-- What the check sees of a part that is one piece.
use Rattle.std.specs.Prelude.{◌≡◌, ℕ, ◌+◌, ◌&&◌, Ok, Result}
use Rattle.language.specs.declared.values.Scalar.{Scalar}
use Rattle.language.specs.declared.faults.Fault.{Fault}
use Rattle.language.specs.declared.faults.NamesCause.TheVariants.{Types}
use Rattle.language.specs.Tree.{Expr}
use Rattle.language.specs.Results.{◌>>=◌, asked}
use Rattle.language.specs.Values.{alike}
use Rattle.language.specs.Sight.{look}
use Rattle.language.specs.Names.{refusal, as_variable, check_expr}
use Rattle.rule.specs.declared.parts.Part.{Part}
use Rattle.rule.specs.declared.expressions.ExprView.{ExprView}
use Rattle.rule.specs.declared.expressions.ExprView.TheVariants.{Constant, Read, Operator}
use Rattle.rule.specs.Pieces.{long, placed, IsExpr, Halves}
use Rattle.rule.specs.Seen.{Names}

abbrev pub SomeExpr : Part → Type 0
SomeExpr p = (x : Expr) × IsExpr p x

abbrev pub both : Names → Expr → Expr → Scalar → Scalar → ℕ → Result Scalar Fault
both ρ e f want give i =
    check_expr ρ e >>= λ t. check_expr ρ f >>= λ u. asked (alike t want && alike u want) (refusal Types i) >>= λ _. Ok give

-- l and r are the operands
pub record Pair (p l r : Part) (want give : Scalar) (x : Expr) : Type 0 where
  pub e : Expr
  pub f : Expr
  pub left : IsExpr l e
  pub right : IsExpr r f
  pub sizes : long p ≡ long l + long r + 1
  pub says : (ρ : Names) → check_expr ρ x ≡ both ρ e f want give (placed p)

abbrev pub Shows : ExprView → Part → Expr → Type 0
Shows (Constant t) p x = (ρ : Names) → check_expr ρ x ≡ Ok t
Shows (Read m) p x = (ρ : Names) → check_expr ρ x ≡ as_variable (placed p) (look m ρ)
Shows (Operator l r want give) p x = Pair p l r want give x

-- a view with the halves of a part
pub record Operates (p : Part) (v : ExprView) (want give : Scalar) : Type 0 where
  pub l : Part
  pub r : Part
  pub halves : Halves p l r
  pub is : v ≡ Operator l r want give
