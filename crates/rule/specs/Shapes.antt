-- What the check sees of a command.
use Rattle.std.specs.Prelude.{◌≡◌, ℕ, ◌+◌}
use Rattle.language.specs.Tree.{Expr, Com, Procs, Coms, null, assign, if, while, call, block}
use Rattle.rule.specs.declared.parts.Part.{Part}
use Rattle.rule.specs.declared.forms.ComView.{ComView}
use Rattle.rule.specs.declared.forms.ComView.TheVariants.{Null, Assign, If, While, Call, Block}
use Rattle.rule.specs.Pieces.{long, placed, Inside, IsExpr, IsCom, IsComs, IsProcs}
use Rattle.rule.specs.Rows.{decls_from, args_from}

-- an assignment to the name m, with the expression in v
pub record Assigns (p : Part) (m : ℕ) (v : Part) (c : Com) : Type 0 where
  pub e : Expr
  pub is : c ≡ assign (placed p) m e
  pub value : IsExpr v e

pub record Branches (p t y n : Part) (c : Com) : Type 0 where
  pub e : Expr
  pub x : Com
  pub z : Com
  pub is : c ≡ if (placed p) e x z
  pub test : IsExpr t e
  pub yes : IsCom y x
  pub no : IsCom n z
  pub yes_in : Inside p y
  pub no_in : Inside p n
  pub sizes : long p ≡ long t + long y + long n + 1

pub record Loops (p t b : Part) (c : Com) : Type 0 where
  pub e : Expr
  pub x : Com
  pub is : c ≡ while (placed p) e x
  pub test : IsExpr t e
  pub body : IsCom b x
  pub body_in : Inside p b
  pub sizes : long p ≡ long t + long b + 1

pub record Calls (p : Part) (m : ℕ) (a : Part) (c : Com) : Type 0 where
  pub is : c ≡ call (placed p) m (args_from a.first a.nodes.now)
  pub sizes : long p ≡ long a + 1

pub record Blocks (p v q r : Part) (c : Com) : Type 0 where
  pub ps : Procs
  pub cs : Coms
  pub is : c ≡ block (placed p) (decls_from v.first v.nodes.now) ps cs
  pub procedures : IsProcs q ps
  pub commands : IsComs r cs
  pub procedures_in : Inside p q
  pub commands_in : Inside p r
  pub sizes : long p ≡ long v + long q + long r + 1

abbrev pub ShowsCom : ComView → Part → Com → Type 0
ShowsCom Null p c = c ≡ null (placed p)
ShowsCom (Assign m v) p c = Assigns p m v c
ShowsCom (If t y n) p c = Branches p t y n c
ShowsCom (While t b) p c = Loops p t b c
ShowsCom (Call m a) p c = Calls p m a c
ShowsCom (Block v q r) p c = Blocks p v q r c
