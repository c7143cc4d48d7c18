-- Rules as trees. Each part keeps the number of the node that stands for it.
use Rattle.std.specs.Prelude.{ℕ, Bool, List, ℤ}
use Rattle.language.specs.declared.values.Scalar.{Scalar}

pub record Decl : Type 0 where
  pub at : ℕ
  pub name : ℕ
  pub type : Scalar

pub record Arg : Type 0 where
  pub at : ℕ
  pub name : ℕ

pub data Expr : Type 0 where
  truth : Bool → Expr
  whole : ℤ → Expr
  read : (at name : ℕ) → Expr
  plus : (at : ℕ) → Expr → Expr → Expr
  less : (at : ℕ) → Expr → Expr → Expr
  or : (at : ℕ) → Expr → Expr → Expr

mutual
  pub data Com : Type 0 where
    null : (at : ℕ) → Com
    assign : (at name : ℕ) → Expr → Com
    if : (at : ℕ) → Expr → Com → Com → Com
    while : (at : ℕ) → Expr → Com → Com
    call : (at name : ℕ) → List Arg → Com
    block : (at : ℕ) → List Decl → Procs → Coms → Com

  pub data Procs : Type 0 where
    pnil : Procs
    pcons : (at name : ℕ) → List Decl → Com → Procs → Procs

  pub data Coms : Type 0 where
    cnil : Coms
    ccons : Com → Coms → Coms
