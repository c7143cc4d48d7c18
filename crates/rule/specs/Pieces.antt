-- Parts of a table that are exactly the stretch of one piece.
use Rattle.std.specs.Prelude.{◌≡◌, ℕ, zero, suc, ◌+◌, ◌-◌, ◌≤◌, List, length, take, drop, slice_index, slice_index_or, slice_range}
use Rattle.language.specs.declared.tables.Node.{Node}
use Rattle.language.specs.Tree.{Decl, Expr, Com, Procs, Coms}
use Rattle.language.specs.Spelling.{how_many_coms, size_expr, size, size_procs, size_coms}
use Rattle.table.specs.Stretches.{node_at, ExprAt, ComAt, ProcAt, ProcsAt, ComsAt}
use Rattle.rule.specs.declared.parts.Part.{Part}

abbrev pub long : Part → ℕ
long p = length p.nodes.now

abbrev pub last_node : Part → Node
last_node p = node_at p.nodes.now (long p - 1)

-- the number of the last node
abbrev pub placed : Part → ℕ
placed p = p.first + (long p - 1)

-- q is the nodes of p from s to e
pub record Cut (p q : Part) (s e : ℕ) : Type 0 where
  pub nodes : q.nodes.now ≡ slice_range p.nodes.now s e
  pub lens : q.lens.now ≡ slice_range p.lens.now s e
  pub first : q.first ≡ p.first + s

abbrev pub begins : Part → ℕ → ℕ
begins p e = e - slice_index p.lens.now (e - 1)

-- a piece ends right before e
pub record Ended (p : Part) (e : ℕ) : Type 0 where
  pub some : 1 ≤ e
  pub within : e ≤ long p
  pub fits : slice_index_or p.lens.now (e - 1) 0 ≤ e

-- a piece ends right before the last node
pub record Halved (p : Part) : Type 0 where
  pub some : 1 ≤ long p
  pub ended : Ended p (long p - 1)

-- l and r are what stands before that piece, and the piece
pub record Halves (p l r : Part) : Type 0 where
  pub left : Cut p l 0 (begins p (long p - 1))
  pub right : Cut p r (begins p (long p - 1)) (long p - 1)

-- two pieces end right before the last node
pub record Thirded (p : Part) : Type 0 where
  pub some : 1 ≤ long p
  pub third : Ended p (long p - 1)
  pub second : Ended p (begins p (long p - 1))

-- f, s and t are what stands before those pieces, and the pieces
pub record Thirds (p f s t : Part) : Type 0 where
  pub first : Cut p f 0 (begins p (begins p (long p - 1)))
  pub second : Cut p s (begins p (begins p (long p - 1))) (begins p (long p - 1))
  pub third : Cut p t (begins p (long p - 1)) (long p - 1)

-- r is the last piece, and l what stands before it
pub record Lasts (p l r : Part) : Type 0 where
  pub some : 1 ≤ long p
  pub left : Cut p l 0 (begins p (long p))
  pub right : Cut p r (begins p (long p)) (long p)

-- n commands end right before e
pub record RowEnds (p : Part) (n e : ℕ) : Type 0 where
  pub s : ℕ
  pub cs : Coms
  pub at : ComsAt p.nodes.now p.lens.now p.first s cs
  pub ends : e ≡ s + size_coms cs
  pub many : n ≡ how_many_coms cs
  pub within : e ≤ long p

-- back over n pieces that end right before e
abbrev pub skipped : Part → ℕ → ℕ → ℕ
skipped p zero e = e
skipped p (suc n) e = skipped p n (begins p e)

-- where the commands of a block begin
abbrev pub commands_at : Part → ℕ
commands_at p = skipped p (last_node p).c (long p - 1)

pub record Blocked (p : Part) : Type 0 where
  pub some : 1 ≤ long p
  pub row : RowEnds p (last_node p).c (long p - 1)
  pub order : (last_node p).a ≤ commands_at p
  pub low : commands_at p ≤ long p - 1

-- v, q and r are the variables, the procedures and the commands
pub record BlockCuts (p v q r : Part) : Type 0 where
  pub variables : Cut p v 0 (last_node p).a
  pub procedures : Cut p q (last_node p).a (commands_at p)
  pub commands : Cut p r (commands_at p) (long p - 1)

pub record ProcEnds (p : Part) : Type 0 where
  pub some : 1 ≤ long p
  pub order : (last_node p).a ≤ long p - 1

-- f and b are the formals and the body
pub record ProcCuts (p f b : Part) : Type 0 where
  pub formals : Cut p f 0 (last_node p).a
  pub body : Cut p b (last_node p).a (long p - 1)

-- q is cut out of p
pub record Inside (p q : Part) : Type 0 where
  pub s : ℕ
  pub e : ℕ
  pub order : s ≤ e
  pub within : e ≤ long p
  pub cut : Cut p q s e

-- the part is cut out of the table
pub record Lies (table : List Node) (p : Part) : Type 0 where
  pub nodes : p.nodes.now ≡ take (long p) (drop p.first table)
  pub within : p.first + long p ≤ length table

-- the part is exactly this expression
pub record IsExpr (p : Part) (x : Expr) : Type 0 where
  pub at : ExprAt p.nodes.now p.lens.now p.first 0 x
  pub whole : long p ≡ size_expr x

pub record IsCom (p : Part) (c : Com) : Type 0 where
  pub at : ComAt p.nodes.now p.lens.now p.first 0 c
  pub whole : long p ≡ size c

pub record IsComs (p : Part) (cs : Coms) : Type 0 where
  pub at : ComsAt p.nodes.now p.lens.now p.first 0 cs
  pub whole : long p ≡ size_coms cs

pub record IsProcs (p : Part) (ps : Procs) : Type 0 where
  pub at : ProcsAt p.nodes.now p.lens.now p.first 0 ps
  pub whole : long p ≡ size_procs ps

-- one procedure
pub record IsProc (p : Part) (i m : ℕ) (fs : List Decl) (c : Com) : Type 0 where
  pub at : ProcAt p.nodes.now p.lens.now p.first 0 i m fs c
  pub whole : long p ≡ length fs + size c + 1
