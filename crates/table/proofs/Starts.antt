-- For who reads the lengths: the start of a stretch is where its length says.
use Rattle.std.proofs.Common.{◌≡◌, ℕ, ◌+◌, ◌≤◌, List, get_or, arith}
use Rattle.language.specs.declared.tables.Node.{Node}
use Rattle.language.specs.declared.tables.Kind.{Kind}
use Rattle.table.specs.Walk.{start_at}
use Rattle.table.specs.Stretches.{Ends}

module _ (ns : List Node) (ls : List ℕ) (o : ℕ) {s z i : ℕ} {k : Kind} (h : Ends ns ls o s z i k) where
  pub len_fits : get_or ls h.last 0 ≤ h.last + 1
  len_fits = omega (arith, h.ends, h.len)

  pub start_is : start_at ls h.last ≡ s
  start_is = omega (arith, h.ends, h.len)
