use Rattle.piece.proofs.Passes.{Remembered}
use Rattle.piece.proofs.points.remember.Given as goal

abbrev pub invariant-loop-point : goal.invariant-loop-point
invariant-loop-point g l = Remembered (g.S.Store.at l.store) l.initial.point-items l.point-items l.point-index
