use Rattle.std.proofs.Common.{◌≡◌, take}
use Rattle.piece.specs.Views.{Placed}
use Rattle.piece.proofs.points.take_locations.Given as goal

abbrev pub invariant-loop-point : goal.invariant-loop-point
invariant-loop-point g l =
    (g.S.Store.bound l.store ≡ g.S.Store.bound l.initial.store)
    × Placed (g.S.Store.at l.store) (take l.point-index l.point-items)
