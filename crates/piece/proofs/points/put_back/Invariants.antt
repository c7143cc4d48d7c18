use Rattle.std.proofs.Common.{◌≡◌}
use Rattle.history.specs.States.{holding}
use Rattle.piece.specs.Views.{locations, shifts, remembered}
use Rattle.piece.proofs.Fronts.{front}
use Rattle.piece.proofs.points.put_back.Given as goal

abbrev pub invariant-loop-point : goal.invariant-loop-point
invariant-loop-point g l =
    (g.S.Store.bound l.store ≡ g.S.Store.bound l.initial.store)
    × (g.S.Store.at l.store
    ≡ holding (locations l.points) (front l.point-index (remembered l.points) (shifts (g.S.Store.at l.initial.store) l.points)))
