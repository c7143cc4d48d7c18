use Rattle.piece.specs.Replay.{start}
use Rattle.piece.proofs.Replays.{Playing}
use Rattle.piece.proofs.lists.replay.Given as goal

abbrev pub invariant-loop-i : goal.invariant-loop-i
invariant-loop-i g l =
    Playing g.S.Store (start g.S.Store l.initial.piece.store l.number) l.tables l.initial.lists l.lists l.calls l.answer-items l.i l.piece
