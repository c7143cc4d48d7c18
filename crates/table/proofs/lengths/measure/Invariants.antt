use Rattle.std.proofs.Common.{◌≡◌, [], length, drop}
use Rattle.language.specs.Table.{Stack, build_from}
use Rattle.table.specs.Walk.{Short}
use Rattle.table.specs.Pieces.{Stacked}
use Rattle.table.proofs.lengths.measure.Given as goal

abbrev pub invariant-loop-at : goal.invariant-loop-at
invariant-loop-at l =
    (st : Stack) × Stacked l.nodes l.lens l.at st
    × (build_from l.at (drop l.at l.nodes) st ≡ build_from 0 l.nodes []) × Short l.lens l.at
    × (drop (length l.nodes) l.lens ≡ drop (length l.nodes) l.initial.lens)
