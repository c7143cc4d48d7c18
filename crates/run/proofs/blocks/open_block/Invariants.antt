use Rattle.std.proofs.Common.{◌≡◌}
use Rattle.run.proofs.Opens.{Opening}
use Rattle.run.proofs.blocks.open_block.Given as goal

abbrev pub invariant-loop-node : goal.invariant-loop-node
invariant-loop-node g l =
    (g.S.Store.bound l.store ≡ g.S.Store.bound l.initial.store)
    × Opening (g.S.Store.bound l.initial.store) l.table.nodes.now l.from l.node-index
    l.initial.scope.records.now l.initial.scope.top l.initial.scope.head (g.S.Store.at l.initial.store)
    l.scope.records.now l.scope.top l.scope.head (g.S.Store.at l.store)
