use Rattle.std.proofs.Common.{◌≡◌, ℕ, ◌-◌}
use Rattle.language.specs.Runs.{release_all, ended}
use Rattle.run.specs.Names.{locations_from}
use Rattle.run.proofs.blocks.close_block.Given as goal

abbrev pub invariant-loop-k : goal.invariant-loop-k
invariant-loop-k g l =
    (g.S.Store.bound l.store ≡ g.S.Store.bound l.initial.store)
    × ((u : ℕ) → release_all (locations_from l.scope.records.now l.from (l.k - l.from)) (g.S.Store.at l.initial.store) u (ended tt (g.S.Store.at l.store) u))
