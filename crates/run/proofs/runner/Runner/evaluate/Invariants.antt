use Rattle.std.proofs.Common.{◌≡◌, ◌+◌, ◌-◌, ◌≤◌, []}
use Rattle.table.specs.Walk.{start_at}
use Rattle.run.specs.Names.{sees}
use Rattle.run.specs.Levels.{values}
use Rattle.run.specs.Evaluation.{nodes_done}
use Rattle.run.specs.Running.{ChangesOnlyValues}
use Rattle.run.proofs.runner.Runner.evaluate.Given as goal

abbrev pub invariant-loop-j : goal.invariant-loop-j
invariant-loop-j g l =
    let r = l.fn.self in
    let start = start_at r.table.lens.now l.at in
    let ρ = sees r.scope.records.now r.scope.head in
    let σ = g.S.Store.at l.store in
    let s = l.self.stack in
    (s.height + start ≤ l.j)
    × (nodes_done r.table.nodes.now ρ σ l.j (l.at + 1 - l.j) (values s.levels.now s.depth s.height) ≡ nodes_done r.table.nodes.now ρ σ start (l.at + 1 - start) [])
    × ChangesOnlyValues r l.self
