use Rattle.run.proofs.Declared.{Declaring}
use Rattle.run.proofs.blocks.enter_procedures.Given as goal

abbrev pub invariant-loop-level : goal.invariant-loop-level
invariant-loop-level l =
    Declaring l.table.nodes.now l.table.lens.now l.stack.levels.now l.stack.depth l.count l.level-index
    l.initial.scope.records.now l.initial.scope.top l.initial.scope.head l.scope.records.now l.scope.top l.scope.head
