use Rattle.std.proofs.Common.{length}
use Rattle.run.proofs.Opens.{BindingOn}
use Rattle.run.proofs.blocks.bind_arguments.Given as goal

abbrev pub invariant-loop-argument : goal.invariant-loop-argument
invariant-loop-argument l =
    BindingOn l.table.nodes.now l.fn.arguments l.fn.formals (length l.yielded) l.initial.scope.records.now l.initial.scope.head l.initial.scope.top l.seen
    l.scope.records.now l.scope.top l.inner
