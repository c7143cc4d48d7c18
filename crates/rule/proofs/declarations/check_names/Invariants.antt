use Rattle.std.proofs.Common.{◌≡◌, ◌+◌, [], drop}
use Rattle.language.specs.Names.{check_decls}
use Rattle.rule.specs.Rows.{names_of, decls_from}
use Rattle.rule.proofs.declarations.check_names.Given as goal

abbrev pub invariant-loop-k : goal.invariant-loop-k
invariant-loop-k l =
    check_decls (names_of l.part.nodes.now l.k) (decls_from (l.part.first + l.k) (drop l.k l.part.nodes.now))
    ≡ check_decls [] (decls_from l.part.first l.part.nodes.now)
