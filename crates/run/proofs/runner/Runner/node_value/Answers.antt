use Rattle.std.proofs.Common.{◌≡◌, Some, sym, ◌∙◌}
use Rattle.std.proofs.lemmas.Result.{err_from_is_err_and}
use Rattle.run.specs.Shapes.{kind_at}
use Rattle.run.specs.Evaluation.{operator_value}
use Rattle.run.proofs.Stacks.{operated_few, as_operator}
use Rattle.run.proofs.runner.Runner.node_value.Goals as goal

pub returns-in_err-left-in_default : goal.returns-in_err-left-in_default
returns-in_err-left-in_default g c =
    let p = err_from_is_err_and c.from_residual-in_err-left-in_default.result c.from_residual-in_err-left-in_default.ensures.1 in
    let r = c.args.self.now in
    let e = c.in_err-left-in_default.ensures.operands in
    let k : kind_at r.table.nodes.now c.args.at ≡ Some c.in_ok-kind.kind = sym c.kind.ensures.kind ∙ c.in_ok-kind.ensures.ok_part in
    let d = c.in_default in
    record {
      done = rw (p.1, p.2, e.1, k, as_operator _ _ c.in_ok-kind.kind _ _ _ d.not-Truth d.not-Whole d.not-Read)
          (operated_few (operator_value c.in_ok-kind.kind c.args.at) r.stack.levels.now r.stack.depth r.stack.height e.0);
      kept = c.operands.ensures.kept;
      levels_kept = c.operands.ensures.levels_kept;
    }
