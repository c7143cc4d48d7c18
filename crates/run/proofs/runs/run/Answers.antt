use Rattle.std.proofs.Common.{◌≡◌, List, length, refl, ap, ◌∙◌, arith, length-take-le, to_z-of_z, w32, SFits, rules}
use Rattle.language.specs.declared.tables.Node.{Node}
use Rattle.language.specs.Memory.{live}
use Rattle.std.proofs.lemmas.Result.{err_from_is_err_and}
use Rattle.run.specs.declared.tables.Table.{Table}
use Rattle.run.proofs.Whole.{Finished, lengths_front, long_lists, accepted_same, ran_same, refused, units_within, not_stuck, finished, finished_stopped}
use Rattle.run.proofs.runs.run.Goals as goal
use Rattle.run.proofs.runs.run.Goals.{in-Ok, in-Err}

pub returns-in_err-ask : goal.returns-in_err-ask
returns-in_err-ask g c =
    let p = err_from_is_err_and c.from_residual.result c.from_residual.ensures.1 in
    let f = refused c.args.rule.now.nodes.now _ c.args.step c.args.allowance _ _ _ _ _ _ (g.S.Store.within c.args.store.now) _ refl c.in_err-ask.ensures.answer in
    rw (p.1, p.2) record { answers = f.answers; own_run = f.own_run; never_stuck = f.never_stuck; store_kept = refl; limit_kept = refl }

pub invariant_of-table : goal.invariant_of-table
invariant_of-table g c =
    let n : length c.nodes-nodes.result.now ≡ length c.args.rule.now.nodes.now = ap (λ (t : List Node). length t) c.nodes-nodes.ensures.nodes in
    let l = c.args.lists in
    let q = long_lists (length c.args.rule.now.nodes.now) c.args.rule.now.need (length l.lens.now) (length l.names.now) (length l.levels.now) (g.S.Store.bound c.args.store.now) (live (g.S.Store.at c.args.store.now)) _
    c.in_ok-ask.ensures.answer in
    record {
      size = length-take-le _ c.measure.new.lens (omega (arith, q.0));
      lengths = lengths_front c.nodes-nodes.result.now c.measure.new.lens c.in_ok-measure.ensures.stretches;
    }

pub overflow_sub-result : goal.overflow_sub-result
overflow_sub-result g c =
    let within = units_within _ _ _ _ _ _ _ _ _ _ (g.S.Store.within c.args.store.now) (accepted_same c.nodes-nodes.ensures.nodes c.nodes-nodes.ensures.accepted) _ c.in_ok-ask.ensures.answer
    _ _ (ran_same (ap (λ (t : Table). t.nodes.now) c.new.ensures.table ∙ c.nodes-nodes.ensures.nodes) (to_z-of_z c.ranges.step) (rw c.new.ensures.units at c.in-Ok.ensures.ran)) in
    omega (arith, within)

pub refusal-requires : goal.refusal-requires
refusal-requires g c =
    record {
      not_stuck = not_stuck _ _ _ _ _ _ _ _ _ _ (g.S.Store.within c.args.store.now) (accepted_same c.nodes-nodes.ensures.nodes c.nodes-nodes.ensures.accepted) _ c.in_ok-ask.ensures.answer
          _ (ran_same (ap (λ (t : Table). t.nodes.now) c.new.ensures.table ∙ c.nodes-nodes.ensures.nodes) (to_z-of_z c.ranges.step) (rw c.new.ensures.units at c.in-Err.ensures.ran));
    }

pub returns : goal.returns
returns g c =
    let s = c.args.store.now in
    let rule = c.args.rule.now in
    let l = c.args.lists in
    let f : Finished rule.nodes.now rule.need c.args.step c.args.allowance (length l.lens.now) (length l.names.now) (length l.levels.now) (g.S.Store.bound s) (g.S.Store.at s) (g.S.Store.at c.run_table-ran.new.store) c.match-ran.result =
    elim c.match-ran.branch [
      | in-Ok w ↦
          let r : SFits w32 w.in-Ok.shift = search rules in
          rw w.result-is (finished _ _ _ _ _ _ _ _ _ _ (g.S.Store.within c.args.store.now) (accepted_same c.nodes-nodes.ensures.nodes c.nodes-nodes.ensures.accepted) _ c.in_ok-ask.ensures.answer
          _ _ _ (to_z-of_z r) (ran_same (ap (λ (t : Table). t.nodes.now) c.new.ensures.table ∙ c.nodes-nodes.ensures.nodes) (to_z-of_z c.ranges.step) (rw c.new.ensures.units at w.in-Ok.ensures.ran)))
      | in-Err w ↦
          rw w.result-is (finished_stopped _ _ _ _ _ _ _ _ _ _ (g.S.Store.within c.args.store.now) (accepted_same c.nodes-nodes.ensures.nodes c.nodes-nodes.ensures.accepted) _ c.in_ok-ask.ensures.answer
          _ _ w.refusal.ensures.told (ran_same (ap (λ (t : Table). t.nodes.now) c.new.ensures.table ∙ c.nodes-nodes.ensures.nodes) (to_z-of_z c.ranges.step) (rw c.new.ensures.units at w.in-Err.ensures.ran)))
    ] in
    record { answers = f.answers; own_run = f.own_run; never_stuck = f.never_stuck; store_kept = f.store_kept; limit_kept = c.run_table-ran.ensures.limit_kept }
