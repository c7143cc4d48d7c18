use Rattle.std.proofs.Common.{arith}
use Rattle.run.specs.Parts.{Outset}
use Rattle.run.proofs.Outsets.{outset_given, rule_performed}
use Rattle.run.proofs.runner.Runner.perform_rule.Goals as goal

pub perform-requires : goal.perform-requires
perform-requires g c =
    let r = c.args.self.now in
    let f = c.requires.fresh in
    let e = rw (c.unwrap.ensures, f.nothing_in_sight, f.seen) at c.enter.ensures.others_kept in
    let t = rw (c.unwrap.ensures, f.nothing_in_sight) at c.enter.ensures.top_after in
    let h = rw (c.unwrap.ensures, f.nothing_in_sight) at c.enter.ensures.head_after in
    let o : Outset r.scope.records.now c.args.input c.args.output c.enter-2.new.self.records.now c.enter-2.new.self.top c.enter-2.new.self.head =
    record {
      records = rw (c.unwrap-2.ensures, t, h, e) at c.enter-2.ensures.others_kept;
      top = rw (c.unwrap-2.ensures, t) at c.enter-2.ensures.top_after;
      head = rw (c.unwrap-2.ensures, t) at c.enter-2.ensures.head_after;
    } in
    let given = outset_given r.scope.records.now c.args.input c.args.output (omega (arith, f.names)) r.table.nodes.now r.table.lens.now _ _ _ o in
    record { no_frames = f.no_frames; levels = omega (arith, given.0, f.levels); records = omega (arith, given.0, given.1, o.top, f.names); procedures = given.2 }

pub returns-clause-performed : goal.returns-clause-performed
returns-clause-performed g c =
    let r = c.args.self.now in
    let f = c.requires.fresh in
    let e = rw (c.unwrap.ensures, f.nothing_in_sight, f.seen) at c.enter.ensures.others_kept in
    let t = rw (c.unwrap.ensures, f.nothing_in_sight) at c.enter.ensures.top_after in
    let h = rw (c.unwrap.ensures, f.nothing_in_sight) at c.enter.ensures.head_after in
    let o : Outset r.scope.records.now c.args.input c.args.output c.enter-2.new.self.records.now c.enter-2.new.self.top c.enter-2.new.self.head =
    record {
      records = rw (c.unwrap-2.ensures, t, h, e) at c.enter-2.ensures.others_kept;
      top = rw (c.unwrap-2.ensures, t) at c.enter-2.ensures.top_after;
      head = rw (c.unwrap-2.ensures, t) at c.enter-2.ensures.head_after;
    } in
    rule_performed r.scope.records.now c.args.input c.args.output (omega (arith, f.names)) _ _ _ _ _ _ _ _ _ _ o r.table.size r.table.lengths c.perform.ensures.ran
