use Rattle.std.proofs.Common.{◌≡◌, List, length, refl, ap, ◌∙◌, arith}
use Rattle.scope.specs.declared.Record.{Record}
use Rattle.rule.specs.declared.entries.Entry.{Entry}
use Rattle.rule.proofs.Passes.{carried}
use Rattle.rule.proofs.Whole.{whole_given, whole_says, whole_bad, whole_well, whole_small}
use Rattle.rule.proofs.rules.consistent.Goals as goal

pub command-requires : goal.command-requires
command-requires c =
    let r : length c.new.result.records.now ≡ length c.args.lists.names.now = ap (λ (l : List (Record Entry)). length l) c.new.ensures.records_kept in
    record {
      some = whole_given _ c.args.lists.lens.now refl refl c.requires.lens c.requires.most c.requires.lengths c.new.ensures.nothing_in_sight c.enter.ensures.sight c.enter-2.ensures.sight c.enter.ensures.grown c.enter-2.ensures.grown
          refl c.new.ensures.top_after (omega (arith, r, c.requires.names));
    }

pub returns-in_err-need : goal.returns-in_err-need
returns-in_err-need c = record {
  says =
      carried c.from_residual.ensures.1
      ∙ whole_bad c.requires.lengths _
      (whole_says _ c.args.lists.lens.now refl refl c.requires.lens c.requires.most c.requires.lengths c.new.ensures.nothing_in_sight c.enter.ensures.sight c.enter-2.ensures.sight c.enter.ensures.grown c.enter-2.ensures.grown _ c.in_err-need.ensures.says);
}

pub overflow_add-result : goal.overflow_add-result
overflow_add-result c =
    omega (
      arith,
      c.requires.most,
      whole_small c.requires.lengths c.in_ok-need.need
          (whole_says _ c.args.lists.lens.now refl refl c.requires.lens c.requires.most c.requires.lengths c.new.ensures.nothing_in_sight c.enter.ensures.sight c.enter-2.ensures.sight c.enter.ensures.grown c.enter-2.ensures.grown _ c.in_ok-need.ensures.says),
    )

pub returns : goal.returns
returns c = record {
  says =
      whole_well c.requires.lengths c.in_ok-need.need
      (whole_says _ c.args.lists.lens.now refl refl c.requires.lens c.requires.most c.requires.lengths c.new.ensures.nothing_in_sight c.enter.ensures.sight c.enter-2.ensures.sight c.enter.ensures.grown c.enter-2.ensures.grown _ c.in_ok-need.ensures.says);
}
