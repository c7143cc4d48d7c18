use Rattle.std.proofs.Common.{refl, arith, rules}
use Rattle.rule.specs.Pieces.{long}
use Rattle.rule.proofs.Grows.{kept_sees}
use Rattle.rule.proofs.Called.{called_count, called_types, called_well}
use Rattle.rule.proofs.checker.Checker.call.Goals as goal

pub returns-then-args-count-clause-says : goal.returns-then-args-count-clause-says
returns-then-args-count-clause-says c ρ lk =
    called_count c.actuals.new.self.table.now ρ c.args.place c.args.name (long c.args.args) _ c.actuals.new.self.types.now c.in_ok-first.field-0 (omega (arith, c.requires.types, c.in_ok-actuals.ensures.types_kept))
    (c.in_ok-actuals.ensures.says ρ lk) (c.in_ok-first.ensures.says ρ (kept_sees ρ c.in_ok-actuals.ensures.kept lk))
    c.new.result (search rules) c.if-args-count.true

pub returns-then-not-fit-clause-says : goal.returns-then-not-fit-clause-says
returns-then-not-fit-clause-says c ρ lk =
    called_types c.actuals.new.self.table.now ρ c.args.place c.args.name (long c.args.args) _ c.actuals.new.self.types.now c.in_ok-first.field-0 (omega (arith, c.requires.types, c.in_ok-actuals.ensures.types_kept))
    (c.in_ok-actuals.ensures.says ρ lk) (c.in_ok-first.ensures.says ρ (kept_sees ρ c.in_ok-actuals.ensures.kept lk))
    _ c.fit.result refl c.if-args-count.false c.fit.ensures.alike c.new-then-not-fit.result (search rules) c.if-not-fit.true

pub returns-clause-says : goal.returns-clause-says
returns-clause-says c ρ lk =
    called_well c.actuals.new.self.table.now ρ c.args.place c.args.name (long c.args.args) _ c.actuals.new.self.types.now c.in_ok-first.field-0 (omega (arith, c.requires.types, c.in_ok-actuals.ensures.types_kept))
    (c.in_ok-actuals.ensures.says ρ lk) (c.in_ok-first.ensures.says ρ (kept_sees ρ c.in_ok-actuals.ensures.kept lk))
    _ c.fit.result refl c.if-args-count.false c.fit.ensures.alike c.if-not-fit.false
