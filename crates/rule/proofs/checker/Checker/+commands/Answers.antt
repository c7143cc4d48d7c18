use Rattle.std.proofs.Common.{◌+◌, ◌*◌, ◌<◌, sym, ◌∙◌, arith, rules}
use Rattle.rule.specs.Pieces.{long, placed}
use Rattle.rule.proofs.Grows.{kept_same, kept_then, kept_sees, grown_then, grown_kept, grown_turned, back_kept}
use Rattle.rule.proofs.Splits.{coms_ended, coms_parts, coms_none, procs_ended, procs_parts, proc_ends, proc_parts, proc_types}
use Rattle.rule.proofs.Passes.{carried, pass_com, pass_coms, pass_block, block_is, coms_front_bad, coms_last_bad, coms_well, routine_err, body_sees, pass_body, proc_names_bad, proc_body, procs_err, pass_front, pass_last, room_more, more_grown, procs_front_bad, made_bad, made_twice, made_well, no_procs_said, no_procs_grown}
use Rattle.rule.proofs.Flow.{if_test_bad, if_yes_bad, if_no_bad, if_types_bad, if_well, while_test_bad, while_body_bad, while_types_bad, while_well, assign_is, call_is, call_within}
use Rattle.rule.proofs.Blocked.{hide_room, enter_room, pass_procs, block_procs_bad, block_coms_bad, block_well, block_small, pass_block_coms}
use Rattle.rule.proofs.checker.Checker.+commands.Goals as goal

-- ---- command
pub command-command-requires : goal.command-command-requires
command-command-requires t c =
    let s = c.requires.some in
    let w = c.in-If.ensures.shows s.c s.is in
    let falls : 5 * long c.in-If.yes + 1 < t = omega (arith, w.sizes, c.decreases) in
    (falls, pass_com s.seen s.roomy s.lies (kept_same _) w.yes w.yes_in)

pub command-command-requires-in-If : goal.command-command-requires-in-If
command-command-requires-in-If t c =
    let s = c.requires.some in
    let w = c.in-If.ensures.shows s.c s.is in
    let falls : 5 * long c.in-If.no + 1 < t = omega (arith, w.sizes, c.decreases) in
    (falls, pass_com s.seen s.roomy s.lies c.in_ok-n-in-If.ensures.kept w.no w.no_in)

pub command-command-requires-in-While : goal.command-command-requires-in-While
command-command-requires-in-While t c =
    let s = c.requires.some in
    let w = c.in-While.ensures.shows s.c s.is in
    let falls : 5 * long c.in-While.body + 1 < t = omega (arith, w.sizes, c.decreases) in
    (falls, pass_com s.seen s.roomy s.lies (kept_same _) w.body w.body_in)

pub command-block-requires : goal.command-block-requires
command-block-requires t c =
    let s = c.requires.some in
    let w = c.in-Block.ensures.shows s.c s.is in
    let falls : 5 * (long c.in-Block.variables + long c.in-Block.procs + long c.in-Block.coms) + 4 < t = omega (arith, w.sizes, c.decreases) in
    (falls, pass_block s w)

pub command-returns-in-Block-clause-says : goal.command-returns-in-Block-clause-says
command-returns-in-Block-clause-says t c x ρ is lk =
    let w = c.in-Block.ensures.shows x is in
    block_is w ρ _ (c.block.ensures.says (placed c.args.part) w.ps w.cs ρ w.procedures w.commands lk)

pub command-view-requires : goal.command-view-requires
command-view-requires t c = record { some = (c.requires.some.c, c.requires.some.is) }

pub command-assign-requires : goal.command-assign-requires
command-assign-requires t c =
    let w = c.in-Assign.ensures.shows c.requires.some.c c.requires.some.is in
    record { some = (w.e, w.value) }

pub command-expression-requires : goal.command-expression-requires
command-expression-requires t c =
    let w = c.in-If.ensures.shows c.requires.some.c c.requires.some.is in
    record { some = (w.e, w.test) }

pub command-expression-requires-in-While : goal.command-expression-requires-in-While
command-expression-requires-in-While t c =
    let w = c.in-While.ensures.shows c.requires.some.c c.requires.some.is in
    record { some = (w.e, w.test) }

pub command-call-requires : goal.command-call-requires
command-call-requires t c =
    let s = c.requires.some in
    let w = c.in-Call.ensures.shows s.c s.is in
    record { types = omega (arith, call_within w s.lies, c.args.self.now.roomy); looks = (s.seen.ρ, s.seen.looks) }

pub command-returns-in-Assign-clause-says : goal.command-returns-in-Assign-clause-says
command-returns-in-Assign-clause-says t c x ρ is lk =
    let w = c.in-Assign.ensures.shows x is in
    assign_is w ρ _ _ c.place.ensures.number (c.assign.ensures.says w.e ρ w.value lk)

pub command-returns-in-Call-clause-says : goal.command-returns-in-Call-clause-says
command-returns-in-Call-clause-says t c x ρ is lk =
    call_is (c.in-Call.ensures.shows x is) ρ _ _ c.place-in-Call.ensures.number (c.call.ensures.says ρ lk)

pub command-returns-in_err-t-in-If-clause-says : goal.command-returns-in_err-t-in-If-clause-says
command-returns-in_err-t-in-If-clause-says t c x ρ is lk =
    carried c.from_residual.ensures.1 ∙ if_test_bad (c.in-If.ensures.shows x is) c.args.self.now ρ lk _ c.in_err-t-in-If.ensures.says

pub command-returns-in_err-n-in-If-clause-says : goal.command-returns-in_err-n-in-If-clause-says
command-returns-in_err-n-in-If-clause-says t c x ρ is lk =
    carried c.from_residual-in_err-n-in-If.ensures.1 ∙ if_yes_bad (c.in-If.ensures.shows x is) c.args.self.now ρ lk _ c.in_ok-t-in-If.ensures.says _ c.in_err-n-in-If.ensures.says

pub command-returns-in_err-m-in-If-clause-says : goal.command-returns-in_err-m-in-If-clause-says
command-returns-in_err-m-in-If-clause-says t c x ρ is lk =
    carried c.from_residual-in_err-m-in-If.ensures.1 ∙ if_no_bad (c.in-If.ensures.shows x is) c.args.self.now ρ lk _ c.in_ok-t-in-If.ensures.says _ c.command.new.self c.in_ok-n-in-If.ensures.says (kept_sees ρ c.in_ok-n-in-If.ensures.kept lk) _ c.in_err-m-in-If.ensures.says

pub command-returns-in_err-agree-in-If-clause-says : goal.command-returns-in_err-agree-in-If-clause-says
command-returns-in_err-agree-in-If-clause-says t c x ρ is lk =
    carried c.from_residual-in_err-agree-in-If.ensures.1 ∙ if_types_bad (c.in-If.ensures.shows x is) c.args.self.now ρ lk _ c.in_ok-t-in-If.ensures.says _ c.command.new.self c.in_ok-n-in-If.ensures.says (kept_sees ρ c.in_ok-n-in-If.ensures.kept lk) _ _ c.in_ok-m-in-If.ensures.says c.place-in-If.ensures.number _ c.in_err-agree-in-If.ensures.asked

pub command-returns-in_ok-agree-in-If : goal.command-returns-in_ok-agree-in-If
command-returns-in_ok-agree-in-If t c =
    record {
      says = λ x ρ is lk.
          if_well (c.in-If.ensures.shows x is) c.args.self.now ρ lk _ c.in_ok-t-in-If.ensures.says _ c.command.new.self c.in_ok-n-in-If.ensures.says (kept_sees ρ c.in_ok-n-in-If.ensures.kept lk) _ _ c.in_ok-m-in-If.ensures.says c.place-in-If.ensures.number _ c.in_ok-agree-in-If.ensures.asked c.max.ensures;
      kept = kept_then c.in_ok-n-in-If.ensures.kept c.in_ok-m-in-If.ensures.kept;
    }

pub command-returns-in_err-t-in-While-clause-says : goal.command-returns-in_err-t-in-While-clause-says
command-returns-in_err-t-in-While-clause-says t c x ρ is lk =
    carried c.from_residual-in_err-t-in-While.ensures.1 ∙ while_test_bad (c.in-While.ensures.shows x is) c.args.self.now ρ lk _ c.in_err-t-in-While.ensures.says

pub command-returns-in_err-n-in-While-clause-says : goal.command-returns-in_err-n-in-While-clause-says
command-returns-in_err-n-in-While-clause-says t c x ρ is lk =
    carried c.from_residual-in_err-n-in-While.ensures.1 ∙ while_body_bad (c.in-While.ensures.shows x is) c.args.self.now ρ lk _ c.in_ok-t-in-While.ensures.says _ c.in_err-n-in-While.ensures.says

pub command-returns-in_err-agree-in-While-clause-says : goal.command-returns-in_err-agree-in-While-clause-says
command-returns-in_err-agree-in-While-clause-says t c x ρ is lk =
    carried c.from_residual-in_err-agree-in-While.ensures.1 ∙ while_types_bad (c.in-While.ensures.shows x is) c.args.self.now ρ lk _ c.in_ok-t-in-While.ensures.says _ _ c.in_ok-n-in-While.ensures.says c.place-in-While.ensures.number _ c.in_err-agree-in-While.ensures.asked

pub command-returns-in_ok-agree-in-While-clause-says : goal.command-returns-in_ok-agree-in-While-clause-says
command-returns-in_ok-agree-in-While-clause-says t c x ρ is lk =
    while_well (c.in-While.ensures.shows x is) c.args.self.now ρ lk _ c.in_ok-t-in-While.ensures.says _ _ c.in_ok-n-in-While.ensures.says c.place-in-While.ensures.number c.in_ok-agree-in-While.ensures.asked

-- ---- commands
pub commands-returns-in_default-clause-says : goal.commands-returns-in_default-clause-says
commands-returns-in_default-clause-says t c cs ρ is lk = coms_none cs ρ c.in_default.ensures.lasts is

pub commands-split_last-requires : goal.commands-split_last-requires
commands-split_last-requires t c =
    let s = c.requires.some in
    record { ended = coms_ended s.cs s.is }

pub commands-commands-requires : goal.commands-commands-requires
commands-commands-requires t c =
    let s = c.requires.some in
    let w = coms_parts s.cs s.is c.in-Some.ensures.lasts in
    let falls : 5 * long c.in-Some.front + 2 < t = omega (arith, w.sizes, w.some, c.decreases) in
    (falls, pass_coms s.seen s.roomy s.lies (kept_same _) w.front w.front_in)

pub commands-returns-in_err-n-clause-says : goal.commands-returns-in_err-n-clause-says
commands-returns-in_err-n-clause-says t c cs ρ is lk =
    carried c.from_residual.ensures.1 ∙ coms_front_bad (coms_parts cs is c.in-Some.ensures.lasts) c.args.self.now ρ lk _ c.in_err-n.ensures.says

pub commands-command-requires : goal.commands-command-requires
commands-command-requires t c =
    let s = c.requires.some in
    let w = coms_parts s.cs s.is c.in-Some.ensures.lasts in
    let falls : 5 * long c.in-Some.last + 1 < t = omega (arith, w.sizes, c.decreases) in
    (falls, pass_com s.seen s.roomy s.lies c.in_ok-n.ensures.kept w.back w.back_in)

pub commands-returns-in_err-m-clause-says : goal.commands-returns-in_err-m-clause-says
commands-returns-in_err-m-clause-says t c cs ρ is lk =
    carried c.from_residual-in_err-m.ensures.1 ∙ coms_last_bad (coms_parts cs is c.in-Some.ensures.lasts) c.args.self.now ρ lk _ _ c.commands.new.self c.in_ok-n.ensures.says
    (kept_sees ρ c.in_ok-n.ensures.kept lk) c.in_err-m.ensures.says

pub commands-returns : goal.commands-returns
commands-returns t c =
    record {
      says = λ cs ρ is lk.
          coms_well (coms_parts cs is c.in-Some.ensures.lasts) c.args.self.now ρ lk _ _ _ c.commands.new.self c.in_ok-n.ensures.says
          (kept_sees ρ c.in_ok-n.ensures.kept lk) c.in_ok-m.ensures.says c.max.ensures;
      kept = kept_then c.in_ok-n.ensures.kept c.in_ok-m.ensures.kept;
    }

-- ---- one procedure
pub one_procedure-returns-in_err-check_names-clause-says : goal.one_procedure-returns-in_err-check_names-clause-says
one_procedure-returns-in_err-check_names-clause-says t c i m fs x ρ is lk =
    routine_err c.args.self.now.table.now _ _ fs _ (carried c.from_residual.ensures.1)
    (proc_names_bad (proc_parts c.args.part _ _ i m fs x is c.procedure_parts.ensures.cuts) ρ _ c.in_err-check_names.ensures.says)

pub one_procedure-command-requires : goal.one_procedure-command-requires
one_procedure-command-requires t c =
    let s = c.requires.some in
    let w = proc_parts c.args.part _ _ s.i s.m s.fs s.c s.is c.procedure_parts.ensures.cuts in
    let falls : 5 * long c.procedure_parts.result.1 + 1 < t = omega (arith, w.sizes, c.decreases) in
    (falls, pass_body w s.seen s.lies s.roomy c.see_from.ensures.turned c.enter_all.ensures.sight c.enter_all.ensures.grown)

pub one_procedure-returns-in_err-need-clause-says : goal.one_procedure-returns-in_err-need-clause-says
one_procedure-returns-in_err-need-clause-says t c i m fs x ρ is lk =
    let w = proc_parts c.args.part _ _ i m fs x is c.procedure_parts.ensures.cuts in
    routine_err c.args.self.now.table.now _ _ fs _ (carried c.from_residual-in_err-need.ensures.1)
    (proc_body w ρ _ c.enter_all.new.self c.in_ok-check_names.ensures.says
    (body_sees w c.args.self.now c.see_from.new.self c.enter_all.new.self c.args.inner ρ c.see_from.ensures.turned c.enter_all.ensures.sight c.enter_all.ensures.grown lk) c.in_err-need.ensures.says)

pub one_procedure-returns : goal.one_procedure-returns
one_procedure-returns t c =
    record {
      says = λ i m fs x ρ is lk.
          let w = proc_parts c.args.part _ _ i m fs x is c.procedure_parts.ensures.cuts in
          let k = proc_types w c.requires.some.lies in (
            proc_body w ρ _ c.enter_all.new.self c.in_ok-check_names.ensures.says
                (body_sees w c.args.self.now c.see_from.new.self c.enter_all.new.self c.args.inner ρ c.see_from.ensures.turned c.enter_all.ensures.sight c.enter_all.ensures.grown lk) c.in_ok-need.ensures.says,
            k.0,
            k.1,
          );
      kept =
          back_kept (grown_kept (grown_then (grown_turned c.see_from.ensures.turned) c.enter_all.ensures.grown) c.in_ok-need.ensures.kept) c.back_to.ensures.returned
          c.mark-mark.ensures.top c.mark-mark.ensures.head;
    }

pub one_procedure-procedure_parts-requires : goal.one_procedure-procedure_parts-requires
one_procedure-procedure_parts-requires t c =
    let s = c.requires.some in
    record { ends = proc_ends c.args.part s.i s.m s.fs s.c s.is }

pub one_procedure-enter_all-requires : goal.one_procedure-enter_all-requires
one_procedure-enter_all-requires t c =
    let s = c.requires.some in
    let w = proc_parts c.args.part _ _ s.i s.m s.fs s.c s.is c.procedure_parts.ensures.cuts in
    let g = grown_turned c.see_from.ensures.turned in
    record { room = omega (arith, s.roomy, w.sizes, g.top, g.long) }

-- ---- procedures
pub procedures-returns-in_default : goal.procedures-returns-in_default
procedures-returns-in_default t c =
    record {
      says = λ ps ρ τ is lk ll. no_procs_said ps ρ τ c.args.self.now c.in_default.ensures.lasts is ll;
      grown = λ ps is. no_procs_grown ps c.args.self.now c.in_default.ensures.lasts is;
    }

pub procedures-split_last-requires : goal.procedures-split_last-requires
procedures-split_last-requires t c =
    let s = c.requires.some in
    record { ended = procs_ended s.ps s.is }

pub procedures-procedures-requires : goal.procedures-procedures-requires
procedures-procedures-requires t c =
    let s = c.requires.some in
    let w = procs_parts s.ps s.is c.in-Some.ensures.lasts in
    let falls : 5 * long c.in-Some.front + 3 < t = omega (arith, w.sizes, w.some, c.decreases) in
    (falls, pass_front w s.seen s.lies s.low s.roomy)

pub procedures-returns-in_err-procedures-clause-says : goal.procedures-returns-in_err-procedures-clause-says
procedures-returns-in_err-procedures-clause-says t c ps ρ τ is lk ll =
    procs_err c.procedures.new.self _ _ _ (carried c.from_residual.ensures.1)
    (procs_front_bad (procs_parts ps is c.in-Some.ensures.lasts) c.args.self.now c.procedures.new.self c.args.inner ρ τ lk ll _ c.in_err-procedures.ensures.says)

pub procedures-one_procedure-requires : goal.procedures-one_procedure-requires
procedures-one_procedure-requires t c =
    let s = c.requires.some in
    let w = procs_parts s.ps s.is c.in-Some.ensures.lasts in
    let falls : 5 * long c.in-Some.last + 2 < t = omega (arith, w.sizes, c.decreases) in
    (falls, pass_last w s.seen s.lies s.low s.roomy (c.in_ok-procedures.ensures.grown w.init w.front))

pub procedures-returns-in_err-made-clause-says : goal.procedures-returns-in_err-made-clause-says
procedures-returns-in_err-made-clause-says t c ps ρ τ is lk ll =
    let w = procs_parts ps is c.in-Some.ensures.lasts in
    procs_err c.one_procedure.new.self _ _ _ (carried c.from_residual-in_err-made.ensures.1)
    (made_bad w c.args.self.now c.procedures.new.self c.args.inner ρ τ lk ll c.in_ok-procedures.ensures.says c.requires.some.low (c.in_ok-procedures.ensures.grown w.init w.front) _ c.in_err-made.ensures.says)

pub procedures-last-name-requires : goal.procedures-last-name-requires
procedures-last-name-requires t c =
    let s = c.requires.some in
    let w = procs_parts s.ps s.is c.in-Some.ensures.lasts in
    record { some = omega (arith, w.some) }

pub procedures-named-requires : goal.procedures-named-requires
procedures-named-requires t c =
    let s = c.requires.some in
    let w = procs_parts s.ps s.is c.in-Some.ensures.lasts in
    record { some = (w.init, w.front) }

pub procedures-place-requires : goal.procedures-place-requires
procedures-place-requires t c =
    let s = c.requires.some in
    let w = procs_parts s.ps s.is c.in-Some.ensures.lasts in
    record { some = omega (arith, w.some) }

pub procedures-returns-then-named-clause-says : goal.procedures-returns-then-named-clause-says
procedures-returns-then-named-clause-says t c ps ρ τ is lk ll =
    let w = procs_parts ps is c.in-Some.ensures.lasts in
    sym (made_twice w c.args.self.now c.procedures.new.self c.args.inner ρ τ lk ll c.in_ok-procedures.ensures.says c.requires.some.low (c.in_ok-procedures.ensures.grown w.init w.front)
    c.in_ok-made.made c.last-name.result c.named.result c.in_ok-made.ensures.says c.last-name.ensures.node c.named.ensures.found
    c.new.result c.place.result (search rules) c.place.ensures.number c.if-named.true)

pub procedures-enter-requires : goal.procedures-enter-requires
procedures-enter-requires t c =
    let s = c.requires.some in
    let w = procs_parts s.ps s.is c.in-Some.ensures.lasts in
    record { room = room_more w s.roomy (c.in_ok-procedures.ensures.grown w.init w.front) c.in_ok-made.ensures.kept }

pub procedures-returns : goal.procedures-returns
procedures-returns t c =
    record {
      says = λ ps ρ τ is lk ll.
          let w = procs_parts ps is c.in-Some.ensures.lasts in
          made_well w c.args.self.now c.procedures.new.self c.args.inner ρ τ lk ll c.in_ok-procedures.ensures.says c.requires.some.low (c.in_ok-procedures.ensures.grown w.init w.front)
          c.in_ok-made.made c.last-name.result c.named.result c.in_ok-made.ensures.says c.last-name.ensures.node c.named.ensures.found
          c.in_ok-made.ensures.kept c.enter.ensures.grown c.enter.ensures.sight c.if-named.false;
      grown = λ ps is.
          let w = procs_parts ps is c.in-Some.ensures.lasts in
          more_grown w (c.in_ok-procedures.ensures.grown w.init w.front) c.in_ok-made.ensures.kept c.enter.ensures.grown;
    }

-- ---- block
pub block-hide-requires : goal.block-hide-requires
block-hide-requires t c = let s = c.requires.some in record { some = (s.ps, s.procedures, hide_room s) }

pub block-enter_all-requires : goal.block-enter_all-requires
block-enter_all-requires t c = let s = c.requires.some in record { room = enter_room s (c.hide.ensures.grown s.ps s.procedures) }

pub block-procedures-requires : goal.block-procedures-requires
block-procedures-requires t c =
    let s = c.requires.some in
    let falls : 5 * long c.args.procs + 3 < t = omega (arith, c.decreases) in (
      falls,
      pass_procs c.args.variables c.args.coms c.hide.ensures.sight c.hide.ensures.grown c.enter_all.ensures.sight c.enter_all.ensures.grown c.position-inner.ensures.head s
          c.position-inner.ensures.there,
    )

pub block-returns-in_err-procedures-clause-says : goal.block-returns-in_err-procedures-clause-says
block-returns-in_err-procedures-clause-says t c i ps cs ρ iq ir lk =
    carried c.from_residual-in_err-procedures.ensures.1 ∙ block_procs_bad c.args.variables c.args.coms c.hide.ensures.sight c.hide.ensures.grown c.enter_all.ensures.sight c.enter_all.ensures.grown c.position-inner.ensures.head
    ps ρ iq lk c.in_ok-check_names.ensures.says i cs _ c.procedures.new.self c.in_err-procedures.ensures.says

pub block-commands-requires : goal.block-commands-requires
block-commands-requires t c =
    let s = c.requires.some in
    let falls : 5 * long c.args.coms + 2 < t = omega (arith, c.decreases) in (
      falls,
      pass_block_coms c.args.variables c.args.coms c.hide.ensures.sight c.hide.ensures.grown c.enter_all.ensures.sight c.enter_all.ensures.grown c.position-inner.ensures.head
          c.procedures.new.self s c.in_ok-check_names.ensures.says c.in_ok-procedures.ensures.says (c.in_ok-procedures.ensures.grown s.ps s.procedures),
    )

pub block-returns-in_err-need-clause-says : goal.block-returns-in_err-need-clause-says
block-returns-in_err-need-clause-says t c i ps cs ρ iq ir lk =
    carried c.from_residual-in_err-need.ensures.1 ∙ block_coms_bad c.args.variables c.args.coms c.hide.ensures.sight c.hide.ensures.grown c.enter_all.ensures.sight c.enter_all.ensures.grown c.position-inner.ensures.head
    ps ρ iq lk c.in_ok-check_names.ensures.says c.procedures.new.self c.in_ok-procedures.ensures.says cs ir i _ c.in_err-need.ensures.says

pub block-overflow_add-result : goal.block-overflow_add-result
block-overflow_add-result t c =
    let s = c.requires.some in
    omega (
      arith,
      s.seen.fits,
      block_small c.args.variables c.args.coms c.hide.ensures.sight c.hide.ensures.grown c.enter_all.ensures.sight c.enter_all.ensures.grown c.position-inner.ensures.head
          s.ps s.seen.ρ s.procedures s.seen.looks c.in_ok-check_names.ensures.says c.procedures.new.self c.in_ok-procedures.ensures.says s.cs s.commands
          s.seen.B c.in_ok-need.need s.seen.bounded c.in_ok-need.ensures.says,
    )

pub block-returns : goal.block-returns
block-returns t c =
    let s = c.requires.some in
    record {
      says = λ i ps cs ρ iq ir lk.
          block_well c.args.variables c.args.coms c.hide.ensures.sight c.hide.ensures.grown c.enter_all.ensures.sight c.enter_all.ensures.grown c.position-inner.ensures.head
          ps ρ iq lk c.in_ok-check_names.ensures.says c.procedures.new.self c.in_ok-procedures.ensures.says cs ir i c.in_ok-need.need c.in_ok-need.ensures.says;
      kept =
          back_kept
          (grown_kept (grown_then (grown_then (c.hide.ensures.grown s.ps s.procedures) c.enter_all.ensures.grown) (c.in_ok-procedures.ensures.grown s.ps s.procedures)) c.in_ok-need.ensures.kept)
          c.back_to.ensures.returned c.mark-mark.ensures.top c.mark-mark.ensures.head;
    }

pub block-back_to-requires : goal.block-back_to-requires
block-back_to-requires t c =
    let s = c.requires.some in
    record {
      there = omega (
        arith,
        c.mark-mark.ensures.top,
        (c.hide.ensures.grown s.ps s.procedures).top,
        c.enter_all.ensures.grown.top,
        (c.in_ok-procedures.ensures.grown s.ps s.procedures).top,
        c.in_ok-need.ensures.kept.top,
      );
    }
