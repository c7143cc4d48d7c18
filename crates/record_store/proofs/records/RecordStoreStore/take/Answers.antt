use Rattle.std.proofs.Common.{◌≡◌, Some, None, ◌∙◌, subst, arith, rules}
use Rattle.std.proofs.lemmas.List.{drop-set-lt}
use Rattle.record_store.specs.Bounds.{live_span}
use Rattle.record_store.specs.Cells.{meant, Found}
use Rattle.record_store.proofs.Soundness.{meant_within, sound}
use Rattle.record_store.proofs.Changes.{sound_taken, meant_changed, live_gap, live_full}
use Rattle.record_store.proofs.records.RecordStoreStore.take.Goals as goal

pub overflow_add-self : goal.overflow_add-self
overflow_add-self c = search (rules, live_span c.args.self.now.cells.now)

pub invariant_of-self : goal.invariant_of-self
invariant_of-self c =
    let s = c.args.self.now in
    let h = subst (Found s.cells.now) c.in_ok-location.ensures.ok_part c.highest_free.ensures in
    search (rules, sound_taken s.cells.now s.count s.top c.in_ok-location.location c.holding.result c.args.value c.holding.ensures.cell (sound s) h)

pub returns-clause-taken : goal.returns-clause-taken
returns-clause-taken c =
    let cells = c.args.self.now.cells.now in
    let l = c.in_ok-location.location in
    let h = subst (Found cells) c.in_ok-location.ensures.ok_part c.highest_free.ensures in
    let free : meant cells l ≡ None = meant_within cells l (omega (arith, h.0)) ∙ h.1 in
    (omega (arith, h.0), free, live_gap cells l h.0 free, meant_changed cells l c.holding.result (Some c.args.value) c.holding.ensures.cell h.0)

pub returns-clause-rest_kept : goal.returns-clause-rest_kept
returns-clause-rest_kept c =
    let cells = c.args.self.now.cells.now in
    let h = subst (Found cells) c.in_ok-location.ensures.ok_part c.highest_free.ensures in
    drop-set-lt 65536 cells c.in_ok-location.location c.holding.result (omega (arith, h.0))

pub returns-in_err-location-clause-taken : goal.returns-in_err-location-clause-taken
returns-in_err-location-clause-taken c = search (rules, live_full)
