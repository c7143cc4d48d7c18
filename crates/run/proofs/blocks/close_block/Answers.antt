use Rattle.std.proofs.Common.{Some, sym, refl, ap, ◌∙◌, arith}
use Rattle.std.proofs.lemmas.Result.{err_from_is_err_and}
use Rattle.run.proofs.Opens.{close_none, close_more, close_stop, released, not_released}
use Rattle.run.proofs.Sights.{entered_at, same_place}
use Rattle.run.proofs.blocks.close_block.Goals as goal

pub loop-k-init : goal.loop-k-init
loop-k-init g c = (refl, λ u. close_none _ _ _ u)

pub location_in-location-requires : goal.location_in-location-requires
location_in-location-requires g c =
    let s = c.args.scope.now in
    let e = entered_at s.records.now s.top c.loop-k.k (omega (arith, c.requires.within)) s.within s.down in
    record { variable = (_, c.entry_at.ensures.latest ∙ e ∙ ap Some (c.requires.variables c.loop-k.k c.loop-k.auto.k (omega arith))) }

pub returns-in_err-release-clause-closed : goal.returns-in_err-release-clause-closed
returns-in_err-release-clause-closed g c =
    let p = err_from_is_err_and c.from_residual.result c.from_residual.ensures.1 in
    let r = c.in_err-release in
    let s = c.args.scope.now in
    let e = entered_at s.records.now s.top c.loop-k.k (omega (arith, c.requires.within)) s.within s.down in
    let v = c.requires.variables c.loop-k.k c.loop-k.auto.k (omega arith) in
    let here = same_place (sym c.location_in-location.ensures.location ∙ c.entry_at.ensures.latest ∙ e ∙ ap Some v) in
    rw (p.1, p.2) (λ u. close_stop _ _ c.loop-k.k _ _ u (g.S.Store.at c.loop-k.store) _ _ c.loop-k.auto.k (omega arith) here (c.loop-k.invariant.1 u)
    (not_released _ _ _ u r.field-0.0 r.ensures.answer r.ensures.others_kept))

pub loop-k-preserved : goal.loop-k-preserved
loop-k-preserved g c =
    let w = c.in_ok-release.ensures in
    let s = c.args.scope.now in
    let e = entered_at s.records.now s.top c.loop-k.k (omega (arith, c.requires.within)) s.within s.down in
    let v = c.requires.variables c.loop-k.k c.loop-k.auto.k (omega arith) in
    let here = same_place (sym c.location_in-location.ensures.location ∙ c.entry_at.ensures.latest ∙ e ∙ ap Some v) in (
      c.release.ensures.limit_kept ∙ c.loop-k.invariant.0,
      λ u. close_more _ _ c.loop-k.k _ u (g.S.Store.at c.loop-k.store) _ _ c.loop-k.auto.k here (c.loop-k.invariant.1 u)
          (released _ _ _ u w.answer w.others_kept),
    )
