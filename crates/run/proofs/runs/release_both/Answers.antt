use Rattle.std.proofs.Common.{Ok, Err}
use Rattle.std.proofs.lemmas.Result.{err_from_is_err_and}
use Rattle.run.proofs.Opens.{released, not_released}
use Rattle.run.proofs.Whole.{released_both, first_kept}
use Rattle.run.proofs.runs.release_both.Goals as goal

pub returns-in_err-release-clause-released : goal.returns-in_err-release-clause-released
returns-in_err-release-clause-released g c =
    let p = err_from_is_err_and c.from_residual.result c.from_residual.ensures.1 in
    let r = c.in_err-release in
    rw (p.1, p.2) (first_kept c.args.input c.args.output (g.S.Store.at c.args.store.now) (g.S.Store.at c.release.new.self) _ (λ u. not_released _ _ _ u r.field-0.0 r.ensures.answer r.ensures.others_kept))

pub returns-in_err-release-2-clause-released : goal.returns-in_err-release-2-clause-released
returns-in_err-release-2-clause-released g c =
    let p = err_from_is_err_and c.from_residual-in_err-release-2.result c.from_residual-in_err-release-2.ensures.1 in
    let r = c.in_ok-release.ensures in
    let s = c.in_err-release-2 in
    rw (p.1, p.2) (released_both c.args.input c.args.output (g.S.Store.at c.args.store.now) (g.S.Store.at c.release.new.self) (g.S.Store.at c.release-2.new.self) (Err _) (λ u. released _ _ _ u r.answer r.others_kept) (λ u. not_released _ _ _ u s.field-0.0 s.ensures.answer s.ensures.others_kept))

pub returns-clause-released : goal.returns-clause-released
returns-clause-released g c =
    let r = c.in_ok-release.ensures in
    let s = c.in_ok-release-2.ensures in
    released_both c.args.input c.args.output (g.S.Store.at c.args.store.now) (g.S.Store.at c.release.new.self) (g.S.Store.at c.release-2.new.self) (Ok tt) (λ u. released _ _ _ u r.answer r.others_kept) (λ u. released _ _ _ u s.answer s.others_kept)
