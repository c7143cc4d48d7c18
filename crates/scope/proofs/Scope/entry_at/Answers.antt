use Rattle.std.proofs.Common.{◌≡◌, ◌-◌, inl, sym, ap, ◌∙◌, get_or, arith}
use Rattle.scope.proofs.Chains.{latest_at, latest_none}
use Rattle.scope.proofs.Scope.entry_at.Goals as goal

pub returns-in_err-index : goal.returns-in_err-index
returns-in_err-index g c =
    let s = c.args.self.now in
    rw c.from_residual.ensures (record { latest = sym (latest_none s.records.now c.args.position s.top (inl (omega arith))) })

pub returns : goal.returns
returns g c =
    let s = c.args.self.now in
    let r = c.index-self-index.result in
    let is = c.index-self-index.is in
    let e : c.in_ok-index.index ≡ c.args.position - 1 = omega arith in
    rw (sym is)
    (record { latest = sym (latest_at s.records.now c.args.position s.top r (omega arith) (omega arith) s.within s.down (is ∙ ap (λ i. get_or s.records.now i r) e)) })
