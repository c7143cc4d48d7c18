use Rattle.std.proofs.Common.{sym, ap, ◌∙◌, arith}
use Rattle.language.specs.Same.{same}
use Rattle.scope.proofs.Chains.{turn, look_here, look_on, look_none}
use Rattle.scope.proofs.Scope.find.Goals as goal

pub returns-then-same_name : goal.returns-then-same_name
returns-then-same_name g c =
    let s = c.args.self.now in
    let is = c.index-self-position.is in
    let t = turn s.records.now c.loop-position.position s.top c.index-self-position.result c.loop-position-test.true c.loop-position.invariant.0 s.within s.down is in
    rw (sym is)
    (sym (look_here c.args.name _ _ _ _ t.1 (c.same_name.ensures ∙ ap (λ r. same c.args.name r.name) (sym is)) c.if-same_name.true) ∙ c.loop-position.invariant.1)

pub loop-position-smaller : goal.loop-position-smaller
loop-position-smaller g c =
    let s = c.args.self.now in
    let is = c.index-self-position.is in
    rw (sym is)
    (turn s.records.now c.loop-position.position s.top c.index-self-position.result c.loop-position-test.true c.loop-position.invariant.0 s.within s.down is).0

pub loop-position-preserved : goal.loop-position-preserved
loop-position-preserved g c =
    let s = c.args.self.now in
    let is = c.index-self-position.is in
    let t = turn s.records.now c.loop-position.position s.top c.index-self-position.result c.loop-position-test.true c.loop-position.invariant.0 s.within s.down is in
    rw (sym is)
    (omega (arith, t.0, c.loop-position.invariant.0), sym (look_on c.args.name _ _ _ _ t.1 (c.same_name.ensures ∙ ap (λ r. same c.args.name r.name) (sym is)) c.if-same_name.false) ∙ c.loop-position.invariant.1)

pub returns : goal.returns
returns g c = sym (look_none c.args.name c.args.self.now.records.now c.loop-position.position c.loop-position-test.false) ∙ c.loop-position.invariant.1
