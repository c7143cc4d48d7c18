use Rattle.std.proofs.Common.{rules}
use Rattle.scope.proofs.Chains.{down_set, sight_enter, sight_older}
use Rattle.scope.proofs.Scope.enter.Goals as goal

pub invariant_of-self : goal.invariant_of-self
invariant_of-self g c =
    let s = c.args.self.now in
    record { within = search rules; low = search rules; down = down_set s.records.now s.top _ c.if-i-self.false s.low s.down }

pub returns : goal.returns
returns g c =
    let s = c.args.self.now in
    record {
      answer = search rules;
      sight_entered = sight_enter s.records.now s.top _ c.if-i-self.false s.low;
      older_kept = λ h le. sight_older s.records.now s.top h _ le;
      others_kept = search rules;
      top_after = search rules;
      head_after = search rules;
      length_kept = search rules;
      same_slice = search rules;
    }
