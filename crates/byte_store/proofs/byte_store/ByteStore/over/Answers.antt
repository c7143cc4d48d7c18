use Rattle.std.proofs.Common.{sym, arith}
use Rattle.language.specs.Counting.{live_none}
use Rattle.byte_store.proofs.byte_store.ByteStore.over.Goals as goal

pub invariant_of-result : goal.invariant_of-result
invariant_of-result c = record {
  counted = sym (live_none _ c.clear.ensures.none_live);
  well_formed = c.clear.ensures.well_formed;
  free_within = (omega (arith, c.counted-high.ensures), (λ q in'. absurd (omega (arith, in'.1))), λ q in'. absurd (omega (arith, in'.0, in'.1, c.counted-high.ensures)));
}
