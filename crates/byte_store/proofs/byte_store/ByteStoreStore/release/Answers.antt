use Rattle.std.proofs.Common.{arith, rules}
use Rattle.byte_store.proofs.Kept.{live_some, kept_released}
use Rattle.byte_store.proofs.byte_store.ByteStoreStore.release.Goals as goal

pub overflow_sub-self : goal.overflow_sub-self
overflow_sub-self c =
    let self = c.args.self.now in
    omega (arith, self.counted, live_some self.bytes.now c.args.location (search rules))

pub invariant_of-self : goal.invariant_of-self
invariant_of-self c =
    let self = c.args.self.now in
    let p = c.put_cell.ensures in
    kept_released self.bytes.now c.put_cell.new.bytes c.args.location self.count p.limit_kept (p.well_formed self.well_formed) self.counted p.means (search rules) _ _ _ _ c.with-self.ensures.low c.with-self.ensures.high self.free_within
