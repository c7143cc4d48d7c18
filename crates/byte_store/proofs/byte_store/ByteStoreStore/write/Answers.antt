use Rattle.std.proofs.Common.{rules}
use Rattle.byte_store.proofs.Kept.{kept_written}
use Rattle.byte_store.proofs.byte_store.ByteStoreStore.write.Goals as goal

pub invariant_of-self : goal.invariant_of-self
invariant_of-self c =
    let self = c.args.self.now in
    let p = c.put_cell.ensures in
    kept_written self.bytes.now c.put_cell.new.bytes c.args.location self.count p.limit_kept (p.well_formed self.well_formed) self.counted c.args.value p.means (search rules) _ _ self.free_within
