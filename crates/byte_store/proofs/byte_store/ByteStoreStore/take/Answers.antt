use Rattle.byte_store.proofs.Kept.{kept_taken}
use Rattle.byte_store.proofs.byte_store.ByteStoreStore.take.Goals as goal

pub invariant_of-self : goal.invariant_of-self
invariant_of-self c =
    let self = c.args.self.now in
    let p = c.put_cell.ensures in
    kept_taken self.bytes.now c.put_cell.new.bytes c.in-Some.location self.count p.limit_kept (p.well_formed self.well_formed) self.counted c.args.value p.means c.next_free-free.result.0 c.in-Some.is self.from _ _ c.next_free-free.ensures.chosen
