use Rattle.std.proofs.Common.{arith, ap, length}
use Rattle.plane_disk.proofs.KeptLemmas.{kept_synced_count}
use Rattle.plane_disk.proofs.mem_disk.MemDisk.is_image.Goals as goal

pub is_image-requires : goal.is_image-requires
is_image-requires c = let count = kept_synced_count _ _ _ _ _ c.self.invariant in omega (arith, count, c.self.invariant.few, ap length c.deref.ensures.value)
