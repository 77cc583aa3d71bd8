use Rattle.std.proofs.Common.{arith, ap, length}
use Rattle.plane_disk.specs.MemDisk.{state_of}
use Rattle.plane_disk.proofs.KeptLemmas.{kept_synced_count}
use Rattle.plane_disk.proofs.mem_disk.MemDisk.after_crash.Goals as goal

pub refilled-requires : goal.refilled-requires
refilled-requires c =
    let count = kept_synced_count _ _ _ _ _ c.self.invariant in
    let state = ap (λ s. length s.synced) c.self.invariant.state in
    let same = ap (λ d. length (state_of d).synced) c.self.view_is in
    omega (arith, c.requires.count, count, state, same, ap length c.deref.ensures.value)
