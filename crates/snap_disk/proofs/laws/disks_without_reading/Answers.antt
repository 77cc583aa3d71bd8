use Rattle.snap_disk.proofs.UnreadLemmas.{unread_exactly}
use Rattle.snap_disk.proofs.laws.disks_without_reading.Goals as goal

pub returns : goal.returns
returns c = unread_exactly
