use Rattle.snap_disk.proofs.GrammarWhole.{reads_exactly}
use Rattle.snap_disk.proofs.laws.bodies_are_read.Goals as goal

pub returns : goal.returns
returns c = reads_exactly
