use Rattle.snap_disk.proofs.GrammarWhole.{refuses_exactly}
use Rattle.snap_disk.proofs.laws.bodies_are_refused.Goals as goal

pub returns : goal.returns
returns c = refuses_exactly
