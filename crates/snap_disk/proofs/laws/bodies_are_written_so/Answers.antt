use Rattle.snap_disk.proofs.WrittenLemmas.{spelled_is_written}
use Rattle.snap_disk.proofs.laws.bodies_are_written_so.Goals as goal

pub returns : goal.returns
returns c = spelled_is_written
