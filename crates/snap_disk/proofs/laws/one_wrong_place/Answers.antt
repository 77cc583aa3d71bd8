use Rattle.snap_disk.proofs.GrammarWhole.{one_place}
use Rattle.snap_disk.proofs.laws.one_wrong_place.Goals as goal

pub returns : goal.returns
returns c = one_place
