use Rattle.snap_disk.proofs.GrammarWhole.{one_of_both}
use Rattle.snap_disk.proofs.laws.body_or_wrong_place.Goals as goal

pub returns : goal.returns
returns c = one_of_both
