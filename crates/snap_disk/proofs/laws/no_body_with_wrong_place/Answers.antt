use Rattle.snap_disk.proofs.GrammarWhole.{not_both}
use Rattle.snap_disk.proofs.laws.no_body_with_wrong_place.Goals as goal

pub returns : goal.returns
returns c = not_both
