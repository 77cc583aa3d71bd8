use Rattle.snap_disk.proofs.GrammarWhole.{one_kept}
use Rattle.snap_disk.proofs.laws.one_body.Goals as goal

pub returns : goal.returns
returns c = one_kept
