use Rattle.plane_step.proofs.LawLineLemmas.{one_line}
use Rattle.plane_step.proofs.laws.one_line.Goals as goal

pub returns : goal.returns
returns c = one_line c.one_meaning.ensures
