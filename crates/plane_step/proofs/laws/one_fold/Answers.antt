use Rattle.plane_step.proofs.LawScriptLemmas.{one_fold}
use Rattle.plane_step.proofs.laws.one_fold.Goals as goal

pub returns : goal.returns
returns c = one_fold c.one_line.ensures
