use Rattle.plane_main.proofs.RunLemmas.{told_by}
use Rattle.plane_main.proofs.report.report.Goals as goal

pub returns-clause-told : goal.returns-clause-told
returns-clause-told g c = told_by c.write_text.result _ _ c.write_text.ensures.ok c.write_text.ensures.err c.write_text.ensures.cause.failed
