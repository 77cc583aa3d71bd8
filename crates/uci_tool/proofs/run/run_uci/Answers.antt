use Rattle.uci_tool.proofs.ComesLemmas.{run_comes}
use Rattle.uci_tool.proofs.run.run_uci.Goals as goal

pub returns-clause-comes : goal.returns-clause-comes
returns-clause-comes g c = run_comes _ _ _ _ _ _ _ _ c.run_over.ensures.ended
