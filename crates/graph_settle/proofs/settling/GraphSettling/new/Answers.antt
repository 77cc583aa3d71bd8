use Rattle.graph_settle.proofs.EndLemmas.{new_ready}
use Rattle.graph_settle.proofs.settling.GraphSettling.new.Goals as goal

pub returns-clause-ready : goal.returns-clause-ready
returns-clause-ready c = new_ready c.new.result c.new-2.result c.new.ensures c.new-2.ensures
