use Rattle.std.proofs.Common.{sym, ◌∙◌}
use Rattle.graph_settle.proofs.NextLemmas.{below_take, below_put}
use Rattle.graph_settle.proofs.next.device_call.Goals as goal

pub returns-in-Some : goal.returns-in-Some
returns-in-Some c = below_take c.args.graph.now c.in-Some.call (sym c.in-Some.is ∙ c.next_take.ensures)

pub returns-in-None : goal.returns-in-None
returns-in-None c = below_put c.args.graph.now c.next_put.result (sym c.in-None.is ∙ c.next_take.ensures) c.next_put.ensures
