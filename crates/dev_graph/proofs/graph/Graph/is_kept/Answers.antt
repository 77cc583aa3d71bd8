use Rattle.std.proofs.Common.{subst}
use Rattle.graph_rules.specs.State.{State}
use Rattle.graph_tables.specs.Whole.{IsWhole}
use Rattle.dev_graph.proofs.KeptLemmas.{whole_in}
use Rattle.dev_graph.proofs.graph.Graph.is_kept.Goals as goal

pub returns : goal.returns
returns c = subst (λ (s : State). IsWhole s.known) c.self.view_is (whole_in c.self.inside.names c.self.invariant.whole)
