use Rattle.graph_laws.proofs.EdgeLemmas.{few_edges, few_counted}
use Rattle.graph_laws.proofs.laws.sound_graphs_have_few_edges.Goals as goal

pub returns : goal.returns
returns c = record { named = few_edges; counted = few_counted }
