use Rattle.graph_laws.proofs.EdgeLemmas.{loaded_edges, loaded_counts}
use Rattle.graph_laws.proofs.laws.loads_bring_few_edges.Goals as goal

pub returns : goal.returns
returns c = record { named = loaded_edges; counted = loaded_counts }
