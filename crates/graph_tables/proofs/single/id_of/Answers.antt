use Rattle.std.proofs.Common.{sym, ◌∙◌}
use Rattle.graph_counts.proofs.EdgeLemmas.{no_id}
use Rattle.graph_tables.proofs.single.id_of.Goals as goal

pub returns-in-None : goal.returns-in-None
returns-in-None c = c.len.ensures.length ∙ sym (no_id c.args.names.now c.args.name.now (sym c.find.ensures ∙ c.in-None.is))
