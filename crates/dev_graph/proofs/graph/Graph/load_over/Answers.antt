use Rattle.std.proofs.Common.{sym, subst}
use Rattle.graph_tables.specs.Whole.{IsWhole}
use Rattle.dev_graph.specs.Inside.{known_in}
use Rattle.dev_graph.proofs.GraphLemmas.{whole_loaded}
use Rattle.dev_graph.proofs.graph.Graph.load_over.Goals as goal

pub over-requires : goal.over-requires
over-requires c = subst IsWhole (sym c.in_ok-names.ensures) (whole_loaded (known_in c.before-2.inside.names).names c.args.conf.now c.args.plain.now c.args.radio.now c.requires.can)
