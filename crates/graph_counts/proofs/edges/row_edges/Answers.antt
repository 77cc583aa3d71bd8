use Rattle.std.proofs.Common.{List, map, ◌++◌, ap, ◌∙◌}
use Rattle.use_counts.specs.declared.node.Edge.{Edge}
use Rattle.use_counts.specs.Rows as counts
use Rattle.graph_rules.specs.State.{name_list}
use Rattle.graph_counts.specs.Counted.{own_standing}
use Rattle.graph_counts.proofs.EdgeLemmas.{row_edges_more}
use Rattle.graph_counts.proofs.edges.row_edges.Goals as goal

pub loop-upper-preserved : goal.loop-upper-preserved
loop-upper-preserved c =
    let names = name_list c.args.names.now in
    let upper = c.loop-upper.upper in
    let row = c.index-rows-upper.result in
    c.in_ok-add_lowers.ensures
    ∙ ap (λ (es : List Edge). es ++ map (counts.edge upper) (counts.lowers_of (own_standing names row))) c.loop-upper.invariant
    ∙ row_edges_more names c.args.rows.now upper row c.loop-upper-test.true c.index-rows-upper.is
