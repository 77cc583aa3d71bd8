use Rattle.std.proofs.Common.{List, [], ◌∷◌, ◌++◌, ap, ◌∙◌}
use Rattle.use_counts.specs.declared.node.Edge.{Edge}
use Rattle.graph_rules.specs.State.{name_list}
use Rattle.graph_counts.proofs.EdgeLemmas.{ports_more}
use Rattle.graph_counts.proofs.edges.add_ports.Goals as goal

pub loop-port-preserved : goal.loop-port-preserved
loop-port-preserved c =
    c.in_ok-push.ensures.items
    ∙ ap (λ (es : List Edge). es ++ record { lower = c.id_of.result; upper = c.args.upper } ∷ []) c.loop-port.invariant
    ∙ ports_more (name_list c.args.names.now) c.args.upper c.args.edges.now.items c.args.ports.now c.loop-port.port-index c.id_of.result c.port-item.result c.loop-port-test.true c.port-item.is c.id_of.ensures
