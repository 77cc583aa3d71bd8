use Rattle.use_counts.proofs.OrderLemmas.{loadable}
use Rattle.use_counts.proofs.graph.Graph.load.Goals as goal

pub with_order-requires : goal.with_order-requires
with_order-requires c = loadable c.args.rows.now c.args.fixed.now c.args.ports.now c.in_ok-order.order.places.items c.in_ok-order.order.ranks.items c.requires c.in_ok-order.ensures
