use Rattle.std.proofs.Common.{length}
use Rattle.use_counts.proofs.OrderLemmas.{placed_start, zeros, as_started}
use Rattle.use_counts.proofs.order.Order.of.Goals as goal

pub loop-level-init : goal.loop-level-init
loop-level-init c =
    let rows = c.args.rows.now in
    let ranks = c.resize.new.self.items in
    let z = zeros ranks c.new-ranks.result.items (length rows) c.new-ranks.result.len c.in_ok-resize.ensures.items c.new-ranks.ensures.items c.new-ranks.ensures.len in
    record { placed = as_started rows c.new-places.result.items ranks c.new-places.ensures.items (placed_start rows ranks z.0 z.1) }
