use Rattle.use_counts.specs.Order.{ArePlaced}
use Rattle.use_counts.proofs.order.Order.of.Given as goal

abbrev pub invariant-loop-level : goal.invariant-loop-level
invariant-loop-level l = record { placed : ArePlaced l.rows l.level 0 l.places.items l.ranks.items }
