use Rattle.use_counts.specs.Order.{ArePlaced}
use Rattle.use_counts.proofs.order.add_level.Given as goal

abbrev pub invariant-loop-place : goal.invariant-loop-place
invariant-loop-place l = record { placed : ArePlaced l.rows l.level l.place l.places.items l.ranks.items }
