use Rattle.std.proofs.Common.{arith, length, ap}
use Rattle.use_counts.specs.Uses.{Marking}
use Rattle.use_counts.proofs.FlagLemmas.{set_within}
use Rattle.use_counts.proofs.uses.MarkedIds.ids.Goals as goal

pub returns-clause-few : goal.returns-clause-few
returns-clause-few c = omega (arith, ap length c.as_slice.ensures.value, c.self.invariant.few, set_within c.self.inside.flags.items, ap (λ (m : Marking). m.room) c.self.view_is)
