use Rattle.std.proofs.Common.{arith}
use Rattle.use_counts.proofs.FlagLemmas.{set_within}
use Rattle.use_counts.proofs.uses.MarkedIds.add_room.Goals as goal

pub overflow_sub-more : goal.overflow_sub-more
overflow_sub-more c = omega (arith, c.len.ensures, c.len-2.ensures, set_within c.self.inside.flags.items, c.self.invariant.few, c.self.inside.flags.ok.0, c.self.inside.ids.ok.0)
