use Rattle.std.proofs.Common.{arith}
use Rattle.graph_objects.proofs.ForgetLemmas.{size_below}
use Rattle.graph_objects.proofs.forgetting.forget_from.Goals as goal

pub mark_all-requires : goal.mark_all-requires
mark_all-requires c = omega (arith, size_below c.args.count c.args.slots.now.entries c.keep_below.new.slots.entries c.keep_below.ensures, c.requires)
