use Rattle.std.proofs.Common.{length}
use Rattle.kern_memory.proofs.objects.+remove_standing_on.Given as goal

-- each call has one object fewer
abbrev pub decreases-remove_standing_on : goal.decreases-remove_standing_on
decreases-remove_standing_on l = length l.objects.now.keys
