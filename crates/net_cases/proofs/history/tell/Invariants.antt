use Rattle.std.proofs.Common.{length}
use Rattle.net_plane.specs.Network.{HasSameKernel}
use Rattle.net_cases.proofs.history.tell.Given as goal

-- only notices were handed out
abbrev pub invariant-loop-notice : goal.invariant-loop-notice
invariant-loop-notice l = HasSameKernel l.fn.net l.net

abbrev pub decreases-loop-notice : goal.decreases-loop-notice
decreases-loop-notice l = length l.net.notices
