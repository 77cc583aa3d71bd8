use Rattle.std.proofs.Common.{◌≡◌, []}
use Rattle.net_plane.specs.Network.{IsOf}
use Rattle.net_cases.proofs.history.go_on.Given as goal

-- the kernel is that of the plane, which has nothing to tell
abbrev pub invariant-loop-line : goal.invariant-loop-line
invariant-loop-line g l = record {
  told : l.net.notices ≡ [];
  of : IsOf g.K.Kernel l.kernel l.net;
}
