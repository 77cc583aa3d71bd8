use Rattle.net_plane.specs.Network.{IsOf}
use Rattle.net_gen.specs.Counted.{kernel_alone}
use Rattle.net_gen.proofs.CountLemmas.{SoFar}
use Rattle.net_gen.proofs.counted.settle_and_count.Given as goal

-- so many calls were made, and the kernel is that of the plane
abbrev pub invariant-loop-count : goal.invariant-loop-count
invariant-loop-count g l = record {
  far : SoFar l.fn.net l.net (kernel_alone g.K.Kernel l.fn.kernel)
      (kernel_alone g.K.Kernel l.kernel) l.count;
  of : IsOf g.K.Kernel l.kernel l.net;
}
