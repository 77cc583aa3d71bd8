use Rattle.std.proofs.Common.{ℕ, ◌≡◌, []}
use Rattle.net_settle.specs.Outside.{outside_of}
use Rattle.net_plane.specs.Network.{IsOf, moment_of}
use Rattle.net_rules.specs.Moment.{want_of}
use Rattle.net_gen.proofs.RunLemmas.{RanSoFar}
use Rattle.net_gen.proofs.run.take_steps.Given as goal

-- the steps so far were taken, and the kernel is that of the plane
abbrev pub invariant-loop-step : goal.invariant-loop-step
invariant-loop-step g l = record {
  ran : RanSoFar l.rows (moment_of l.fn.net) (moment_of l.net)
      (outside_of g.O.Sink g.K.Kernel l.fn.out l.fn.kernel)
      (outside_of g.O.Sink g.K.Kernel l.out l.kernel) l.step-index;
  of : IsOf g.K.Kernel l.kernel l.net;
  silent : l.net.notices ≡ [];
}
