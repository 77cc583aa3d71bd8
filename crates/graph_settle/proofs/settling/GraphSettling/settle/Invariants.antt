use Rattle.std.proofs.Common.{◌≡◌, ◌≤◌, length}
use Rattle.net_settle.specs.Outside.{outside_of}
use Rattle.net_settle.specs.Settle.{SettledAlone}
use Rattle.graph_settle.specs.SettlingState.{calls_of, IsReady, IsAlike, HoldsAs}
use Rattle.graph_settle.proofs.settling.GraphSettling.settle.Given as goal

-- the calls so far were made and their lines written, all is ready for the others, and the kernel holds what is held
abbrev pub invariant-loop-call : goal.invariant-loop-call
invariant-loop-call g l = record {
  settled : SettledAlone (calls_of l.fn.self) (calls_of l.self) (outside_of g.O.Sink g.K.Kernel l.fn.out l.fn.kernel) (outside_of g.O.Sink g.K.Kernel l.out l.kernel);
  ready : IsReady l.self;
  of : HoldsAs g.K.Kernel l.kernel l.self;
  stays : IsAlike l.fn.self l.self;
  may_lose_link : l.self.may_lose_link ≡ l.fn.self.may_lose_link;
  kernel_later : g.K.Kernel.faults l.fn.kernel ≤ g.K.Kernel.faults l.kernel;
  out_later : g.O.Sink.faults l.fn.out ≤ g.O.Sink.faults l.out;
}

abbrev pub decreases-loop-call : goal.decreases-loop-call
decreases-loop-call g l = length (calls_of l.self)
