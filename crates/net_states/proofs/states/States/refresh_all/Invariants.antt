use Rattle.std.proofs.Common.{◌≡◌}
use Rattle.net_states.specs.Kept.{IsTied}
use Rattle.net_states.specs.Counted.{IsCountedBy, DiffersInCounts}
use Rattle.net_states.proofs.FollowLemmas.{FollowBelow}
use Rattle.net_states.proofs.states.States.refresh_all.Given as goal

-- interfaces so far follow
abbrev pub invariant-loop-place : goal.invariant-loop-place
invariant-loop-place g l = record {
  tied : IsTied l.inputs.inputs l.self;
  counted : IsCountedBy l.inputs.inputs l.self.list.items l.settling;
  follow : FollowBelow l.inputs.inputs l.place l.self.list.items;
  kept : l.self ≡ record l.fn.self { list = l.self.list };
  stays : DiffersInCounts l.fn.settling l.settling;
}
