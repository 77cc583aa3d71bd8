use Rattle.std.proofs.Common.{◌≡◌, drop}
use Rattle.net_states.specs.Kept.{IsTied, FollowBut}
use Rattle.net_states.specs.Counted.{IsCountedBy, DiffersInCounts}
use Rattle.net_states.proofs.states.States.refresh.Given as goal

-- interfaces at other places than those that are left follow
abbrev pub invariant-loop-place : goal.invariant-loop-place
invariant-loop-place g l = record {
  tied : IsTied l.inputs.inputs l.self;
  counted : IsCountedBy l.inputs.inputs l.self.list.items l.settling;
  follow : FollowBut l.inputs.inputs (drop l.place-index l.places) l.self.list.items;
  kept : l.self ≡ record l.fn.self { list = l.self.list };
  stays : DiffersInCounts l.fn.settling l.settling;
}
