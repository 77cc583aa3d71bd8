use Rattle.std.proofs.Common.{◌≡◌, take}
use Rattle.net_states.specs.Kept.{IsTied, FollowBut, AreIdleAt}
use Rattle.net_states.specs.Counted.{IsCountedBy, DiffersInCounts}
use Rattle.net_states.proofs.states.States.let_down_all.Given as goal

-- the interfaces at the places so far are idle, and the others follow still
abbrev pub invariant-loop-place : goal.invariant-loop-place
invariant-loop-place g l = record {
  tied : IsTied l.inputs.inputs l.self;
  counted : IsCountedBy l.inputs.inputs l.self.list.items l.settling;
  idle : AreIdleAt (take l.place-index l.places) l.self.list.items;
  follow : FollowBut l.inputs.inputs l.places l.fn.self.list.items → FollowBut l.inputs.inputs l.places l.self.list.items;
  kept : l.self ≡ record l.fn.self { list = l.self.list };
  stays : DiffersInCounts l.fn.settling l.settling;
}
