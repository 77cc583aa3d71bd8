-- What a load leaves.
use Rattle.std.specs.Prelude.{ℕ, ◌≡◌, ◌+◌}
use Rattle.net_rules.specs.declared.event.Event.{Event}
use Rattle.net_rules.specs.After.{after}
use Rattle.net_rules.specs.Notices.{notices}
use Rattle.net_follow.specs.SettlingState.{held_of}
use Rattle.net_follow.specs.declared.follower.Follower.{Follower}
use Rattle.net_follow.specs.InStep.{inputs_of}

-- An event that leaves what is held: the inputs are those after it, what is to be told of it is, and there were so many
-- loads more.
pub record HasBegun (event : Event) (more : ℕ) (before now : Follower) : Type 0 where
  pub inputs : inputs_of now ≡ after (inputs_of before) event
  pub held : held_of now.settling ≡ held_of before.settling
  pub told : now.notices.items ≡ notices (inputs_of before) event
  pub loads : now.settling.graph.loads ≡ before.settling.graph.loads + more
