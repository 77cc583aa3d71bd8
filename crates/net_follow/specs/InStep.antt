-- What is kept of a network, in step with its inputs.
use Rattle.std.specs.Prelude.{ℕ, ◌≡◌, ◌≤◌, ◌+◌, ◌*◌, ◌^◌, List, [], length, Bool, false, vec_capacity}
use Rattle.std.specs.VecDeque.{deque_capacity}
use Rattle.net_rules.specs.declared.inputs.Inputs.{Inputs}
use Rattle.net_rules.specs.declared.event.Event.{Event}
use Rattle.net_rules.specs.After.{after}
use Rattle.net_rules.specs.Moment.{held_after, IsHistory}
use Rattle.net_rules.specs.Notices.{notices}
use Rattle.net_rules.specs.Numbers.{AreRising}
use Rattle.graph_laws.specs.Links.{HoldsLinksOfRows}
use Rattle.state_requests.specs.SettlingState.{SettlingState, held_of, IsReady}
use Rattle.settling_laws.specs.Beside.{HoldsLower, AreQuiet}
use Rattle.asked_places.specs.Touched.{is_touched}
use Rattle.state_requests.specs.Kept.{IsTied, AreStatesOf, FollowBut}
use Rattle.state_requests.specs.Counted.{IsCountedBy}
use Rattle.net_follow.specs.declared.follower.Follower.{Follower}

-- the inputs of the network
abbrev pub inputs_of : Follower → Inputs
inputs_of f = f.inputs.inputs

-- There is room for the places of all interfaces, and for what one event tells of their requests: each may be lost, and
-- opened. Routes are few.
pub record HasRoom (f : Follower) : Type 0 where
  pub touched : length (inputs_of f).conf.interfaces ≤ vec_capacity f.touched
  pub notices : 2 * length (inputs_of f).conf.interfaces ≤ deque_capacity f.notices
  pub routes : length (inputs_of f).conf.routes ≤ 2 ^ 49

-- A history led here. Interfaces are what they are by the inputs; what the graph and the gifts count is counted over
-- them; and all is ready to be settled.
pub record IsInStep (f : Follower) : Type 0 where
  pub history : IsHistory (record { inputs = inputs_of f; held = held_of f.settling })
  pub states : AreStatesOf (inputs_of f) f.states
  pub counted : IsCountedBy (inputs_of f) f.states.list.items f.settling
  pub ready : IsReady f.settling
  pub room : HasRoom f

-- An event came: the inputs and what is held are those after it, and what is to be told of it is.
pub record HasFollowed (event : Event) (before now : Follower) : Type 0 where
  pub inputs : inputs_of now ≡ after (inputs_of before) event
  pub held : held_of now.settling ≡ held_after (held_of before.settling) event
  pub told : now.notices.items ≡ notices (inputs_of before) event
  pub loads : now.settling.graph.loads ≡ before.settling.graph.loads

-- what is held is lower in the graph; and where no name may fall, its links are those of its rows, and gifts are quiet
pub record IsCalm (c : SettlingState) : Type 0 where
  pub lower : HoldsLower c.graph
  pub links : c.may_lose_link ≡ false → HoldsLinksOfRows c.graph
  pub quiet : c.may_lose_link ≡ false → AreQuiet c.gifts

-- the interfaces that are touched, by name
abbrev pub touched_by : Follower → List ℕ → Bool
touched_by f name = is_touched (inputs_of f).conf.interfaces f.touched.items name

-- The inputs and the graph know what happened. The interfaces at the touched places are counted as what they were, and
-- all others are what they are. Nothing is told yet.
pub record IsMoving (f : Follower) : Type 0 where
  pub rising : AreRising 0 (length (inputs_of f).conf.interfaces) f.touched.items
  pub tied : IsTied (inputs_of f) f.states
  pub follow : FollowBut (inputs_of f) f.touched.items f.states.list.items
  pub counted : IsCountedBy (inputs_of f) f.states.list.items f.settling
  pub calm : IsCalm f.settling
  pub next : (inputs_of f).next + length f.touched.items ≤ 2 ^ 63
  pub told : f.notices.items ≡ []
  pub room : HasRoom f

-- Nothing is seen of a change: the inputs, what is held, what is to be told and the loads are the same.
pub record LooksAs (before now : Follower) : Type 0 where
  pub inputs : inputs_of now ≡ inputs_of before
  pub held : held_of now.settling ≡ held_of before.settling
  pub told : now.notices.items ≡ before.notices.items
  pub loads : now.settling.graph.loads ≡ before.settling.graph.loads
