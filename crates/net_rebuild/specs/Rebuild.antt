-- What a load, or an answer of a radio, makes anew.
use Rattle.std.specs.Prelude.{ℕ, ◌≡◌, ◌≤◌, ◌*◌, ◌^◌, map, length, vec_capacity}
use Rattle.std.specs.VecDeque.{deque_capacity}
use Rattle.kern_model.specs.declared.object.Object.{Object}
use Rattle.net_rows.specs.declared.rows.Conf.{Conf}
use Rattle.net_rules.specs.declared.event.Event.{Event}
use Rattle.net_rules.specs.Inputs.{facts_of}
use Rattle.net_rules.specs.RadioPorts.{radio_ports}
use Rattle.net_rules.specs.After.{after}
use Rattle.net_rules.specs.Notices.{notices}
use Rattle.graph_rules.specs.Answers.{port_of}
use Rattle.given_objects.specs.Gifts as gift
use Rattle.given_objects.specs.Gifts.{givers_of}
use Rattle.load_parts.specs.Further.{further_names}
use Rattle.net_follow.specs.Kept.{IsTied}
use Rattle.net_follow.specs.Load.{AreIdle}
use Rattle.net_follow.specs.Counted.{HasGiftRoom}
use Rattle.net_follow.specs.declared.follower.Follower.{Follower}
use Rattle.net_follow.specs.InStep.{inputs_of}
use Rattle.net_rebuild.specs.declared.rebuild.Rebuild.{Rebuild}

-- rows of interfaces and of routes are few
pub record AreFewRows (conf : Conf) : Type 0 where
  pub interfaces : length conf.interfaces ≤ 1024
  pub routes : length conf.routes ≤ 2 ^ 49

-- The inputs are those after an event, and what is to be told of it is. Interfaces neither claim nor give anything yet;
-- the same is held, and there is a place for what each may come to give. The names and ports are those that the graph
-- gets beside the rows. There is room for the next event.
pub record IsRebuildOf (f : Follower) (event : Event) (made : Rebuild) : Type 0 where
  pub inputs : made.inputs.inputs ≡ after (inputs_of f) event
  pub told : made.notices.items ≡ notices (inputs_of f) event
  pub tied : IsTied made.inputs.inputs made.states
  pub idle : AreIdle made.states.list.items
  pub held : gift.held_of made.gifts ≡ gift.held_of f.settling.gifts
  pub none : (o : Object) → givers_of made.gifts o ≡ 0
  pub places : HasGiftRoom made.inputs.inputs made.gifts
  pub further : made.plain.items ≡ further_names made.inputs.inputs
  pub ports : map port_of made.ports.items ≡ radio_ports (facts_of made.inputs.inputs)
  pub next : made.inputs.inputs.next ≤ 2 ^ 63
  pub touched : length made.inputs.inputs.conf.interfaces ≤ vec_capacity made.touched
  pub notice_room : 2 * length made.inputs.inputs.conf.interfaces ≤ deque_capacity made.notices
  pub routes : length made.inputs.inputs.conf.routes ≤ 2 ^ 49
