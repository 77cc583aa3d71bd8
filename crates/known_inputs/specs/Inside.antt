-- How inputs are kept: lists with room for an operator state and an open request of each interface of the rows.
use Rattle.std.specs.Prelude.{◌≤◌, length, vec_capacity}
use Rattle.net_rules.specs.declared.inputs.Inputs.{Inputs}
use Rattle.known_inputs.specs.declared.known.KnownInputs.TheInside.{Inside}
use Rattle.known_inputs.specs.Known.{Known, StandOnce}

abbrev pub inputs_in : Inside → Inputs
inputs_in k = record {
  conf = k.conf;
  devices = k.devices.items;
  operator_states = k.operator_states.items;
  interfaces = k.interfaces.items;
  radios = k.radios;
  next = k.next;
}

abbrev pub known_in : Inside → Known
known_in k = record { inputs = inputs_in k; most_devices = vec_capacity k.devices }

-- what stands once, and the room
pub record IsKept (k : Inside) : Type 0 where
  pub once : StandOnce (inputs_in k)
  pub operator_states : length k.conf.interfaces ≤ vec_capacity k.operator_states
  pub requests : length k.conf.interfaces ≤ vec_capacity k.interfaces
