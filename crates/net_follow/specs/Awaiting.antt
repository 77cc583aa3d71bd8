-- What is ready for something that happens to a device.
use Rattle.std.specs.Prelude.{ℕ, ◌≡◌, List, ◌++◌, ◌∷◌, [], Some}
use Rattle.kern_model.specs.declared.object.Device.{Device}
use Rattle.kern_model.specs.declared.object.DevEvent.{DevEvent}
use Rattle.kern_model.specs.declared.object.DevEvent.TheVariants as device
use Rattle.net_rules.specs.declared.inputs.Inputs.{Inputs}
use Rattle.graph_rules.specs.State.{place_among}
use Rattle.net_reach.specs.declared.reach.Reach.{Reach}
use Rattle.net_reach.specs.Reach.{IsReachOf}
use Rattle.known_inputs.specs.Steps.{name_of, HasDeviceRoom}
use Rattle.net_follow.specs.declared.follower.Follower.{Follower}
use Rattle.net_follow.specs.InStep.{inputs_of, IsInStep}

-- inputs with a device more at the end
abbrev pub with_device : Inputs → List ℕ → Device → Inputs
with_device inputs name d = record inputs { devices = inputs.devices ++ (name, d) ∷ [] }

-- The place of a device that comes is noted, behind those that are present. Of another nothing is.
abbrev pub IsPlaced : Inputs → DevEvent → Reach → Type 0
IsPlaced inputs (device.Add name carrier mtu mac) reach =
    IsReachOf (with_device inputs name (record { carrier = carrier; mtu = mtu; mac = mac })) reach
IsPlaced inputs (device.Remove name) reach = IsReachOf inputs reach
IsPlaced inputs (device.Carrier name on) reach = IsReachOf inputs reach

-- All is in step but that the place of a device that comes is noted. The graph knows its name by this id, and there is
-- room for it.
pub record IsAwaiting (event : DevEvent) (id : ℕ) (f : Follower) : Type 0 where
  pub before : Reach
  pub step : IsInStep (record f { states = record f.states { reach = before } })
  pub placed : IsPlaced (inputs_of f) event f.states.reach
  pub known : place_among f.settling.graph.known.names (name_of event) ≡ Some id
  pub room : HasDeviceRoom f.inputs event
