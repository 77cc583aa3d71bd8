-- The graph that the plane lends, beside what the plane keeps.
use Rattle.std.specs.Prelude.{ℕ, ◌≡◌, List, Some, Contains}
use Rattle.kern_model.specs.declared.object.Device.{Device}
use Rattle.kern_model.specs.ObjectOrder.{set_of}
use Rattle.kern_calls.specs.Lower.{lower_part}
use Rattle.net_rules.specs.Rows.{names_of}
use Rattle.net_rules.specs.Inputs.{facts_of, device_in}
use Rattle.net_rules.specs.Moment.{want_of}
use Rattle.graph_rules.specs.State.{State, names_in}
use Rattle.graph_rules.specs.Agreeing.{Agrees}
use Rattle.graph_rules.specs.Wanted.{want_in}
use Rattle.net_plane.specs.Network.{Network}

-- It has what the inputs say of devices and how many interfaces use each name, and knows the names of
-- the rows and of the present devices. It wants what the inputs want, and holds what the plane holds,
-- without addresses and routes. Each load made it anew, and nothing else did.
pub record Lends (network : Network) (s : State) : Type 0 where
  pub agrees : Agrees (facts_of network.inputs) s.known
  pub rows : (name : List ℕ) → Contains (names_of network.inputs.conf) name
      → Contains (names_in s.known) name
  pub devices : (name : List ℕ) (device : Device)
      → device_in network.inputs.devices name ≡ Some device → Contains (names_in s.known) name
  pub wants : want_in s.known ≡ lower_part (want_of network.inputs)
  pub holds : s.held ≡ lower_part (set_of network.held)
  pub loads : s.loads ≡ network.loads
