-- A graph and the gifts above it beside the inputs of a network.
use Rattle.std.specs.Prelude.{◌≡◌, true, false, Contains}
use Rattle.kern_model.specs.ObjectOrder.{Has}
use Rattle.kern_model.specs.declared.object.Object.{Object}
use Rattle.kern_calls.specs.Lower.{is_lower}
use Rattle.net_rules.specs.declared.inputs.Inputs.{Inputs}
use Rattle.net_rules.specs.Inputs.{facts_of}
use Rattle.graph_rules.specs.State.{State}
use Rattle.graph_rules.specs.Agreeing.{Agrees}
use Rattle.graph_counts.specs.Sound.{IsSound}
use Rattle.given_objects.specs.declared.gift.Gift.{Gift}
use Rattle.given_objects.specs.Gifts.{Gifts}
use Rattle.graph_settle.specs.SettlingState.{SettlingState}
use Rattle.settling_laws.specs.Given.{AreGiven}

-- A sound graph has what the inputs say of devices and as many claims of each name as interfaces use it,
-- and each address and each route has as many givers as interfaces give it.
pub record IsSettlingStateOf (inputs : Inputs) (c : SettlingState) : Type 0 where
  pub sound : IsSound c.graph.known
  pub agrees : Agrees (facts_of inputs) c.graph.known
  pub given : AreGiven (facts_of inputs) c.gifts

-- what a graph holds is neither an address nor a route
abbrev pub HoldsLower : State → Type 0
HoldsLower s = (o : Object) → Has s.held o → is_lower o ≡ true

-- no gift that is held tells that its name loses its link
abbrev pub AreQuiet : Gifts → Type 0
AreQuiet gs = (g : Gift) → Contains gs g → g.held ≡ true → g.loses_link ≡ false
