-- A graph and gifts that are counted over what interfaces are.
use Rattle.std.proofs.Common.{ℕ, ◌≡◌, List, ap, ◌∙◌}
use Rattle.net_rules.specs.declared.inputs.Inputs.{Inputs}
use Rattle.net_rules.specs.Inputs.{facts_of}
use Rattle.graph_rules.specs.State.{claims_in}
use Rattle.graph_counts.specs.Sound.{IsSound}
use Rattle.graph_laws.specs.Below.{AgreesBelow}
use Rattle.net_rules.specs.declared.state.InterfaceState.{InterfaceState}
use Rattle.net_rules.specs.Claims.{claims_of}
use Rattle.net_rules.specs.States.{AreStates}
use Rattle.net_rules.proofs.ClaimLemmas.{claims_are}
use Rattle.net_gifts.specs.Giving.{times_in, HasGivers}
use Rattle.net_gifts.proofs.GivenLemmas.{gives_are}
use Rattle.graph_settle.specs.SettlingState.{SettlingState}
use Rattle.settling_laws.specs.Beside.{IsSettlingStateOf}

pub counted_beside : (inputs : Inputs) (states : List InterfaceState) (c : SettlingState) → IsSound c.graph.known → AgreesBelow (facts_of inputs) c.graph.known → AreStates (facts_of inputs) inputs.conf.interfaces states
    → ((name : List ℕ) → claims_in c.graph.known name ≡ claims_of states name) → HasGivers (facts_of inputs) inputs.conf.interfaces states c.gifts → IsSettlingStateOf inputs c
counted_beside inputs states c sound below are claims givers = record {
  sound = sound;
  agrees = record {
    rows = below.rows;
    vlans = below.vlans;
    radio = below.radio;
    devices = below.devices;
    claims = λ name. claims name ∙ claims_are (facts_of inputs) name states are;
  };
  given = λ o upper. givers o ∙ ap (times_in o) (gives_are (facts_of inputs) states are);
}
