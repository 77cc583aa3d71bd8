-- Room for one more operator state and one more ask.
use Rattle.std.proofs.Common.{arith, ℕ, ◌≡◌, ◌<◌, List, map, length, None}
use Rattle.std.specs.Prelude.{filter, not, bytes_eq}
use Rattle.std.proofs.lemmas.List.{length-map}
use Rattle.net_rules.specs.declared.request.InterfaceRequest.{InterfaceRequest}
use Rattle.net_rules.specs.declared.inputs.Inputs.{Inputs}
use Rattle.net_rules.specs.declared.inputs.OperatorState.{OperatorState}
use Rattle.net_rules.specs.declared.inputs.OpenInterface.{OpenInterface}
use Rattle.net_rules.specs.Inputs.{open_interface}
use Rattle.known_inputs.specs.Known.{IsNamed, StandOnce}
use Rattle.known_inputs.proofs.NameLemmas.{fewer_names, of_rows_kept, left_out, no_member}

abbrev pub others : List ℕ → List OperatorState → List OperatorState
others interface operator_states = filter (λ c. not (bytes_eq c.interface interface)) operator_states

pub few_operator_states : (inputs : Inputs) (interface : List ℕ) → StandOnce inputs → IsNamed inputs.conf interface → length (others interface inputs.operator_states) < length inputs.conf.interfaces
few_operator_states inputs interface stand named =
    let key : OperatorState → List ℕ = λ c. c.interface in
    let fewer = fewer_names inputs.conf (map key (others interface inputs.operator_states)) interface
    (of_rows_kept inputs.conf key (λ c. not (bytes_eq c.interface interface)) inputs.operator_states stand.operator_states) named (left_out key interface inputs.operator_states) in
    let same = length-map (others interface inputs.operator_states) key in
    omega (arith, fewer, same)

pub few_requests : (inputs : Inputs) (request : InterfaceRequest) → StandOnce inputs → open_interface inputs.interfaces request.name ≡ None → IsNamed inputs.conf request.name → length inputs.interfaces < length inputs.conf.interfaces
few_requests inputs request stand new named =
    let key : OpenInterface → List ℕ = λ o. o.request.name in
    let fewer = fewer_names inputs.conf (map key inputs.interfaces) request.name stand.requests named (no_member key inputs.interfaces request.name new) in
    let same = length-map inputs.interfaces key in
    omega (arith, fewer, same)
