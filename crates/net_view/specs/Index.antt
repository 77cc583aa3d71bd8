-- The places of all that inputs have by name.
use Rattle.std.specs.Prelude.{map}
use Rattle.net_rules.specs.declared.inputs.Inputs.{Inputs}
use Rattle.net_view.specs.Places.{HasPlaces}
use Rattle.net_view.specs.declared.index.Index.{Index}

-- for each list of the inputs, the places of its names
pub record IsIndexOf (inputs : Inputs) (index : Index) : Type 0 where
  pub names : HasPlaces index.names (map (λ row. row.name) inputs.conf.names)
  pub devices : HasPlaces index.devices (map (λ e. e.0) inputs.devices)
  pub interfaces : HasPlaces index.interfaces (map (λ row. row.name) inputs.conf.interfaces)
  pub radios : HasPlaces index.radios (map (λ row. row.name) inputs.conf.radios)
  pub operator_states : HasPlaces index.operator_states
      (map (λ operator_state. operator_state.interface) inputs.operator_states)
  pub interface_requests : HasPlaces index.interface_requests (map (λ o. o.request.name) inputs.interfaces)
  pub radio_requests : HasPlaces index.radio_requests (map (λ o. o.request.name) inputs.radios)
