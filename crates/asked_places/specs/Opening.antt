-- Requests that are opened.
use Rattle.std.specs.Prelude.{ℕ, List, [], ◌∷◌, ◌++◌, map, ◌&&◌, Option, None, Some, is_none, option_to_list, slice_get}
use Rattle.std.specs.Prelude.{if◌then◌else◌}
use Rattle.std.specs.Option.{option_and_then}
use Rattle.net_rows.specs.declared.rows.InterfaceRow.{InterfaceRow}
use Rattle.net_rules.specs.declared.request.InterfaceRequest.{InterfaceRequest}
use Rattle.net_rules.specs.declared.inputs.Inputs.{Inputs}
use Rattle.net_rules.specs.declared.event.Notice.{Notice}
use Rattle.net_rules.specs.Inputs.{facts_of, open_interface}
use Rattle.net_rules.specs.Need.{interface_need}
use Rattle.net_rules.specs.After.{opened_interfaces}
use Rattle.net_rules.specs.Notices.{interface_notice}
use Rattle.known_inputs.specs.Steps.{with_request}
use Rattle.net_rules.specs.States.{is_first}

-- the need of a row, where the row is the first of its name and has no open request
abbrev pub opened_row : Inputs → ℕ → InterfaceRow → Option InterfaceRequest
opened_row inputs place row =
    if is_first inputs.conf.interfaces place row.name
    && is_none (open_interface inputs.interfaces row.name)
    then interface_need (facts_of inputs) row else None

-- that of the row at a place
abbrev pub opened_at : Inputs → ℕ → Option InterfaceRequest
opened_at inputs place =
    option_and_then (opened_row inputs place) (slice_get inputs.conf.interfaces place)

-- a request, if there is one, is opened
abbrev pub with_opened : Inputs → Option InterfaceRequest → Inputs
with_opened inputs None = inputs
with_opened inputs (Some request) = with_request inputs request

-- the inputs with the request of the row at a place
abbrev pub opened_after : Inputs → ℕ → Inputs
opened_after inputs place = with_opened inputs (opened_at inputs place)

-- what is told of it
abbrev pub opened_notices : Inputs → ℕ → List Notice
opened_notices inputs place =
    map (interface_notice inputs.conf)
    (opened_interfaces inputs.next (option_to_list (opened_at inputs place)))

-- what is told of those at some places, one after the other
abbrev pub told_of_all : Inputs → List ℕ → List Notice
told_of_all inputs [] = []
told_of_all inputs (place ∷ places) =
    opened_notices inputs place ++ told_of_all (opened_after inputs place) places
