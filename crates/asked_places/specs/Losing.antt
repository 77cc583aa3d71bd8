-- Requests that are lost.
use Rattle.std.specs.Prelude.{ℕ, List, Option, None, Some, filter_map, slice_get, if◌then◌else◌}
use Rattle.std.specs.Option.{option_and_then}
use Rattle.net_rows.specs.declared.rows.InterfaceRow.{InterfaceRow}
use Rattle.net_rules.specs.declared.inputs.Inputs.{Inputs}
use Rattle.net_rules.specs.declared.inputs.OpenInterface.{OpenInterface}
use Rattle.net_rules.specs.Facts.{Facts}
use Rattle.net_rules.specs.Inputs.{facts_of, open_interface}
use Rattle.net_rules.specs.Touched.{is_needed, left_requests}
use Rattle.net_rules.specs.States.{is_first}
use Rattle.asked_places.specs.Touched.{is_touched}

-- the number of an open request that is no longer needed
abbrev pub lost_number : Facts → Option OpenInterface → Option ℕ
lost_number facts None = None
lost_number facts (Some o) = if is_needed facts o then None else Some o.number

-- that of the row at a place, where it is the first of its name
abbrev pub lost_row : Inputs → ℕ → InterfaceRow → Option ℕ
lost_row inputs place row =
    if is_first inputs.conf.interfaces place row.name
    then lost_number (facts_of inputs) (open_interface inputs.interfaces row.name) else None

abbrev pub lost_at : Inputs → ℕ → Option ℕ
lost_at inputs place = option_and_then (lost_row inputs place) (slice_get inputs.conf.interfaces place)

-- the numbers of the requests that are lost at some places, in their order
abbrev pub lost_at_places : Inputs → List ℕ → List ℕ
lost_at_places inputs places = filter_map (lost_at inputs) places

-- the inputs without the requests of the interfaces at some places that are no longer needed
abbrev pub left_at : Inputs → List ℕ → Inputs
left_at inputs places = record inputs {
  interfaces = left_requests (facts_of inputs) (is_touched inputs.conf.interfaces places) inputs.interfaces;
}
