-- What is shown of radios.
use Rattle.std.specs.Prelude.{ℕ, List, [], map, codes, Bool, false, Option, Some, None, is_some, is_none}
use Rattle.std.specs.Option.{option_map}
use Rattle.serde_json.specs.Data.{Data, boolean, object, member, no_members}
use Rattle.net_rows.specs.declared.rows.RadioRow.{RadioRow}
use Rattle.net_rules.specs.declared.inputs.Inputs.{Inputs}
use Rattle.net_rules.specs.declared.inputs.OpenRadio.{OpenRadio}
use Rattle.net_rules.specs.Rows.{radio_named}
use Rattle.net_rules.specs.Inputs.{open_radio}
use Rattle.net_status.specs.Values.{text, text_or_null, list}
use Rattle.net_status.specs.Faults.{fault_item}

-- a request is open without an answer
abbrev pub is_waiting : Option OpenRadio → Bool
is_waiting None = false
is_waiting (Some o) = is_none o.ports

-- the ports of the answer to an open request
abbrev pub ports_told : Option OpenRadio → Option (List (Option (List ℕ)))
ports_told None = None
ports_told (Some o) = o.ports

abbrev pub port_items : Option (List (Option (List ℕ))) → List Data
port_items None = []
port_items (Some ports) = map text_or_null ports

-- a radio with its open request; it is up where that has an answer
abbrev pub shown_with : Option OpenRadio → RadioRow → Data
shown_with asked row =
    object (member (codes "errors") (list (map fault_item row.faults))
    (member (codes "name") (text row.name)
    (member (codes "pending") (boolean (is_waiting asked))
    (member (codes "ports") (list (port_items (ports_told asked)))
    (member (codes "up") (boolean (is_some (ports_told asked))) no_members)))))

abbrev pub radio_shown : Inputs → RadioRow → Data
radio_shown inputs row = shown_with (open_radio inputs.radios row.name) row

-- the radio of a name
abbrev pub radio_status : Inputs → List ℕ → Option Data
radio_status inputs name = option_map (radio_shown inputs) (radio_named inputs.conf name)
