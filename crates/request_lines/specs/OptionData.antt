-- Options as JSON, as the handlers of protocols and radios are shown them.
use Rattle.std.specs.Prelude.{ℕ, List, [], ◌∷◌, map, codes}
use Rattle.serde_json.specs.Data.{Data, string, array, object, Members, no_members, member}
use Rattle.serde_json.specs.View.{items_of}
use Rattle.blob_codec.specs.AsText.{json_text_of}
use Rattle.blob_json.specs.ToJson.{Named, put_all}
use Rattle.uci_tree.specs.declared.package.Opt.{Opt}
use Rattle.uci_tree.specs.declared.package.Value.{Value}
use Rattle.uci_tree.specs.declared.package.Value.TheVariants.{One, Many}
use Rattle.net_rows.specs.declared.rows.RadioRow.{RadioRow}
use Rattle.net_rows.specs.declared.rows.WifiRow.{WifiRow}
use Rattle.net_rules.specs.Rows.{enabled_rows}

abbrev pub text_data : List ℕ → Data
text_data text = string (json_text_of text)

abbrev pub texts_data : List (List ℕ) → Data
texts_data texts = array (items_of (map text_data texts))

-- a single value is a text, and a list an array of texts
abbrev pub value_data : Value → Data
value_data (One text) = text_data text
value_data (Many texts) = texts_data texts

abbrev pub named_of : Opt → Named
named_of option = (json_text_of option.name, value_data option.value)

-- the members in byte order of their names, the last of several that have one name
abbrev pub members_of : List Opt → Members
members_of options = put_all no_members (map named_of options)

-- an object with the names of the options as members
abbrev pub options_data : List Opt → Data
options_data options = object (members_of options)

abbrev pub rows_data : List WifiRow → Data
rows_data rows = array (items_of (map (λ row. options_data row.options) rows))

-- the options of the radio, and those of its enabled sections in file order
abbrev pub radio_data : RadioRow → Data
radio_data radio =
    object (member (codes "config") (options_data radio.options)
    (member (codes "interfaces") (rows_data (enabled_rows radio)) no_members))
