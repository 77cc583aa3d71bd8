-- What is told of packages (OpenWrt's rpcd).
use Rattle.std.specs.Prelude.{ℕ, ◌+◌, List, [], ◌∷◌, ◌++◌, Option, Some, None, Result, Ok, Err, codes, map, find}
use Rattle.std.specs.Prelude.{bytes_eq}
use Rattle.blob_codec.specs.declared.blob.Blob.{Blob}
use Rattle.blob_codec.specs.declared.blob.Blob.TheVariants.{Array, Table, Str}
use Rattle.blob_codec.specs.declared.blob.Attr.{Attr}
use Rattle.rpc_session.specs.Arguments.{argument, needed_text}
use Rattle.rpc_session.specs.Description.{named, number}
use Rattle.rpc_session.specs.Serve.{truth}
use Rattle.uci_tree.specs.declared.package.Value.{Value}
use Rattle.uci_tree.specs.declared.package.Value.TheVariants.{One, Many}
use Rattle.uci_tree.specs.declared.package.Opt.{Opt}
use Rattle.uci_tree.specs.declared.package.Section.{Section}
use Rattle.uci_tree.specs.declared.package.Package.{Package}
use Rattle.rpc_rules.specs.Status.{not_found}
use Rattle.rpc_rules.specs.ByName.{by_name}

-- ---- parts of packages by name

-- the first section, and the first option, of a name
abbrev pub section_of : List ℕ → List Section → Option Section
section_of name sections = find (λ section. bytes_eq section.name name) sections

abbrev pub option_of : List ℕ → List Opt → Option Opt
option_of name options = find (λ option. bytes_eq option.name name) options

-- ---- values

-- a text without a name
abbrev pub text_item : List ℕ → Attr
text_item text = named [] (Str text)

abbrev pub text_array : List (List ℕ) → Blob
text_array texts = Array (map text_item texts)

-- a text, or an array of texts
abbrev pub value_blob : Value → Blob
value_blob (One text) = Str text
value_blob (Many items) = text_array items

abbrev pub option_value : Opt → Attr
option_value option = named option.name (value_blob option.value)

-- the place of a section, where it is told
abbrev pub place_values : Option ℕ → List Attr
place_values None = []
place_values (Some place) = named (codes ".index") (number place) ∷ []

-- a section: whether it is anonymous, its place where it is told, its name, its type, and its options in byte order
abbrev pub section_values : Option ℕ → Section → List Attr
section_values place section =
    named (codes ".anonymous") (truth section.anonymous)
    ∷ (place_values place
    ++ (named (codes ".name") (Str section.name)
    ∷ named (codes ".type") (Str section.kind)
    ∷ by_name (map option_value section.options)))

-- the sections, each with its place, the first of which has this one
abbrev pub sections_from : ℕ → List Section → List Attr
sections_from place [] = []
sections_from place (section ∷ sections) = named section.name (Table (section_values (Some place) section))
    ∷ sections_from (place + 1) sections

-- a package: its sections in byte order of their names
abbrev pub package_values : Package → List Attr
package_values tree = by_name (sections_from 0 tree.sections)

-- ---- `get`

abbrev pub values_told : List Attr → List Attr
values_told values = named (codes "values") (Table values) ∷ []

abbrev pub option_told : Option Opt → Result (List Attr) ℕ
option_told None = Err not_found
option_told (Some option) = Ok (named (codes "value") (value_blob option.value) ∷ [])

abbrev pub section_told : Option (List ℕ) → Option Section → Result (List Attr) ℕ
section_told name None = Err not_found
section_told None (Some section) = Ok (values_told (section_values None section))
section_told (Some name) (Some section) = option_told (option_of name section.options)

abbrev pub part_told : Option (List ℕ) → Option (List ℕ) → Package → Result (List Attr) ℕ
part_told None option tree = Ok (values_told (package_values tree))
part_told (Some section) option tree = section_told option (section_of section tree.sections)

-- the package, the section or the option that the arguments name
abbrev pub get_told : List Attr → Package → Result (List Attr) ℕ
get_told args tree = part_told (needed_text (argument (codes "section") args))
    (needed_text (argument (codes "option") args)) tree

-- ---- `configs`

abbrev pub configs_told : List (List ℕ) → List Attr
configs_told names = named (codes "configs") (text_array names) ∷ []
