-- What is told of staged changes (OpenWrt's rpcd). That the place of a moved section is a text is a rule of our own.
use Rattle.std.specs.Prelude.{ℕ, List, [], ◌∷◌, ◌++◌, Option, Some, None, codes, map}
use Rattle.blob_codec.specs.declared.blob.Blob.TheVariants.{Array, Table}
use Rattle.blob_codec.specs.declared.blob.Attr.{Attr}
use Rattle.rpc_session.specs.Description.{named}
use Rattle.uci_delta.specs.declared.delta.Change.{Change}
use Rattle.uci_delta.specs.declared.delta.Change.TheVariants.{Set, Remove, Add, Rename, Reorder, ListAdd, ListDel}
use Rattle.uci_delta.specs.declared.delta.Delta.{Delta}
use Rattle.uci_delta.specs.Print.{value_of}
use Rattle.rpc_rules.specs.Told.{text_array}

-- the word of a change
abbrev pub word_of : Change → List ℕ
word_of (Set value) = codes "set"
word_of Remove = codes "remove"
word_of (Add kind) = codes "add"
word_of (Rename name) = codes "rename"
word_of (Reorder place) = codes "order"
word_of (ListAdd item) = codes "list-add"
word_of (ListDel item) = codes "list-del"

-- the text, where there is one
abbrev pub text_or_none : Option (List ℕ) → List (List ℕ)
text_or_none None = []
text_or_none (Some text) = text ∷ []

-- the word, the section, the option where there is one, and the value where there is one
abbrev pub delta_texts : Delta → List (List ℕ)
delta_texts delta = word_of delta.change ∷ delta.section
    ∷ (text_or_none delta.option ++ text_or_none (value_of delta.change))

abbrev pub delta_item : Delta → Attr
delta_item delta = named [] (text_array (delta_texts delta))

-- a package with what is staged of it
abbrev pub package_changes : List ℕ → List Delta → Attr
package_changes name deltas = named name (Array (map delta_item deltas))

abbrev pub changes_told : List Attr → List Attr
changes_told packages = named (codes "changes") (Table packages) ∷ []
