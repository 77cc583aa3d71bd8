-- Deltas as text: the lines of a delta file, and those that `changes` shows (OpenWrt's uci).
use Rattle.std.specs.Prelude.{ℕ, List, [], ◌∷◌, ◌++◌, Option, Some, None, codes}
use Rattle.uci_text.specs.Byte.{dot}
use Rattle.uci_text.specs.Quote.{quoted}
use Rattle.uci_delta.specs.declared.head.Kind.{Kind}
use Rattle.uci_delta.specs.declared.head.Kind.TheVariants as kind
use Rattle.uci_delta.specs.declared.delta.Change.{Change}
use Rattle.uci_delta.specs.declared.delta.Change.TheVariants.{Set, Remove, Add, Rename, Reorder, ListAdd, ListDel}
use Rattle.uci_delta.specs.declared.delta.Delta.{Delta}

-- =
abbrev pub equals_sign : ℕ
equals_sign = 61

-- the kind of a change
abbrev pub kind_of : Change → Kind
kind_of (Set value) = kind.Set
kind_of Remove = kind.Remove
kind_of (Add name) = kind.Add
kind_of (Rename name) = kind.Rename
kind_of (Reorder place) = kind.Reorder
kind_of (ListAdd item) = kind.ListAdd
kind_of (ListDel item) = kind.ListDel

-- the sign in front of a line of a file
abbrev pub sign_of : Kind → List ℕ
sign_of kind.Set = []
sign_of kind.Remove = codes "-"
sign_of kind.Add = codes "+"
sign_of kind.Rename = codes "@"
sign_of kind.Reorder = codes "^"
sign_of kind.ListAdd = codes "|"
sign_of kind.ListDel = codes "~"

abbrev pub mark_of : Change → List ℕ
mark_of change = sign_of (kind_of change)

-- what a change gives, which removing does not
abbrev pub value_of : Change → Option (List ℕ)
value_of (Set value) = Some value
value_of Remove = None
value_of (Add kind) = Some kind
value_of (Rename name) = Some name
value_of (Reorder place) = Some place
value_of (ListAdd item) = Some item
value_of (ListDel item) = Some item

-- nothing, or `.` and an option
abbrev pub option_text : Option (List ℕ) → List ℕ
option_text None = []
option_text (Some name) = dot ∷ name

-- the package, the section, and perhaps the option
abbrev pub place_text : Delta → List ℕ
place_text delta = delta.package ++ dot ∷ (delta.section ++ option_text delta.option)

-- nothing, or `=` and the quoted value
abbrev pub value_text : Option (List ℕ) → List ℕ
value_text None = []
value_text (Some value) = equals_sign ∷ quoted value

-- a line of a delta file, without its newline
abbrev pub spelled : Delta → List ℕ
spelled delta = mark_of delta.change ++ (place_text delta ++ value_text (value_of delta.change))

-- what `changes` puts in front: a removal alone has its sign
abbrev pub shown_mark : Change → List ℕ
shown_mark (Set value) = []
shown_mark Remove = codes "-"
shown_mark (Add kind) = []
shown_mark (Rename name) = []
shown_mark (Reorder place) = []
shown_mark (ListAdd item) = []
shown_mark (ListDel item) = []

-- and what it puts before `=`: an item comes or goes
abbrev pub shown_sign : Change → List ℕ
shown_sign (Set value) = []
shown_sign Remove = []
shown_sign (Add kind) = []
shown_sign (Rename name) = []
shown_sign (Reorder place) = []
shown_sign (ListAdd item) = codes "+"
shown_sign (ListDel item) = codes "-"

-- a line of `changes`, without its newline
abbrev pub shown : Delta → List ℕ
shown delta = shown_mark delta.change
    ++ (place_text delta ++ (shown_sign delta.change ++ value_text (value_of delta.change)))
