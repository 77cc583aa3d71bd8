-- What is done with what options give, and lists of faults.
use Rattle.std.specs.Prelude.{ℕ, Bool, true, false, List, [], ◌∷◌, Option, Some, None, if◌then◌else◌}
use Rattle.uci_tree.specs.declared.package.Value.{Value}
use Rattle.uci_tree.specs.declared.package.Opt.{Opt}
use Rattle.net_rows.specs.declared.stated.Stated.{Stated}
use Rattle.net_rows.specs.declared.stated.Stated.TheVariants.{Absent, Unread, Read}
use Rattle.net_rows.specs.Options.{value_of}
use Rattle.net_rows.specs.Words.{item_words}
use Rattle.net_rows.specs.declared.fault_name.FaultName.{FaultName}
use Rattle.net_rows.specs.declared.rows.RowFault.{RowFault}

-- an option is there and does not read
abbrev pub is_unread : {X : Type 0} → Stated X → Bool
is_unread Absent = false
is_unread Unread = true
is_unread (Read x) = false

-- what was read
abbrev pub if_read : {X : Type 0} → Stated X → Option X
if_read Absent = None
if_read Unread = None
if_read (Read x) = Some x

-- what was read, and else a default
abbrev pub read_or : {X : Type 0} → X → Stated X → X
read_or default Absent = default
read_or default Unread = default
read_or default (Read x) = x

-- what was read, as a list of at most one
abbrev pub read_list : {X : Type 0} → Stated X → List X
read_list Absent = []
read_list Unread = []
read_list (Read x) = x ∷ []

abbrev pub words_in : Option Value → List (List ℕ)
words_in None = []
words_in (Some value) = item_words value

-- the items of a list, or the words of a text
abbrev pub option_words : List ℕ → List Opt → List (List ℕ)
option_words name options = words_in (value_of name options)

-- a fault that is about no word
abbrev pub bare : FaultName → RowFault
bare name = record { name = name; argument = None }

-- one fault, where it is there
abbrev pub if_so : Bool → FaultName → List RowFault
if_so there name = if there then bare name ∷ [] else []
