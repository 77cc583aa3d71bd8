-- Names of later sections.
use Rattle.std.specs.Prelude.{ℕ, ◌≡◌, Bool, false, List, [], ◌∷◌, Option, Some, None, if◌then◌else◌}
use Rattle.std.specs.List.{list_any}
use Rattle.uci_tree.specs.declared.package.Section.{Section}
use Rattle.net_devices.specs.EachOnce.{has, with_name}
use Rattle.net_devices.specs.Kinds.{if_read}
use Rattle.net_devices.specs.Counted.{is_device, section_name, is_section_of}

-- the name that a `device` section gives
abbrev pub own_name : Section → Option (List ℕ)
own_name section = if is_device section then if_read (section_name section) else None

abbrev pub is_among : List (List ℕ) → Option (List ℕ) → Bool
is_among names None = false
is_among names (Some name) = has names name

-- the section, where it is not of one of these names
abbrev pub unless_named : List (List ℕ) → Section → List Section
unless_named names section = if is_among names (own_name section) then [] else section ∷ []

abbrev pub with_option : List (List ℕ) → Option (List ℕ) → List (List ℕ)
with_option names None = names
with_option names (Some name) = with_name names name

-- the names with that of a section
abbrev pub with_own_name : List (List ℕ) → Section → List (List ℕ)
with_own_name names section = with_option names (own_name section)

-- these are the names of `device` sections
abbrev pub AreNamesOf : List (List ℕ) → List Section → Type 0
AreNamesOf names sections = (name : List ℕ) → has names name ≡ list_any (is_section_of name) sections
