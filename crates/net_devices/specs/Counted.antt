-- Which sections count (OpenWrt's network configuration; that the last of several counts is a rule of our own).
use Rattle.std.specs.Prelude.{ℕ, Bool, false, List, [], ◌∷◌, ◌++◌, if◌then◌else◌, codes, bytes_eq}
use Rattle.std.specs.List.{list_any}
use Rattle.uci_tree.specs.declared.package.Section.{Section}
use Rattle.net_rows.specs.declared.stated.Stated.{Stated}
use Rattle.net_rows.specs.declared.stated.Stated.TheVariants.{Absent, Unread, Read}
use Rattle.net_rows.specs.Options.{value_of}
use Rattle.net_rows.specs.Stated.{stated, name_of}
use Rattle.net_devices.specs.declared.said.Said.{Said}
use Rattle.net_devices.specs.Said.{said_by}
use Rattle.net_devices.specs.Names.{is_read}

abbrev pub is_device : Section → Bool
is_device section = bytes_eq section.kind (codes "device")

-- the name that a section gives
abbrev pub section_name : Section → Stated (List ℕ)
section_name section = stated name_of (value_of (codes "name") section.options)

-- it is a `device` section of this name
abbrev pub is_section_of : List ℕ → Section → Bool
is_section_of name section = if is_device section then is_read name (section_name section) else false

-- a `device` section of the name stands among these
abbrev pub is_named_in : List Section → Stated (List ℕ) → Bool
is_named_in sections Absent = false
is_named_in sections Unread = false
is_named_in sections (Read name) = list_any (is_section_of name) sections

-- a later `device` section has the same name
abbrev pub is_overridden : Section → List Section → Bool
is_overridden section later = if is_device section then is_named_in later (section_name section) else false

-- the section, where it counts
abbrev pub if_counted : Section → List Section → List Section
if_counted section later = if is_overridden section later then [] else section ∷ []

-- of several `device` sections of one name the last counts, at its place; every other section counts
abbrev pub counted : List Section → List Section
counted [] = []
counted (section ∷ later) = if_counted section later ++ counted later

-- what the sections that count say
abbrev pub all_said : List Section → List Said
all_said sections = said_by (counted sections)
