-- Which deltas lie under a path (OpenWrt's uci).
use Rattle.std.specs.Prelude.{ℕ, List, Bool, true, false, ◌&&◌, Option, Some, None, bytes_eq}
use Rattle.uci_tree.specs.declared.path.Path.{Path}
use Rattle.uci_tree.specs.declared.path.SectionRef.{SectionRef}
use Rattle.uci_tree.specs.declared.path.SectionRef.TheVariants.{Name as ByName, Place as ByPlace}
use Rattle.uci_delta.specs.declared.delta.Delta.{Delta}

-- a path without an option means what it leads to whole
abbrev pub is_in_option : Option (List ℕ) → Option (List ℕ) → Bool
is_in_option None option = true
is_in_option (Some name) None = false
is_in_option (Some name) (Some option) = bytes_eq option name

-- The delta is one of that section, where there is one, and of that option, where there is one. Names alone count: what
-- another delta gave a new name is not followed.
abbrev pub lies_under : Option SectionRef → Option (List ℕ) → Delta → Bool
lies_under None option delta = true
lies_under (Some (ByName name)) option delta = bytes_eq delta.section name && is_in_option option delta.option
lies_under (Some (ByPlace kind index)) option delta = false

-- it lies under the path that is dropped, where there is one
abbrev pub is_dropped : Option Path → Delta → Bool
is_dropped None delta = false
is_dropped (Some path) delta = lies_under path.section path.option delta
