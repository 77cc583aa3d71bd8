-- Which names stand on which, and how high (OpenWrt's network configuration; that no name is higher than 8 levels is a
-- rule of our own).
use Rattle.std.specs.Prelude.{ℕ, zero, suc, ◌≡◌, ◌+◌, Bool, true, false, not, max, List, [], ◌∷◌, map, filter, fold}
use Rattle.std.specs.Prelude.{Option, Some, None, if◌then◌else◌}
use Rattle.net_rows.specs.declared.stated.Stated.{Stated}
use Rattle.net_rows.specs.declared.stated.Stated.TheVariants.{Absent, Unread, Read}
use Rattle.net_rows.specs.declared.dotted.VlanParts.{VlanParts}
use Rattle.net_rows.specs.Dotted.{vlan_parts}
use Rattle.net_devices.specs.declared.said.StatedKind.{StatedKind}
use Rattle.net_devices.specs.declared.said.StatedKind.TheVariants.{Untyped, Wrong, Bridge, Vlan}
use Rattle.net_devices.specs.declared.said.DeviceSection.{DeviceSection}
use Rattle.net_devices.specs.declared.said.Said.{Said}
use Rattle.net_devices.specs.declared.levels.TheConstants.{MOST_LEVELS}
use Rattle.net_devices.specs.Names.{section_of}

abbrev pub is_bridge_kind : StatedKind → Bool
is_bridge_kind Untyped = false
is_bridge_kind Wrong = false
is_bridge_kind (Bridge empty ports bad_ports) = true
is_bridge_kind (Vlan lower id) = false

abbrev pub is_bridge_section : Option DeviceSection → Bool
is_bridge_section None = false
is_bridge_section (Some section) = is_bridge_kind section.kind

-- the name is a bridge: its section has that type
abbrev pub is_bridge : List Said → List ℕ → Bool
is_bridge said name = is_bridge_section (section_of said name)

-- the names that are no bridges; only these can be ports
abbrev pub no_bridges : List Said → List (List ℕ) → List (List ℕ)
no_bridges said names = filter (λ name. not (is_bridge said name)) names

abbrev pub lower_of : Option VlanParts → List (List ℕ)
lower_of None = []
lower_of (Some parts) = parts.lower ∷ []

abbrev pub stated_lower : Stated (List ℕ) → List (List ℕ)
stated_lower Absent = []
stated_lower Unread = []
stated_lower (Read lower) = lower ∷ []

-- what a name of this kind stands on: a bridge on its named ports, a VLAN on its lower
abbrev pub below_kind : List Said → List ℕ → StatedKind → List (List ℕ)
below_kind said name Untyped = lower_of (vlan_parts name)
below_kind said name Wrong = []
below_kind said name (Bridge empty ports bad_ports) = no_bridges said ports
below_kind said name (Vlan lower id) = stated_lower lower

abbrev pub below_section : List Said → List ℕ → Option DeviceSection → List (List ℕ)
below_section said name None = lower_of (vlan_parts name)
below_section said name (Some section) = below_kind said name section.kind

-- the names that a name stands on
abbrev pub below : List Said → List ℕ → List (List ℕ)
below said name = below_section said name (section_of said name)

abbrev pub highest : List ℕ → ℕ
highest levels = fold max 0 levels

-- one more than the highest of what it stands on; a bridge is at least on the second level
abbrev pub level_over : Bool → ℕ → ℕ
level_over bridge highest = (if bridge then max highest 1 else highest) + 1

mutual
  -- The name is on this level: each name that it stands on is on a level, and it is one above the highest of these, a
  -- bridge at least on the second. A name that stands on itself is on none.
  pub data IsOnLevel (said : List Said) : List ℕ → ℕ → Type 0 where
    over : (name : List ℕ) (level : ℕ) (levels : List ℕ) → AreOnLevels said (below said name) levels
        → level ≡ level_over (is_bridge said name) (highest levels) → IsOnLevel said name level

  -- the names are on these levels, one by one
  pub data AreOnLevels (said : List Said) : List (List ℕ) → List ℕ → Type 0 where
    none : (names : List (List ℕ)) (levels : List ℕ) → names ≡ [] → levels ≡ [] → AreOnLevels said names levels
    next : (name : List ℕ) (level : ℕ) (others names : List (List ℕ)) (lower levels : List ℕ) → names ≡ name ∷ others
        → levels ≡ level ∷ lower → IsOnLevel said name level → AreOnLevels said others lower
        → AreOnLevels said names levels

-- The level of a name, looked for so many levels down. It is exact where it is not above that number, and one more than
-- the number for a name that is higher, or that stands on itself or on such a name.
abbrev pub level_within : List Said → ℕ → List ℕ → ℕ
level_within said zero name = 1
level_within said (suc more) name =
    level_over (is_bridge said name) (highest (map (level_within said more) (below said name)))

-- the level of a name, and 9 where it is on no level up to 8
abbrev pub level : List Said → List ℕ → ℕ
level said name = level_within said MOST_LEVELS name
