-- What names of the form X.N stand for (OpenWrt's network configuration; IEEE 802.1Q).
use Rattle.std.specs.Prelude.{ℕ, ◌==◌, List, [], ◌∷◌, Option, Some, None, if◌then◌else◌}
use Rattle.plane_words.specs.Numeral.{zero_digit}
use Rattle.kern_model.specs.declared.vlan_name.TheConstants.{LEAST_VLAN_ID, MOST_VLAN_ID}
use Rattle.net_rows.specs.Cut.{last_cut}
use Rattle.net_rows.specs.Number.{number_within}
use Rattle.net_rows.specs.Stated.{name_of}
use Rattle.net_rows.specs.declared.dotted.VlanParts.{VlanParts}

-- the byte `.`
abbrev pub dot : ℕ
dot = 46

-- the identifier of a VLAN: a decimal without leading zeros
abbrev pub id_of : List ℕ → Option ℕ
id_of [] = None
id_of (digit ∷ digits) = if digit == zero_digit then None else number_within LEAST_VLAN_ID MOST_VLAN_ID (digit ∷ digits)

-- a VLAN of an identifier over a name
abbrev pub parts_of : Option (List ℕ) → Option ℕ → Option VlanParts
parts_of None id = None
parts_of (Some lower) None = None
parts_of (Some lower) (Some id) = Some (record { lower = lower; id = id })

abbrev pub parts_at : Option (List ℕ × List ℕ) → Option VlanParts
parts_at None = None
parts_at (Some cut) = parts_of (name_of cut.0) (id_of cut.1)

-- what a name stands for, cut at its last dot
abbrev pub vlan_parts : List ℕ → Option VlanParts
vlan_parts name = parts_at (last_cut dot name)
