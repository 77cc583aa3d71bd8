-- What every list of rows keeps that is read from a configuration.
use Rattle.std.specs.Prelude.{ℕ, ◌≡◌, ◌≤◌, ◌<◌, List, [], Contains, Bool, true, false}
use Rattle.kern_model.specs.declared.vlan_name.TheConstants.{LEAST_VLAN_ID, MOST_VLAN_ID}
use Rattle.net_rows.specs.declared.rows.Conf.{Conf}
use Rattle.net_rows.specs.declared.rows.NameKind.TheVariants.{Plain}
use Rattle.net_rows.specs.declared.rows.VlanRow.{VlanRow}
use Rattle.net_rows.specs.declared.rows.VlanEntry.{VlanEntry}
use Rattle.net_rules.specs.Rows.{row_at, kind_at, is_bridge, ports_of_kind, names_of, is_vlan_of}
use Rattle.net_rules.specs.Facts.{Facts}
use Rattle.net_rules.specs.Standing.{Standing, Over, standing_of_row, standing_at, lowers_of}

abbrev pub level_at : Conf → List ℕ → ℕ
level_at conf name = (row_at conf.names name).level

-- what a name is by the rows alone, without the ports of radios
abbrev pub row_standing : Conf → List ℕ → Standing
row_standing conf name = standing_of_row (row_at conf.names name) []

-- by the rows, the first name stands on the second
abbrev pub RowStands : Conf → List ℕ → List ℕ → Type 0
RowStands conf upper lower = Contains (lowers_of (row_standing conf upper)) lower

-- by the rows, the first name is a bridge that owns the second
abbrev pub RowOwns : Conf → List ℕ → List ℕ → Type 0
RowOwns conf bridge port = Contains (ports_of_kind (kind_at conf bridge)) port

-- Levels. A plain name has the first, and every bridge is above it. A name that no fault makes
-- unavailable is on the eighth at most, and above the names that it stands on.
pub record HasSoundLevels (conf : Conf) : Type 0 where
  pub plain : (name : List ℕ) → kind_at conf name ≡ Plain → level_at conf name ≡ 1
  pub bridge : (name : List ℕ) → is_bridge conf name ≡ true → 2 ≤ level_at conf name
  pub least : (name : List ℕ) → 1 ≤ level_at conf name
  pub most : (name : List ℕ) → (row_at conf.names name).broken ≡ false → level_at conf name ≤ 8
  pub rises : (upper lower : List ℕ) → RowStands conf upper lower
      → level_at conf lower < level_at conf upper

-- Names. What a name stands on has a row. A port is no bridge and has one owner. Identifiers of
-- VLANs are 1 to 4094 (IEEE 802.1Q), and of the VLANs that no fault makes unavailable there is one
-- of an identifier over a name.
pub record HasSoundNames (conf : Conf) : Type 0 where
  pub named : (upper lower : List ℕ) → RowStands conf upper lower → Contains (names_of conf) lower
  pub no_bridge : (bridge port : List ℕ) → RowOwns conf bridge port → is_bridge conf port ≡ false
  pub one_owner : (bridge other port : List ℕ) → RowOwns conf bridge port → RowOwns conf other port
      → bridge ≡ other
  pub least_id : (name lower : List ℕ) (id : ℕ) → row_standing conf name ≡ Over lower id
      → LEAST_VLAN_ID ≤ id
  pub most_id : (name lower : List ℕ) (id : ℕ) → row_standing conf name ≡ Over lower id
      → id ≤ MOST_VLAN_ID
  pub one_vlan : (name other lower : List ℕ) (id : ℕ) → row_standing conf name ≡ Over lower id
      → row_standing conf other ≡ Over lower id → name ≡ other

-- two rows that are set on that bridge
pub record AreOnBridge (conf : Conf) (bridge : List ℕ) (a b : VlanRow) : Type 0 where
  pub first : Contains conf.vlans a
  pub first_on : is_vlan_of bridge a ≡ true
  pub second : Contains conf.vlans b
  pub second_on : is_vlan_of bridge b ≡ true

-- VLANs of bridges. On a bridge there is one row of an identifier, in a row one entry of a port,
-- and in the rows of a bridge one entry that gives a port its PVID.
pub record HasSoundVlans (conf : Conf) : Type 0 where
  pub one_row : (bridge : List ℕ) (a b : VlanRow) → AreOnBridge conf bridge a b → a.id ≡ b.id
      → a ≡ b
  pub one_entry : (bridge : List ℕ) (row : VlanRow) → Contains conf.vlans row
      → is_vlan_of bridge row ≡ true → (x y : VlanEntry) → Contains row.entries x
      → Contains row.entries y → x.port ≡ y.port → x ≡ y
  pub one_pvid : (bridge : List ℕ) (a b : VlanRow) → AreOnBridge conf bridge a b → (x y : VlanEntry)
      → Contains a.entries x → Contains b.entries y → x.port ≡ y.port → x.pvid ≡ true
      → y.pvid ≡ true → a ≡ b

pub record IsSound (conf : Conf) : Type 0 where
  pub levels : HasSoundLevels conf
  pub names : HasSoundNames conf
  pub vlans : HasSoundVlans conf

-- names, by a test, that have with each one those that it stands on; and names that have with each
-- one those that stand on it
abbrev pub AreClosedDown : Facts → (List ℕ → Bool) → Type 0
AreClosedDown facts among =
    (upper lower : List ℕ) → among upper ≡ true
    → Contains (lowers_of (standing_at facts upper)) lower → among lower ≡ true

abbrev pub AreClosedUp : Facts → (List ℕ → Bool) → Type 0
AreClosedUp facts among =
    (upper lower : List ℕ) → among lower ≡ true
    → Contains (lowers_of (standing_at facts upper)) lower → among upper ≡ true
