-- What is wanted, by the kinds of objects.
use Rattle.std.specs.Prelude.{ℕ, ◌≡◌, List, Contains, Bool, true, false, Option, Some}
use Rattle.kern_model.specs.declared.object.Mac.{Mac}
use Rattle.kern_model.specs.declared.object.LinkKind.TheVariants.{Bridge, Vlan}
use Rattle.kern_model.specs.declared.object.Object.{Object}
use Rattle.kern_model.specs.declared.object.Object.TheVariants as object
use Rattle.net_rows.specs.declared.rows.InterfaceRow.{InterfaceRow}
use Rattle.net_rows.specs.declared.rows.VlanRow.{VlanRow}
use Rattle.net_rows.specs.declared.rows.VlanEntry.{VlanEntry}
use Rattle.net_rules.specs.Facts.{Facts}
use Rattle.net_rules.specs.Rows.{row_at, is_filtering, is_vlan_of, interfaces_of}
use Rattle.net_rules.specs.Standing.{Alone, Over, Ports, standing_at}
use Rattle.net_rules.specs.Used.{used}
use Rattle.net_rules.specs.Want.{given}

-- a bridge with these ports is used
pub record IsUsedBridge (facts : Facts) (name : List ℕ) (ports : List (List ℕ)) : Type 0 where
  pub empty : Bool
  pub standing : standing_at facts name ≡ Ports empty ports
  pub used : used facts name ≡ true

-- the link of a used bridge, with the hardware address of its row, filtering where a VLAN is set on
-- it
pub record IsWantedBridge (facts : Facts) (name : List ℕ) (mac : Option Mac) (filtering : Bool) : Type 0 where
  pub ports : List (List ℕ)
  pub bridge : IsUsedBridge facts name ports
  pub mac_is : (row_at facts.conf.names name).mac ≡ mac
  pub filters : is_filtering facts.conf name ≡ filtering

-- the link of a used VLAN, with the hardware address of its row
pub record IsWantedVlan (facts : Facts) (name lower : List ℕ) (id : ℕ) (mac : Option Mac) : Type 0 where
  pub standing : standing_at facts name ≡ Over lower id
  pub mac_is : (row_at facts.conf.names name).mac ≡ mac
  pub used : used facts name ≡ true

-- the MTU of a used name
pub record IsWantedMtu (facts : Facts) (name : List ℕ) (mtu : ℕ) : Type 0 where
  pub configured : (row_at facts.conf.names name).mtu ≡ Some mtu
  pub used : used facts name ≡ true

-- the hardware address of a used plain name
pub record IsWantedMac (facts : Facts) (name : List ℕ) (mac : Mac) : Type 0 where
  pub sound : Bool
  pub standing : standing_at facts name ≡ Alone sound
  pub configured : (row_at facts.conf.names name).mac ≡ Some mac
  pub used : used facts name ≡ true

-- the master of a used own port of a used bridge
pub record IsWantedMaster (facts : Facts) (port bridge : List ℕ) : Type 0 where
  pub ports : List (List ℕ)
  pub bridge_used : IsUsedBridge facts bridge ports
  pub own : Contains ports port
  pub port_used : used facts port ≡ true

-- a row is set on the bridge
pub record IsSetOn (facts : Facts) (bridge : List ℕ) (row : VlanRow) : Type 0 where
  pub member : Contains facts.conf.vlans row
  pub on : is_vlan_of bridge row ≡ true

-- a VLAN on a used own port of a used bridge, by an entry of a row; or on the bridge itself, by a
-- row with `local`, tagged and without PVID
pub data IsWantedPortVlan (facts : Facts) (bridge : List ℕ) : List ℕ → ℕ → Bool → Bool → Type 0 where
  entry : (row : VlanRow) (e : VlanEntry) → IsSetOn facts bridge row → Contains row.entries e
      → IsWantedMaster facts e.port bridge
      → IsWantedPortVlan facts bridge e.port row.id e.pvid e.untagged
  itself : (row : VlanRow) (ports : List (List ℕ)) → IsSetOn facts bridge row → row.local ≡ true
      → IsUsedBridge facts bridge ports → IsWantedPortVlan facts bridge bridge row.id false false

-- an address or a route of an interface that is up
pub record IsGiven (facts : Facts) (o : Object) : Type 0 where
  pub row : InterfaceRow
  pub member : Contains (interfaces_of facts.conf) row
  pub among : Contains (given facts row) o

abbrev pub IsWanted : Facts → Object → Type 0
IsWanted facts (object.Link name (Bridge mac filtering)) = IsWantedBridge facts name mac filtering
IsWanted facts (object.Link name (Vlan lower id mac)) = IsWantedVlan facts name lower id mac
IsWanted facts (object.Mtu name mtu) = IsWantedMtu facts name mtu
IsWanted facts (object.Mac name mac) = IsWantedMac facts name mac
IsWanted facts (object.Master port bridge) = IsWantedMaster facts port bridge
IsWanted facts (object.Vlan bridge port id pvid untagged) =
    IsWantedPortVlan facts bridge port id pvid untagged
IsWanted facts (object.Up name) = used facts name ≡ true
IsWanted facts (object.Address dev cidr) = IsGiven facts (object.Address dev cidr)
IsWanted facts (object.Route r) = IsGiven facts (object.Route r)
