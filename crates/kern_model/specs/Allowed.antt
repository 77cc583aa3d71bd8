-- The sets of objects that the rules of the kernel allow: each object has what it stands on, and no
-- two exclude each other. The empty set is allowed, and what is admitted leads from an allowed set
-- to an allowed one.
use Rattle.std.specs.Prelude.{ℕ, ◌≡◌, ◌⊎◌, ◌≤◌, List, Bool, true, false, ◌&&◌, ◌||◌, bytes_eq, nat_eq}
use Rattle.kern_model.specs.declared.object.LinkKind.{LinkKind}
use Rattle.kern_model.specs.declared.object.LinkKind.TheVariants.{Bridge, Vlan}
use Rattle.kern_model.specs.declared.object.Object.{Object}
use Rattle.kern_model.specs.declared.object.Object.TheVariants as object
use Rattle.kern_model.specs.declared.vlan_name.TheConstants.{LEAST_VLAN_ID, MOST_VLAN_ID}
use Rattle.kern_model.specs.ObjectOrder.{Objects, Has}
use Rattle.kern_model.specs.Standing.{is_over}
use Rattle.kern_model.specs.Kernel.{Devices, is_present, Exists}
use Rattle.kern_model.specs.Admission.{IsBridge, IsFiltering, HasLowerUp}

-- a VLAN is held: the name under it exists, and is not over the VLAN itself; the id is 1 to 4094
-- (IEEE 802.1Q)
pub record IsHeldVlan
    (devices : Devices) (objects : Objects) (name lower : List ℕ) (id : ℕ) : Type 0 where
  pub stands : Exists devices objects lower
  pub least : LEAST_VLAN_ID ≤ id
  pub most : id ≤ MOST_VLAN_ID
  pub grounded : is_over objects name lower ≡ true → ⊥

-- a link of that kind is held; no device of its name is present
abbrev pub IsHeldLink : Devices → Objects → List ℕ → LinkKind → Type 0
IsHeldLink devices objects name (Bridge mac filtering) = is_present devices name ≡ false
IsHeldLink devices objects name (Vlan lower id mac) =
    (is_present devices name ≡ false) × IsHeldVlan devices objects name lower id

-- a port has a master: it exists and is no bridge, and the master is a bridge
pub record IsHeldMaster
    (devices : Devices) (objects : Objects) (port bridge : List ℕ) : Type 0 where
  pub stands : Exists devices objects port
  pub plain : IsBridge objects port → ⊥
  pub made : IsBridge objects bridge

-- a VLAN is set on a port: its bridge filters, and the port is the bridge itself or has it as its
-- master
pub record IsHeldPortVlan (objects : Objects) (bridge port : List ℕ) : Type 0 where
  pub filtering : IsFiltering objects bridge
  pub joined : (port ≡ bridge) ⊎ Has objects (object.Master port bridge)

-- an object of the set has what it stands on
abbrev pub HasSupport : Devices → Objects → Object → Type 0
HasSupport devices objects (object.Link name kind) = IsHeldLink devices objects name kind
HasSupport devices objects (object.Mtu name mtu) = Exists devices objects name
HasSupport devices objects (object.Mac name mac) = is_present devices name ≡ true
HasSupport devices objects (object.Master port bridge) = IsHeldMaster devices objects port bridge
HasSupport devices objects (object.Vlan bridge port id pvid untagged) =
    IsHeldPortVlan objects bridge port
HasSupport devices objects (object.Up name) = Exists devices objects name × HasLowerUp objects name
HasSupport devices objects (object.Address dev cidr) = Has objects (object.Up dev)
HasSupport devices objects (object.Route r) = Has objects (object.Up r.dev)

-- two VLANs of one id over one name
abbrev pub are_one_vlan : LinkKind → LinkKind → Bool
are_one_vlan (Vlan lower id mac) (Vlan other other_id other_mac) =
    bytes_eq lower other && nat_eq id other_id
are_one_vlan _ _ = false

-- of two such objects, where they differ, the kernel holds one at most: links of one name or of one
-- VLAN, MTUs or hardware addresses of one name, masters of one port, and VLANs of one port that
-- have one id or are both its PVID
abbrev pub exclude : Object → Object → Bool
exclude (object.Link name kind) (object.Link other other_kind) =
    bytes_eq name other || are_one_vlan kind other_kind
exclude (object.Mtu name mtu) (object.Mtu other other_mtu) = bytes_eq name other
exclude (object.Mac name mac) (object.Mac other other_mac) = bytes_eq name other
exclude (object.Master port bridge) (object.Master other other_bridge) = bytes_eq port other
exclude (object.Vlan bridge port id pvid untagged)
    (object.Vlan other other_port other_id other_pvid other_untagged) =
    bytes_eq port other_port && (nat_eq id other_id || (pvid && other_pvid))
exclude _ _ = false

-- the set is allowed beside these present devices
pub record AreAllowed (devices : Devices) (objects : Objects) : Type 0 where
  pub supported : (o : Object) → Has objects o → HasSupport devices objects o
  pub apart : (a b : Object) → Has objects a → Has objects b → exclude a b ≡ true → a ≡ b
