-- Which calls a kernel admits: of each kind of object, when it may be put and when it may be taken.
use Rattle.std.specs.Prelude.{ℕ, ◌≡◌, ◌⊎◌, ◌≤◌, List, Bool, true, Option, Contains, ⊤}
use Rattle.net_addr.specs.declared.address.Addr.{Addr}
use Rattle.kern_model.specs.declared.object.Mac.{Mac}
use Rattle.kern_model.specs.declared.object.RouteObject.{RouteObject}
use Rattle.kern_model.specs.declared.object.LinkKind.{LinkKind}
use Rattle.kern_model.specs.declared.object.LinkKind.TheVariants.{Bridge, Vlan}
use Rattle.kern_model.specs.declared.object.Object.{Object}
use Rattle.kern_model.specs.declared.object.Object.TheVariants as object
use Rattle.kern_model.specs.declared.object.Call.{Call}
use Rattle.kern_model.specs.declared.object.Call.TheVariants.{Put, Take}
use Rattle.kern_model.specs.declared.vlan_name.TheConstants.{LEAST_VLAN_ID, MOST_VLAN_ID}
use Rattle.kern_model.specs.ObjectOrder.{Objects, Has}
use Rattle.kern_model.specs.Standing.{places_of}
use Rattle.kern_model.specs.Kernel.{Devices, is_present, Exists, own_mtu, own_mac, name_of}

-- a link of that name is a bridge
pub record IsBridge (objects : Objects) (name : List ℕ) : Type 0 where
  pub mac : Option Mac
  pub filtering : Bool
  pub held : Has objects (object.Link name (Bridge mac filtering))

-- a link of that name is a bridge that filters VLANs
pub record IsFiltering (objects : Objects) (name : List ℕ) : Type 0 where
  pub mac : Option Mac
  pub held : Has objects (object.Link name (Bridge mac true))

-- where a VLAN has that name, the name under it is up
abbrev pub HasLowerUp : Objects → List ℕ → Type 0
HasLowerUp objects name =
    (lower : List ℕ) (id : ℕ) (mac : Option Mac)
    → Has objects (object.Link name (Vlan lower id mac)) → Has objects (object.Up lower)

-- a VLAN may be made: the name under it exists and has no VLAN of this id, which is 1 to 4094 (IEEE
-- 802.1Q)
pub record VlanMayBeMade
    (devices : Devices) (objects : Objects) (lower : List ℕ) (id : ℕ) : Type 0 where
  pub stands : Exists devices objects lower
  pub least : LEAST_VLAN_ID ≤ id
  pub most : id ≤ MOST_VLAN_ID
  pub free : (name : List ℕ) (mac : Option Mac)
      → Has objects (object.Link name (Vlan lower id mac)) → ⊥

abbrev pub MayBeMade : Devices → Objects → LinkKind → Type 0
MayBeMade devices objects (Bridge mac filtering) = ⊤
MayBeMade devices objects (Vlan lower id mac) = VlanMayBeMade devices objects lower id

-- a port may get a master: it exists, is no bridge and has no master, and the master is a bridge
pub record MasterMayBeSet
    (devices : Devices) (objects : Objects) (port bridge : List ℕ) : Type 0 where
  pub stands : Exists devices objects port
  pub plain : IsBridge objects port → ⊥
  pub made : IsBridge objects bridge
  pub free : (other : List ℕ) → Has objects (object.Master port other) → ⊥

-- A VLAN may be set on a port: its bridge filters, the port is the bridge itself or has it as its
-- master, and the port has no VLAN of this id and, for a PVID, no PVID.
pub record PortVlanMayBeSet
    (objects : Objects) (bridge port : List ℕ) (id : ℕ) (pvid : Bool) : Type 0 where
  pub filtering : IsFiltering objects bridge
  pub joined : (port ≡ bridge) ⊎ Has objects (object.Master port bridge)
  pub free : (other : List ℕ) (other_pvid untagged : Bool)
      → Has objects (object.Vlan other port id other_pvid untagged) → ⊥
  pub alone : pvid ≡ true → (other : List ℕ) (other_id : ℕ) (untagged : Bool)
      → Has objects (object.Vlan other port other_id true untagged) → ⊥

-- which objects may be put where they are not held
abbrev pub AdmitsPut : Devices → Objects → Object → Type 0
AdmitsPut devices objects (object.Link name kind) =
    (Exists devices objects name → ⊥) × MayBeMade devices objects kind
AdmitsPut devices objects (object.Mtu name mtu) = Exists devices objects name
AdmitsPut devices objects (object.Mac name mac) = is_present devices name ≡ true
AdmitsPut devices objects (object.Master port bridge) = MasterMayBeSet devices objects port bridge
AdmitsPut devices objects (object.Vlan bridge port id pvid untagged) =
    PortVlanMayBeSet objects bridge port id pvid
AdmitsPut devices objects (object.Up name) = Exists devices objects name × HasLowerUp objects name
AdmitsPut devices objects (object.Address dev cidr) = Has objects (object.Up dev)
AdmitsPut devices objects (object.Route r) = Has objects (object.Up r.dev)

-- a name may go down: there are no addresses and no routes on it, and no VLAN over it is up
pub record MayGoDown (objects : Objects) (name : List ℕ) : Type 0 where
  pub addresses : (cidr : Addr × ℕ) → Has objects (object.Address name cidr) → ⊥
  pub routes : (r : RouteObject) → Has objects (object.Route r) → r.dev ≡ name → ⊥
  pub vlans : (vlan : List ℕ) (id : ℕ) (mac : Option Mac)
      → Has objects (object.Link vlan (Vlan name id mac)) → Has objects (object.Up vlan) → ⊥

-- Which held objects may be taken. A link may where nothing is at its name; then nothing stands on
-- it. A master may where its port has no VLAN of its bridge.
abbrev pub AdmitsTake : Objects → Object → Type 0
AdmitsTake objects (object.Link name kind) =
    (o : Object) → Has objects o → Contains (places_of o) name → ⊥
AdmitsTake objects (object.Master port bridge) =
    (id : ℕ) (pvid untagged : Bool) → Has objects (object.Vlan bridge port id pvid untagged) → ⊥
AdmitsTake objects (object.Up name) = MayGoDown objects name
AdmitsTake objects _ = ⊤

-- a take carries the own values of its object's name
pub record CarriesOwn (devices : Devices) (o : Object) (mtu : ℕ) (mac : Mac) : Type 0 where
  pub mtu_own : mtu ≡ own_mtu devices (name_of o)
  pub mac_own : mac ≡ own_mac devices (name_of o)

-- which calls the kernel admits
abbrev pub Admits : Devices → Objects → Call → Type 0
Admits devices objects (Put o) = (Has objects o → ⊥) × AdmitsPut devices objects o
Admits devices objects (Take o mtu mac) =
    Has objects o × AdmitsTake objects o × CarriesOwn devices o mtu mac
