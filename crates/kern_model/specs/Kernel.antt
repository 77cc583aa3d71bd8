-- What a kernel holds, and what calls and events do. A kernel is a finite set of objects beside a
-- finite map of its present devices.
use Rattle.std.specs.Prelude.{ℕ, ◌≡◌, ◌⊎◌, List, Bool, true, false, not, bytes_eq, Option, None, replicate}
use Rattle.std.specs.Option.{option_map_or}
use Rattle.std.specs.Ordering.{nat_cmp}
use Rattle.std.specs.Cmp.Lexicographic.{slice_cmp}
use Rattle.std.specs.FinSet as set
use Rattle.std.specs.FinMap as map
use Rattle.plane_words.specs.Growth.{Grows}
use Rattle.kern_model.specs.declared.object.Device.{Device}
use Rattle.kern_model.specs.declared.object.Mac.{Mac}
use Rattle.kern_model.specs.declared.object.LinkKind.{LinkKind}
use Rattle.kern_model.specs.declared.object.Object.{Object}
use Rattle.kern_model.specs.declared.object.Object.TheVariants as object
use Rattle.kern_model.specs.declared.object.Call.{Call}
use Rattle.kern_model.specs.declared.object.Call.TheVariants.{Put, Take}
use Rattle.kern_model.specs.declared.object.DevEvent.{DevEvent}
use Rattle.kern_model.specs.declared.object.DevEvent.TheVariants as event
use Rattle.kern_model.specs.declared.kernel.Asked.{Asked}
use Rattle.kern_model.specs.ObjectOrder.{Objects, Has}
use Rattle.kern_model.specs.Standing.{gone}

-- the present devices by name
abbrev pub Devices : Type 0
Devices = map.FinMap (slice_cmp nat_cmp) Device

-- the devices of a list, by name; of one name the first counts
abbrev pub map_of : List (List ℕ × Device) → Devices
map_of devices = map.from_entries devices

abbrev pub is_present : Devices → List ℕ → Bool
is_present devices name = map.contains_key devices name

-- a name exists where it is that of a present device or of a link that was made
abbrev pub Exists : Devices → Objects → List ℕ → Type 0
Exists devices objects name =
    (is_present devices name ≡ true) ⊎ ((kind : LinkKind) × Has objects (object.Link name kind))

-- a name's own MTU and hardware address: those that a present device came with, else 1500 bytes and
-- zeros
abbrev pub own_mtu : Devices → List ℕ → ℕ
own_mtu devices name = option_map_or (λ device. device.mtu) (map.get devices name) 1500

abbrev pub own_mac : Devices → List ℕ → Mac
own_mac devices name =
    option_map_or (λ device. device.mac) (map.get devices name) (record { 0 = replicate 6 0 })

-- the name whose own values come back when an object is taken; of a master or a VLAN of a bridge,
-- its port
abbrev pub name_of : Object → List ℕ
name_of (object.Link name kind) = name
name_of (object.Mtu name mtu) = name
name_of (object.Mac name mac) = name
name_of (object.Master port bridge) = port
name_of (object.Vlan bridge port id pvid untagged) = port
name_of (object.Up name) = name
name_of (object.Address dev cidr) = dev
name_of (object.Route r) = r.dev

-- what a call puts or takes
abbrev pub object_of : Call → Object
object_of (Put o) = o
object_of (Take o mtu mac) = o

-- an MTU or a hardware address takes the place of the one that the name has
abbrev pub replaces : Object → Object → Bool
replaces (object.Mtu name mtu) (object.Mtu other old) = bytes_eq name other
replaces (object.Mac name mac) (object.Mac other old) = bytes_eq name other
replaces _ _ = false

-- the objects after a call
abbrev pub after_call : Objects → Call → Objects
after_call objects (Put o) = set.insert (set.retain objects (λ old. not (replaces o old))) o
after_call objects (Take o mtu mac) = set.remove objects o

-- which events may happen: a device comes under a name that does not exist; one that leaves or
-- tells of its carrier is present
abbrev pub MayHappen : Devices → Objects → DevEvent → Type 0
MayHappen devices objects (event.Add name carrier mtu mac) = Exists devices objects name → ⊥
MayHappen devices objects (event.Remove name) = is_present devices name ≡ true
MayHappen devices objects (event.Carrier name on) = is_present devices name ≡ true

-- a present device with this carrier
abbrev pub with_carrier : Bool → Device → Device
with_carrier on device = record { carrier = on; mtu = device.mtu; mac = device.mac }

-- the present devices after an event
abbrev pub after_event : Devices → DevEvent → Devices
after_event devices (event.Add name carrier mtu mac) =
    map.insert devices name (record { carrier = carrier; mtu = mtu; mac = mac })
after_event devices (event.Remove name) = map.remove devices name
after_event devices (event.Carrier name on) =
    option_map_or (λ device. map.insert devices name (with_carrier on device))
    (map.get devices name) devices

-- the objects after an event
abbrev pub objects_after_event : Objects → DevEvent → Objects
objects_after_event objects (event.Remove name) = gone objects name
objects_after_event objects _ = objects

-- the list of all that was asked, where it is kept, has these more at its end, or is kept no longer
abbrev pub Records : Option (List Asked) → Option (List Asked) → List Asked → Type 0
Records old new items = (new ≡ None) ⊎ Grows old new items
