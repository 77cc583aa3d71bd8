-- What a kernel holds, in tables.
use Rattle.std.specs.Prelude.{ℕ, ◌≡◌, ◌≤◌, ◌+◌, List, Bool, true, false, if◌then◌else◌}
use Rattle.kern_model.specs.declared.object.LinkKind.TheVariants.{Vlan}
use Rattle.kern_model.specs.declared.object.Object.{Object}
use Rattle.kern_model.specs.declared.object.Object.TheVariants as object
use Rattle.kern_model.specs.declared.object.Call.{Call}
use Rattle.kern_model.specs.declared.object.Call.TheVariants.{Put, Take}
use Rattle.kern_model.specs.declared.object.DevEvent.{DevEvent}
use Rattle.kern_model.specs.declared.object.DevEvent.TheVariants as event
use Rattle.kern_model.specs.ObjectOrder.{Objects}
use Rattle.kern_model.specs.Kernel.{Devices, name_of}

-- the objects and the present devices, and how many more of each the tables have room for
pub record KernelTables : Type 0 where
  pub objects : Objects
  pub devices : Devices
  pub object_room : ℕ
  pub device_room : ℕ

abbrev pub is_put : Call → Bool
is_put (Put o) = true
is_put (Take o mtu mac) = false

-- a device comes
abbrev pub is_addition : DevEvent → Bool
is_addition (event.Add name carrier mtu mac) = true
is_addition _ = false

-- the call puts an object, and the table of objects has no room
abbrev pub LacksObjectRoom : KernelTables → Call → Type 0
LacksObjectRoom tables call = (is_put call ≡ true) × (tables.object_room ≡ 0)

-- a device comes, and the table of devices has no room
abbrev pub LacksDeviceRoom : KernelTables → DevEvent → Type 0
LacksDeviceRoom tables happens = (is_addition happens ≡ true) × (tables.device_room ≡ 0)

-- a call leaves as much room as before, but for the place of what it puts
abbrev pub CallKeepsRoom : KernelTables → KernelTables → Call → Type 0
CallKeepsRoom old new call =
    (old.object_room ≤ new.object_room + (if is_put call then 1 else 0))
    × (new.device_room ≡ old.device_room)

-- an event leaves as much room as before, but for the place of a device that comes
abbrev pub EventKeepsRoom : KernelTables → KernelTables → DevEvent → Type 0
EventKeepsRoom old new happens =
    (old.device_room ≤ new.device_room + (if is_addition happens then 1 else 0))
    × (old.object_room ≤ new.object_room)

-- the name under a VLAN; of every other object that which it has
abbrev pub lower_of : Object → List ℕ
lower_of (object.Link name (Vlan lower id mac)) = lower
lower_of o = name_of o

-- the name that an event happens to
abbrev pub name_in : DevEvent → List ℕ
name_in (event.Add name carrier mtu mac) = name
name_in (event.Remove name) = name
name_in (event.Carrier name on) = name
