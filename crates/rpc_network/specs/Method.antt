-- The local objects of the network and their methods, by name (OpenWrt's netifd).
use Rattle.std.specs.Prelude.{ℕ, List, Option, Some, None, codes, if◌then◌else◌, refl, ◌≡◌}
use Rattle.rpc_session.specs.Grant.{same_text}
use Rattle.rpc_network.specs.declared.net_object.NetObject.{NetObject}
use Rattle.rpc_network.specs.declared.net_object.NetObject.TheVariants as object
use Rattle.rpc_network.specs.declared.method.Method.{Method}
use Rattle.rpc_network.specs.declared.method.Method.TheVariants as method

-- the object of a path
abbrev pub object_of : List ℕ → Option NetObject
object_of path =
    if same_text path (codes "network") then Some object.Network
    else (if same_text path (codes "network.device") then Some object.Device
    else (if same_text path (codes "network.interface") then Some object.Interface
    else (if same_text path (codes "network.wireless") then Some object.Wireless else None)))

abbrev pub of_network : List ℕ → Option Method
of_network name = if same_text name (codes "reload") then Some method.Reload else None

abbrev pub of_device : List ℕ → Option Method
of_device name =
    if same_text name (codes "status") then Some method.DeviceStatus
    else (if same_text name (codes "event") then Some method.Event else None)

abbrev pub of_interface : List ℕ → Option Method
of_interface name =
    if same_text name (codes "dump") then Some method.Dump
    else (if same_text name (codes "status") then Some method.InterfaceStatus
    else (if same_text name (codes "up") then Some method.Up
    else (if same_text name (codes "down") then Some method.Down
    else (if same_text name (codes "notify_proto") then Some method.NotifyProto else None))))

abbrev pub of_wireless : List ℕ → Option Method
of_wireless name =
    if same_text name (codes "status") then Some method.RadioStatus
    else (if same_text name (codes "notify") then Some method.Notify else None)

-- the method of an object that has this name
abbrev pub method_of : NetObject → List ℕ → Option Method
method_of object.Network name = of_network name
method_of object.Device name = of_device name
method_of object.Interface name = of_interface name
method_of object.Wireless name = of_wireless name

-- `status` of `network.interface`
one_status : method_of object.Interface (codes "status") ≡ Some method.InterfaceStatus
one_status = refl
