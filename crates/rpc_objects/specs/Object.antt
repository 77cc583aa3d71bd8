-- The local objects of the message bus, by their paths and by their numbers.
use Rattle.std.specs.Prelude.{ℕ, ◌≡◌, ◌==◌, List, Option, Some, None, codes, if◌then◌else◌, refl}
use Rattle.std.specs.Option.{option_map}
use Rattle.rpc_session.specs.Grant.{same_text}
use Rattle.rpc_network.specs.declared.net_object.NetObject.TheVariants as network
use Rattle.rpc_network.specs.Method.{object_of}
use Rattle.rpc_objects.specs.declared.local_object.LocalObject.{LocalObject}
use Rattle.rpc_objects.specs.declared.local_object.LocalObject.TheVariants.{Session, Uci, Network}

-- the object of a path
abbrev pub of_path : List ℕ → Option LocalObject
of_path path =
    if same_text path (codes "session") then Some Session
    else (if same_text path (codes "uci") then Some Uci else option_map Network (object_of path))

-- the object of a number on the bus
abbrev pub of_number : ℕ → Option LocalObject
of_number number =
    if number == 2 then Some Session
    else (if number == 3 then Some Uci
    else (if number == 4 then Some (Network network.Network)
    else (if number == 5 then Some (Network network.Device)
    else (if number == 6 then Some (Network network.Interface)
    else (if number == 7 then Some (Network network.Wireless)
    else None)))))

-- the object of the radios
wireless : of_path (codes "network.wireless") ≡ of_number 7
wireless = refl
