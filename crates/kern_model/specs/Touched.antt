-- Which objects a settling touches, and the calls between what is held and what is wanted.
use Rattle.std.specs.Prelude.{ℕ, List, Bool, false, ◌&&◌, ◌||◌, not, bytes_eq, nat_eq}
use Rattle.std.specs.List.{list_any}
use Rattle.std.specs.FinSet as set
use Rattle.kern_model.specs.declared.object.Object.{Object}
use Rattle.kern_model.specs.declared.object.Object.TheVariants as object
use Rattle.kern_model.specs.declared.object.Call.{Call}
use Rattle.kern_model.specs.declared.object.Call.TheVariants.{Put, Take}
use Rattle.kern_model.specs.ObjectOrder.{Objects}
use Rattle.kern_model.specs.Standing.{is_over, places_of}
use Rattle.kern_model.specs.Kernel.{Devices, own_mtu, own_mac, name_of, replaces}

-- a link that is not wanted, with the name over it
abbrev pub is_unwanted_under : Objects → Objects → List ℕ → Object → Bool
is_unwanted_under held wanted name (object.Link base kind) =
    not (set.contains wanted (object.Link base kind)) && is_over held base name
is_unwanted_under held wanted name _ = false

-- A name loses its link where it is that of a held link that is not wanted, or over one. A wanted link over
-- such a one is taken too; what stands on it stands on the other as well, so it needs no case of
-- its own.
abbrev pub loses_link : Objects → Objects → List ℕ → Bool
loses_link held wanted name = list_any (is_unwanted_under held wanted name) (set.items held)

-- an object stands on a link that is taken
abbrev pub is_on_taken : Objects → Objects → Object → Bool
is_on_taken held wanted o = list_any (loses_link held wanted) (places_of o)

-- an object is in one of the sets and not in the other
abbrev pub is_in_one : Objects → Objects → Object → Bool
is_in_one held wanted o =
    (set.contains held o && not (set.contains wanted o))
    || (set.contains wanted o && not (set.contains held o))

-- an object is touched where it is in one of held and wanted and not in the other, or stands on a
-- link that is taken
abbrev pub is_touched : Objects → Objects → Object → Bool
is_touched held wanted o = is_in_one held wanted o || is_on_taken held wanted o

-- a wanted MTU or hardware address takes its place, on a name that stays: a present device, or a
-- link that is not taken
abbrev pub is_replaced : Objects → Objects → Object → Bool
is_replaced held wanted o =
    not (set.contains wanted o)
    && (not (is_on_taken held wanted o) && list_any (λ other. replaces other o) (set.items wanted))

-- which held objects are taken
abbrev pub is_taken : Objects → Objects → Object → Bool
is_taken held wanted o =
    set.contains held o && (is_touched held wanted o && not (is_replaced held wanted o))

-- which wanted objects are put
abbrev pub is_put : Objects → Objects → Object → Bool
is_put held wanted o = set.contains wanted o && is_touched held wanted o

-- the calls between what is held and what is wanted, each take with the own values
abbrev pub is_call : Devices → Objects → Objects → Call → Bool
is_call devices held wanted (Put o) = is_put held wanted o
is_call devices held wanted (Take o mtu mac) =
    is_taken held wanted o
    && (nat_eq mtu (own_mtu devices (name_of o)) && bytes_eq mac.0 (own_mac devices (name_of o)).0)
