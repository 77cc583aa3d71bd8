-- The calls between what is held and what is wanted, as a list.
use Rattle.std.specs.Prelude.{List, ◌++◌, map, filter}
use Rattle.std.specs.FinSet as set
use Rattle.kern_model.specs.declared.object.Object.{Object}
use Rattle.kern_model.specs.declared.object.Call.{Call}
use Rattle.kern_model.specs.declared.object.Call.TheVariants.{Put, Take}
use Rattle.kern_model.specs.ObjectOrder.{Objects}
use Rattle.kern_model.specs.Kernel.{Devices, own_mtu, own_mac, name_of}
use Rattle.kern_model.specs.Touched.{is_call}
use Rattle.kern_model.specs.CallOrder.{call_cmp}
use Rattle.plane_words.specs.InOrder.{ordered}

-- the take of an object, with the own values of its name
abbrev pub own_take : Devices → Object → Call
own_take devices o = Take o (own_mtu devices (name_of o)) (own_mac devices (name_of o))

-- the takes of all that is held, and the puts of all that is wanted
abbrev pub candidates : Devices → Objects → Objects → List Call
candidates devices held wanted =
    map (own_take devices) (set.items held) ++ map Put (set.items wanted)

-- of these the calls, in their order
abbrev pub calls : Devices → Objects → Objects → List Call
calls devices held wanted =
    ordered (call_cmp held wanted)
    (filter (is_call devices held wanted) (candidates devices held wanted))
