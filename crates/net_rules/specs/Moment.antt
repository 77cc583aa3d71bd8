-- A moment of a network and its kernel, and how one leads to the next.
use Rattle.std.specs.Prelude.{ℕ, ◌≡◌, List, [], ◌++◌, ⊤}
use Rattle.std.specs.FinSet as set
use Rattle.std.specs.Option.{option_map_or}
use Rattle.kern_model.specs.declared.object.Object.{Object}
use Rattle.kern_model.specs.declared.object.Call.{Call}
use Rattle.kern_model.specs.ObjectOrder.{Objects, Has}
use Rattle.kern_model.specs.Kernel.{Devices, map_of, MayHappen, objects_after_event}
use Rattle.kern_model.specs.Allowed.{AreAllowed}
use Rattle.kern_model.specs.CallOrder.{AreCalls, after_calls}
use Rattle.net_rules.specs.declared.inputs.Inputs.{Inputs}
use Rattle.net_rules.specs.declared.event.Event.{Event}
use Rattle.net_rules.specs.declared.event.Event.TheVariants as event
use Rattle.net_rules.specs.Rows.{interface_named}
use Rattle.net_rules.specs.Sound.{IsSound}
use Rattle.net_rules.specs.Inputs.{facts_of, no_inputs}
use Rattle.net_rules.specs.Want.{want}
use Rattle.net_rules.specs.Footprint.{footprint}
use Rattle.net_rules.specs.After.{after}

-- the present devices of inputs, as a kernel has them
abbrev pub devices_of : Inputs → Devices
devices_of inputs = map_of inputs.devices

-- what the inputs want
abbrev pub want_of : Inputs → Objects
want_of inputs = want (facts_of inputs)

-- the inputs, and what the kernel holds
pub record Moment : Type 0 where
  pub inputs : Inputs
  pub held : Objects

-- where a device leaves, all that stands on it goes with it
abbrev pub held_after : Objects → Event → Objects
held_after held (event.Device what) = objects_after_event held what
held_after held _ = held

-- the moment after an event
abbrev pub moment_after : Moment → Event → Moment
moment_after moment event =
    record { inputs = after moment.inputs event; held = held_after moment.held event }

-- Which events may come: devices do what the kernel allows, and rows are sound.
abbrev pub MayCome : Moment → Event → Type 0
MayCome moment (event.Load conf) = IsSound conf
MayCome moment (event.Device what) = MayHappen (devices_of moment.inputs) moment.held what
MayCome moment _ = ⊤

-- the footprint of the interface of a name; across loads an interface is the same by its name
abbrev pub footprint_named : Inputs → List ℕ → Objects
footprint_named inputs name =
    option_map_or (footprint (facts_of inputs)) (interface_named inputs.conf name) set.empty

-- the objects of the one set are in the other
abbrev pub AreWithin : Objects → Objects → Type 0
AreWithin some objects = (o : Object) → Has some o → Has objects o

-- an event leaves the objects of a set held
abbrev pub LeavesHeld : Objects → Objects → Event → Type 0
LeavesHeld some held event = (o : Object) → Has some o → Has held o → Has (held_after held event) o

-- From one moment on these calls were done while the footprint of an interface stayed: it is the
-- same behind each event, and none of it went with a device. A settling may have stopped behind any
-- of its calls.
pub data IsStretch (name : List ℕ) (some : Objects) : Moment → List Call → Type 0 where
  ended : (moment : Moment) → IsStretch name some moment []
  came : (moment : Moment) (event : Event) (calls : List Call) → MayCome moment event
      → footprint_named (after moment.inputs event) name ≡ some → LeavesHeld some moment.held event
      → IsStretch name some (moment_after moment event) calls → IsStretch name some moment calls
  settled : (moment : Moment) (made rest more : List Call)
      → AreCalls (devices_of moment.inputs) moment.held (want_of moment.inputs) (made ++ rest)
      → IsStretch name some (record moment { held = after_calls moment.held made }) more
      → IsStretch name some moment (made ++ more)

-- The moments that a history leads to: from nothing, events come one after the other, and settlings
-- that may have stopped behind any of their calls.
pub data IsHistory : Moment → Type 0 where
  nothing : IsHistory (record { inputs = no_inputs; held = set.empty })
  came : (moment : Moment) (event : Event) → IsHistory moment → MayCome moment event
      → IsHistory (moment_after moment event)
  settled : (moment : Moment) (made rest : List Call) → IsHistory moment
      → AreCalls (devices_of moment.inputs) moment.held (want_of moment.inputs) (made ++ rest)
      → IsHistory (record moment { held = after_calls moment.held made })

-- what every history keeps: the rows are sound, and the kernel's rules allow what is held and what
-- is wanted
pub record IsOrderly (moment : Moment) : Type 0 where
  pub sound : IsSound moment.inputs.conf
  pub held_allowed : AreAllowed (devices_of moment.inputs) moment.held
  pub wanted_allowed : AreAllowed (devices_of moment.inputs) (want_of moment.inputs)
