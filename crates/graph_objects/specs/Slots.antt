-- Slots by key. A slot has the object that is held and the one that may be wanted.
use Rattle.std.specs.Prelude.{◌≡◌, List, map, Contains, Option, Some, None, true, cond}
use Rattle.std.specs.List.{filter_map}
use Rattle.std.specs.Option.{option_and_then}
use Rattle.kern_model.specs.declared.object.Object.{Object}
use Rattle.kern_model.specs.ObjectOrder.{Objects, set_of}
use Rattle.kern_model.specs.Line.{IsPrintable}
use Rattle.kern_calls.specs.Lower.{is_lower}
use Rattle.graph_objects.specs.declared.key.ObjectKey.{ObjectKey}
use Rattle.graph_objects.specs.declared.slot.Wish.{Wish}
use Rattle.graph_objects.specs.declared.slot.Slot.{Slot}
use Rattle.graph_objects.specs.declared.slot.Side.{Side}
use Rattle.graph_objects.specs.declared.slot.Side.TheVariants.{Held, Wanted}
use Rattle.graph_objects.specs.Keys.{key_of}
use Rattle.graph_objects.specs.Steady.{IsGrounded}

-- the object of a wish, where it is wanted
abbrev pub wished : Wish → Option Object
wished w = cond w.wanted (Some w.object) None

-- the object of a slot on a side
abbrev pub on : Side → Slot → Option Object
on Held s = s.held
on Wanted s = option_and_then wished s.wish

abbrev pub Entries : Type 0
Entries = List (ObjectKey × Slot)

-- the objects on a side
abbrev pub listed : Side → Entries → List Object
listed side es = filter_map (λ e. on side e.1) es

abbrev pub set_on : Side → Entries → Objects
set_on side es = set_of (listed side es)

-- what may be wanted
abbrev pub wishes : Entries → List Wish
wishes es = filter_map (λ e. e.1.wish) es

-- the set of what may be wanted
abbrev pub wished_set : List Wish → Objects
wished_set ws = set_of (map (λ w. w.object) ws)

-- an object of that key, neither an address nor a route, with names and numbers of their form
pub record IsAt (k : ObjectKey) (o : Object) : Type 0 where
  pub key : key_of o ≡ k
  pub lower : is_lower o ≡ true
  pub fit : IsPrintable o

-- the objects of a slot are at its key
pub record IsSlot (e : ObjectKey × Slot) : Type 0 where
  pub held : (o : Object) → e.1.held ≡ Some o → IsAt e.0 o
  pub wish : (w : Wish) → e.1.wish ≡ Some w → IsAt e.0 w.object

-- slots with objects of their keys, of which neither those that are held nor those that may be wanted
-- have a VLAN under itself
pub record AreSlots (es : Entries) : Type 0 where
  pub each : (e : ObjectKey × Slot) → Contains es e → IsSlot e
  pub held : IsGrounded (set_on Held es)
  pub wishes : IsGrounded (wished_set (wishes es))
