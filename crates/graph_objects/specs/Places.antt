-- The place of a call among the others of its turn, as the program compares them.
use Rattle.std.specs.Prelude.{ℕ, ◌-◌, Option, Some, None, if◌then◌else◌, replicate, length, slice_get}
use Rattle.std.specs.Ordering.{nat_cmp, ordering_then, is_lt}
use Rattle.std.specs.declared.cmp.Ordering.{Ordering}
use Rattle.std.specs.Cmp.Lexicographic.{slice_cmp}
use Rattle.kern_model.specs.declared.object.Object.{Object}
use Rattle.kern_model.specs.declared.object.Call.{Call}
use Rattle.kern_model.specs.declared.object.Call.TheVariants.{Put, Take}
use Rattle.kern_model.specs.ObjectOrder.{Objects}
use Rattle.kern_model.specs.Line.{line_of}
use Rattle.kern_model.specs.CallOrder.{rank}
use Rattle.kern_calls.specs.Between.{height_number}
use Rattle.graph_objects.specs.declared.turn.Turn.{Turn}
use Rattle.graph_objects.specs.declared.turn.Turn.TheVariants.{Takes, Puts}
use Rattle.graph_objects.specs.declared.turn.CallPlace.{CallPlace}
use Rattle.graph_objects.specs.declared.turn.Placed.{Placed}
use Rattle.std.specs.Option.{option_and_then}
use Rattle.graph_objects.specs.declared.slot.Side.TheVariants.{Held, Wanted}
use Rattle.graph_objects.specs.Slots.{Entries, set_on, on}
use Rattle.graph_objects.specs.Turns.{is_due, side_of}

-- the call of an object, a take with own values of zero
abbrev pub plain_call : Turn → Object → Call
plain_call Takes o = Take o 0 (record { 0 = replicate 6 0 })
plain_call Puts o = Put o

-- the number by which calls of one rank are ordered: the greatest height is taken first, the least put
abbrev pub height_number_of : Turn → ℕ → ℕ → ℕ
height_number_of Takes most height = most - height
height_number_of Puts most height = height

-- the rank, the number of the height and the line of a call
abbrev pub place_of : ℕ → Objects → Objects → Call → CallPlace
place_of most held wanted call =
    record { rank = rank call; height = height_number most held wanted call; line = line_of call }

-- by rank, then by that number, then by the bytes of the line
abbrev pub place_cmp : CallPlace → CallPlace → Ordering
place_cmp a b =
    ordering_then (nat_cmp a.rank b.rank)
    (ordering_then (nat_cmp a.height b.height) (slice_cmp nat_cmp a.line b.line))

-- the later one where it comes before, else the earlier
abbrev pub sooner : Option Placed → Option Placed → Option Placed
sooner None later = later
sooner (Some a) None = Some a
sooner (Some a) (Some b) = if is_lt (place_cmp b.place a.place) then Some b else Some a

-- the object of a slot, where it is due
abbrev pub due_slot : Turn → Entries → Option Object → Option Placed
due_slot turn es None = None
due_slot turn es (Some o) =
    if is_due turn (set_on Held es) (set_on Wanted es) o
    then Some (record {
      place = place_of (length es) (set_on Held es) (set_on Wanted es) (plain_call turn o);
      object = o;
    })
    else None

-- the object of the slot at an index
abbrev pub due_in : Turn → Entries → ℕ → Option Placed
due_in turn es index =
    due_slot turn es (option_and_then (λ e. on (side_of turn) e.1) (slice_get es index))
