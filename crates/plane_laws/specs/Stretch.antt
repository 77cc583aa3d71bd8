-- Histories from one plane to another over which the footprint of an interface stayed.
use Rattle.std.specs.Prelude.{ℕ, ◌≡◌, List}
use Rattle.kern_model.specs.declared.object.Call.{Call}
use Rattle.kern_model.specs.ObjectOrder.{Objects, set_of}
use Rattle.net_rules.specs.declared.event.Event.{Event}
use Rattle.net_rules.specs.Moment.{LeavesHeld, footprint_named}
use Rattle.net_plane.specs.Network.{Network}
use Rattle.net_plane.specs.Taken.{IsAfter}
use Rattle.net_plane.specs.Settled.{HasMade}
use Rattle.net_plane.specs.History.{HasTold}

-- A plane became this one, and until then the footprint of an interface stayed: it is the same behind
-- each event, and none of it went with a device. Settlings may have stopped behind any of their calls.
pub data StaysUntil (name : List ℕ) (some : Objects) (now : Network) : Network → Type 0 where
  ended : StaysUntil name some now now
  took : (before next : Network) (event : Event) → IsAfter before event next
      → footprint_named next.inputs name ≡ some
      → LeavesHeld some (set_of before.held) event → StaysUntil name some now next
      → StaysUntil name some now before
  settled : (before next : Network) (made : List Call) → HasMade made before next
      → StaysUntil name some now next → StaysUntil name some now before
  told : (before next : Network) → HasTold before next → StaysUntil name some now next
      → StaysUntil name some now before
