-- What is told of gifts by the graph below them.
use Rattle.std.specs.Prelude.{map, Bool, false, ◌&&◌, not, if◌then◌else◌}
use Rattle.kern_model.specs.declared.object.Object.TheVariants.{Up}
use Rattle.kern_model.specs.Kernel.{name_of}
use Rattle.graph_rules.specs.State.{State}
use Rattle.graph_rules.specs.Calls.{loses_link_in, is_held}
use Rattle.given_objects.specs.declared.gift.Gift.{Gift}
use Rattle.given_objects.specs.Gifts.{Gifts}

-- a gift that knows whether its name loses its link
abbrev pub looked_at : State → Gift → Gift
looked_at s g = record g { loses_link = loses_link_in s (name_of g.object) }

abbrev pub all_looked_at : State → Gifts → Gifts
all_looked_at s gs = map (looked_at s) gs

-- a gift is held, and its name is not up
abbrev pub is_left : State → Gift → Bool
is_left s g = g.held && not (is_held s (Up (name_of g.object)))

-- such a one is let go, and loses its link with nothing
abbrev pub left_gift : State → Gift → Gift
left_gift s g = if is_left s g then record g { held = false; loses_link = false } else g

abbrev pub left_gifts : State → Gifts → Gifts
left_gifts s gs = map (left_gift s) gs
