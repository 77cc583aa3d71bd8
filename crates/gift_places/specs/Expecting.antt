-- Places for what interfaces may give.
use Rattle.std.specs.Prelude.{ℕ, ◌≡◌, List, [], ◌∷◌, ◌++◌, map, filter, fold, Contains, Option, true, false}
use Rattle.std.specs.Prelude.{if◌then◌else◌}
use Rattle.std.specs.List.{filter_map, slice_get}
use Rattle.kern_model.specs.declared.object.Object.{Object}
use Rattle.kern_calls.specs.Upper.{is_upper}
use Rattle.net_rows.specs.declared.rows.InterfaceRow.{InterfaceRow}
use Rattle.net_rows.specs.declared.rows.RouteRow.{RouteRow}
use Rattle.net_rules.specs.declared.answer.Answer.{Answer}
use Rattle.net_rules.specs.Rows.{is_static}
use Rattle.net_rules.specs.Want.{of_options, of_answer}
use Rattle.net_wants.specs.Given.{route_on}
use Rattle.given_objects.specs.declared.gift.Gift.{Gift}
use Rattle.given_objects.specs.Gifts.{Gifts}
use Rattle.given_objects.specs.Changes.{with_place}

-- what a row gives on a device: by its options where it is static, else by an answer; then the routes at some places
abbrev pub listed_given : InterfaceRow → Option Answer → List RouteRow → List ℕ → List ℕ → List Object
listed_given row answer routes places dev =
    (if is_static row.proto then of_options row dev else of_answer dev answer)
    ++ map (route_on dev) (filter_map (slice_get routes) places)

-- with a place for each of some objects
abbrev pub with_places : Gifts → List Object → Gifts
with_places gs os = fold with_place gs os

-- there are places for some addresses and routes more, and nothing else changed
pub record HasMorePlaces (before now : Gifts) : Type 0 where
  pub objects : List Object
  pub upper : (o : Object) → Contains objects o → is_upper o ≡ true
  pub places : now ≡ with_places before objects

-- a gift that is held and that nobody gives
abbrev pub held_alone : Gift → Gift
held_alone g = record g { givers = 0; loses_link = false }

-- of some gifts those that are held, and nobody gives them
abbrev pub all_held_alone : Gifts → Gifts
all_held_alone gs = map held_alone (filter (λ g. g.held) gs)

-- with one more at the end, where it is held, and nobody gives it
abbrev pub with_held_alone : Gifts → Gift → Gifts
with_held_alone gs g = gs ++ (if g.held then held_alone g ∷ [] else [])
