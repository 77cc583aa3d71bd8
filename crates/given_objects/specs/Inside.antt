-- How gifts are kept: a table from objects to what is told of each.
use Rattle.std.specs.Prelude.{List, map, length}
use Rattle.given_objects.specs.declared.key.GiftKey.{GiftKey}
use Rattle.given_objects.specs.declared.gift.Gift.{Gift}
use Rattle.given_objects.specs.declared.gift.Counts.{Counts}
use Rattle.given_objects.specs.declared.given.GivenObjects.TheInside.{Inside}
use Rattle.given_objects.specs.Gifts.{Gifts, AreGifts}
use Rattle.given_objects.specs.Ordered.{IsOrder, HasRoom}
use Rattle.given_objects.specs.Places.{ArePlacesOf}

abbrev pub Entries : Type 0
Entries = List (GiftKey × Counts)

-- the gift of an entry
abbrev pub gift_in : GiftKey × Counts → Gift
gift_in e = record { object = e.0.0; givers = e.1.givers; held = e.1.held; loses_link = e.1.loses_link }

abbrev pub listed : Entries → Gifts
listed es = map gift_in es

abbrev pub gifts_in : Inside → Gifts
gifts_in given = listed given.table.entries

-- What is kept are gifts. The order, where it is kept, has what comes of them; the places of what comes are listed,
-- kept or not; and there is room in it for all of them.
pub record IsKept (given : Inside) : Type 0 where
  pub gifts : AreGifts (gifts_in given)
  pub order : IsOrder given.order (gifts_in given)
  pub places : ArePlacesOf (gifts_in given) given.order.places
  pub room : HasRoom given.order (length given.table.entries)
