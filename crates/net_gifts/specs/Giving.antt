-- The addresses and routes that interfaces give, counted over what interfaces are.
use Rattle.std.specs.Prelude.{ℕ, ◌≡◌, List, [], map, filter, length, Contains, true, if◌then◌else◌}
use Rattle.std.specs.List.{flat_map, zip}
use Rattle.std.specs.Ordering.{eq_by_cmp}
use Rattle.kern_model.specs.declared.object.Object.{Object}
use Rattle.kern_model.specs.ObjectOrder.{object_cmp}
use Rattle.net_rows.specs.declared.rows.InterfaceRow.{InterfaceRow}
use Rattle.net_rules.specs.Facts.{Facts}
use Rattle.net_rules.specs.Want.{given_by}
use Rattle.net_rules.specs.declared.state.InterfaceState.{InterfaceState}
use Rattle.given_objects.specs.declared.gift.Gift.{Gift}
use Rattle.given_objects.specs.Gifts.{Gifts, has_place, givers_of}

-- how often an object is among others
abbrev pub times_in : Object → List Object → ℕ
times_in o os = length (filter (eq_by_cmp object_cmp o) os)

-- what an interface gives: its addresses and routes on its layer-3 device, where it is up
abbrev pub gives : Facts → InterfaceRow → InterfaceState → List Object
gives facts row st = if st.is_up then given_by facts row st.l3_device else []

-- what all interfaces give, one after the other
abbrev pub all_gives : Facts → List InterfaceRow → List InterfaceState → List Object
all_gives facts rows states = flat_map (λ e. gives facts e.0 e.1) (zip rows states)

-- each object is given as often as interfaces give it
abbrev pub HasGivers : Facts → List InterfaceRow → List InterfaceState → Gifts → Type 0
HasGivers facts rows states gs =
    (o : Object) → givers_of gs o ≡ times_in o (all_gives facts rows states)

-- there is a place for each of some objects
abbrev pub HavePlaces : Gifts → List Object → Type 0
HavePlaces gs os = (o : Object) → Contains os o → has_place gs o ≡ true

-- a gift but for how often it is given
abbrev pub without_givers : Gift → Gift
without_givers g = record g { givers = 0 }

-- nothing but how often each is given differs
abbrev pub DiffersInGivers : Gifts → Gifts → Type 0
DiffersInGivers before now = map without_givers now ≡ map without_givers before
