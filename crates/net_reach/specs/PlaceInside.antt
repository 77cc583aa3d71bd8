-- How places are kept: a list, and a mark for each place below the bound that is in it.
use Rattle.std.specs.Prelude.{ℕ, ◌≡◌, ◌≤◌, nat_eq, false, length, filter, slice_index_or, vec_capacity}
use Rattle.std.specs.List.{IsDistinct}
use Rattle.net_reach.specs.declared.place_set.PlaceSet.TheInside.{Inside}
use Rattle.net_reach.specs.Places.{Places, has}

abbrev pub places_in : Inside → Places
places_in set = record { bound = length set.marks.items; list = set.list.items }

-- a place is marked where it is in the list, each is there once, and there is room for all
pub record IsKept (set : Inside) : Type 0 where
  pub marked : (place : ℕ) → slice_index_or set.marks.items place false ≡ has set.list.items place
  pub once : IsDistinct nat_eq set.list.items
  pub count : length (filter (λ b. b) set.marks.items) ≡ length set.list.items
  pub room : length set.marks.items ≤ vec_capacity set.list
