use Rattle.std.proofs.Common.{◌≡◌, ◌≤◌, vec_len}
use Rattle.std.specs.Prelude.{vec_capacity}
use Rattle.given_objects.specs.Inside.{listed}
use Rattle.given_objects.specs.Places.{ArePlacesOf, ComeFrom}
use Rattle.given_objects.proofs.order.unlist_all_done.Given as goal

-- those that are left to look at are in the list, and something comes at those behind them
abbrev pub invariant-loop-left : goal.invariant-loop-left
invariant-loop-left l = record {
  places : ArePlacesOf (listed l.table.entries) l.places;
  within : l.left ≤ vec_len l.places.list;
  done : ComeFrom (listed l.table.entries) l.places.list.items l.left;
  list_capacity : vec_capacity l.places.list ≡ vec_capacity l.fn.places.list;
  flags_capacity : vec_capacity l.places.flags ≡ vec_capacity l.fn.places.flags;
}

abbrev pub decreases-loop-left : goal.decreases-loop-left
decreases-loop-left l = l.left
