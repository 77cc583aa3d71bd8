use Rattle.std.proofs.Common.{◌≡◌, take, vec_capacity}
use Rattle.net_follow.proofs.following.put_places.Given as goal

-- the places so far are in the list
abbrev pub invariant-loop-place : goal.invariant-loop-place
invariant-loop-place l = record {
  list : l.list.items ≡ take l.place-index l.places;
  capacity : vec_capacity l.list ≡ vec_capacity l.fn.list;
}
