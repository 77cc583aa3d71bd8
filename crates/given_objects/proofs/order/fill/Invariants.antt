use Rattle.std.proofs.Common.{◌≡◌, ◌≤◌, take, vec_len}
use Rattle.std.specs.Prelude.{vec_capacity}
use Rattle.given_objects.specs.Inside.{listed}
use Rattle.given_objects.specs.Ordered.{HasComing}
use Rattle.given_objects.proofs.order.fill.Given as goal

-- the list has what comes at the places so far
abbrev pub invariant-loop-place : goal.invariant-loop-place
invariant-loop-place l = record {
  coming : HasComing l.turn (listed l.table.entries) (take l.place-index l.places) l.list.items;
  count : vec_len l.list ≤ l.place-index;
  capacity : vec_capacity l.list ≡ vec_capacity l.fn.list;
}
