use Rattle.std.proofs.Common.{◌≡◌, ◌≤◌, ◌+◌, ◌++◌, drop, vec_capacity}
use Rattle.std.specs.Prelude.{fold}
use Rattle.std.specs.VecDeque.{deque_len, deque_capacity}
use Rattle.asked_places.specs.Opening.{opened_after, told_of_all}
use Rattle.state_requests.specs.Asking.{AreBetween}
use Rattle.state_requests.proofs.opening.open_requests.Given as goal

-- what is opened and told at the places that are left comes to all
abbrev pub invariant-loop-place : goal.invariant-loop-place
invariant-loop-place l = record {
  inputs : fold opened_after l.inputs.inputs (drop l.place-index l.places) ≡ fold opened_after l.fn.inputs.inputs l.places;
  most : l.inputs.most_devices ≡ l.fn.inputs.most_devices;
  conf : l.inputs.inputs.conf ≡ l.fn.inputs.inputs.conf;
  next : l.inputs.inputs.next ≤ l.fn.inputs.inputs.next + l.place-index;
  between : AreBetween l.inputs.inputs l.places l.states l.settling;
  told : l.notices.items ++ told_of_all l.inputs.inputs (drop l.place-index l.places) ≡ l.fn.notices.items ++ told_of_all l.fn.inputs.inputs l.places;
  len : deque_len l.notices ≤ deque_len l.fn.notices + l.place-index;
  capacity : deque_capacity l.notices ≡ deque_capacity l.fn.notices;
  room : vec_capacity l.states.lost ≡ vec_capacity l.fn.states.lost;
}
