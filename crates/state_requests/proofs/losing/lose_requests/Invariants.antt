use Rattle.std.proofs.Common.{◌≡◌, take, vec_capacity}
use Rattle.asked_places.specs.Losing.{lost_at_places, left_at}
use Rattle.state_requests.specs.Asking.{AreBetween}
use Rattle.state_requests.proofs.losing.lose_requests.Given as goal

-- at the places so far asks were lost, and their numbers noted
abbrev pub invariant-loop-place : goal.invariant-loop-place
invariant-loop-place l = record {
  inputs : l.inputs ≡ record l.fn.inputs { inputs = left_at l.fn.inputs.inputs (take l.place-index l.places) };
  between : AreBetween l.inputs.inputs l.places l.states l.settling;
  lost : l.states.lost.items ≡ lost_at_places l.fn.inputs.inputs (take l.place-index l.places);
  room : vec_capacity l.states.lost ≡ vec_capacity l.fn.states.lost;
}
