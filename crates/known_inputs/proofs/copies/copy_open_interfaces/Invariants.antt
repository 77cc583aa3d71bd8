use Rattle.std.proofs.Common.{◌≡◌, take}
use Rattle.known_inputs.proofs.copies.copy_open_interfaces.Given as goal

-- the copies so far
abbrev pub invariant-loop-request : goal.invariant-loop-request
invariant-loop-request l = l.copies ≡ take l.request-index l.requests
