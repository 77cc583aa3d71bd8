use Rattle.std.proofs.Common.{take}
use Rattle.net_states.specs.Load.{IsSpare, AreBeside}
use Rattle.net_states.proofs.load.spare_requests.Given as goal

-- what is at hand for the rows so far
abbrev pub invariant-loop-place : goal.invariant-loop-place
invariant-loop-place l = AreBeside (IsSpare l.states) (take l.place l.rows) l.requests.items
