use Rattle.std.proofs.Common.{take}
use Rattle.net_states.specs.Load.{IsNotedIdle, AreBeside}
use Rattle.net_states.proofs.load.idle_states.Given as goal

-- the states of the rows so far
abbrev pub invariant-loop-place : goal.invariant-loop-place
invariant-loop-place l = AreBeside (IsNotedIdle l.inputs) (take l.place l.rows) l.states.items
