use Rattle.std.proofs.Common.{◌≡◌, ◌++◌, length}
use Rattle.bus_clients.proofs.clients.take_all.Given as goal

-- those that were taken, and those that are left
abbrev pub invariant-loop-frame : goal.invariant-loop-frame
invariant-loop-frame l = record {
  frames : l.frames ++ l.feeder.frames ≡ l.fn.feeder.frames;
  rest : l.feeder.rest ≡ l.fn.feeder.rest;
}

abbrev pub decreases-loop-frame : goal.decreases-loop-frame
decreases-loop-frame l = length l.feeder.frames
