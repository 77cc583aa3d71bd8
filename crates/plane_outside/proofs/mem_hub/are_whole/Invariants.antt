use Rattle.std.proofs.Common.{take}
use Rattle.std.specs.List.{All}
use Rattle.plane_outside.specs.Hub.{IsWhole}
use Rattle.plane_outside.proofs.mem_hub.are_whole.Given as goal

abbrev pub invariant-loop-event : goal.invariant-loop-event
invariant-loop-event l = All IsWhole (take l.event-index l.events)
