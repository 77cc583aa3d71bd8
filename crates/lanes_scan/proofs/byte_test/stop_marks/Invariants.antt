use Rattle.std.proofs.Common.{◌≡◌, map, take}
use Rattle.lanes_scan.specs.ByteTest.{is_stop}
use Rattle.lanes_scan.proofs.LaneLemmas.{lane_of}
use Rattle.lanes_scan.proofs.byte_test.stop_marks.Given as goal

abbrev pub invariant-loop-stop : goal.invariant-loop-stop
invariant-loop-stop l = l.found ≡ map (λ x. lane_of (is_stop (take l.stop-index l.stops) x)) l.lanes
