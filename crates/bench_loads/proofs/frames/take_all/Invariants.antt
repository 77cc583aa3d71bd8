use Rattle.std.proofs.Common.{length}
use Rattle.bench_loads.proofs.frames.take_all.Given as goal

abbrev pub decreases-loop-count : goal.decreases-loop-count
decreases-loop-count l = length l.feeder.frames
