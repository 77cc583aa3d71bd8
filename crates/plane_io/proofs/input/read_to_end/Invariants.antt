use Rattle.std.proofs.Common.{◌≤◌, ◌+◌, ◌-◌, length}
use Rattle.plane_words.specs.Growth.{Gives}
use Rattle.plane_io.proofs.input.read_to_end.Given as goal

-- what was read so far is what the source gave, and is within the limit
abbrev pub invariant-loop-count : goal.invariant-loop-count
invariant-loop-count g l = record {
  given : Gives (g.S.Source.left l.fn.input) (g.S.Source.left l.input) l.all.items;
  within : length l.all.items ≤ l.limit;
  later : g.S.Source.faults l.fn.input ≤ g.S.Source.faults l.input;
}

abbrev pub decreases-loop-count : goal.decreases-loop-count
decreases-loop-count g l = l.limit + 1 - length l.all.items
