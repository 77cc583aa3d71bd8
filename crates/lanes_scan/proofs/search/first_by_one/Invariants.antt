use Rattle.std.proofs.Common.{◌≡◌, ℕ, ◌<◌, get_or, false}
use Rattle.lanes_scan.proofs.search.first_by_one.Given as goal

abbrev pub invariant-loop-place : goal.invariant-loop-place
invariant-loop-place g l = (k : ℕ) → k < l.place → g.T.ByteTest.finds l.test (get_or l.bytes k 0) ≡ false
