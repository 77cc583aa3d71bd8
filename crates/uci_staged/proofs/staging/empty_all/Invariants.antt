use Rattle.std.proofs.Common.{◌≤◌}
use Rattle.uci_staged.proofs.FillLemmas.{EmptiedTo}
use Rattle.uci_staged.proofs.staging.empty_all.Given as goal

-- the packages before this one are empty
abbrev pub invariant-loop-file : goal.invariant-loop-file
invariant-loop-file g l = record {
  low : 2 ≤ l.file;
  emptied : EmptiedTo (g.T.Disk.view l.fn.disk) (g.T.Disk.view l.disk) l.file;
}
