use Rattle.std.proofs.Common.{◌≤◌}
use Rattle.uci_staged.specs.Kept.{ReadsOn}
use Rattle.uci_staged.proofs.ReadLemmas.{SoFar}
use Rattle.uci_staged.proofs.staged.Staged.open.Given as goal

-- the packages before this one are read
abbrev pub invariant-loop-file : goal.invariant-loop-file
invariant-loop-file g l = record {
  reads : ReadsOn (g.T.Disk.view l.fn.disk) (g.T.Disk.view l.disk);
  low : 2 ≤ l.file;
  so_far : SoFar (g.T.Disk.view l.fn.disk) l.file l.changes.items;
}
