use Rattle.uci_store.specs.Store.{names_of}
use Rattle.uci_tool.specs.Folder.{folder_of}
use Rattle.uci_tool.specs.Passes.{commit_passes}
use Rattle.uci_tool.specs.Stops.{StaysOrStops}
use Rattle.uci_tool.proofs.JoinLemmas.{CommitsSoFar}
use Rattle.uci_tool.proofs.committing.commit_each.Given as goal

-- the packages before this one are committed
abbrev pub invariant-loop-place : goal.invariant-loop-place
invariant-loop-place g l = record {
  so : CommitsSoFar l.fn.store l.store (g.D.Disk.view l.fn.files) (g.D.Disk.view l.files) (g.T.Disk.view l.fn.staged) (g.T.Disk.view l.staged) l.place;
  images : StaysOrStops l.fn.store g.D.Disk.view l.fn.files l.files (commit_passes (folder_of l.fn.store) (names_of l.fn.store));
}
