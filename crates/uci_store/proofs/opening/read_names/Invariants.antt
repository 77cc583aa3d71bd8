use Rattle.std.proofs.Common.{◌≡◌, ◌+◌, ◌-◌, take, drop, length}
use Rattle.uci_store.proofs.opening.read_names.Given as goal

-- the names before this one are read
abbrev pub invariant-loop-file : goal.invariant-loop-file
invariant-loop-file g l = record {
  long : l.file ≡ length l.names.items + 2;
  so_far : l.names.items ≡ take (l.file - 2) (drop 2 (g.D.Disk.view l.disk).names);
}
