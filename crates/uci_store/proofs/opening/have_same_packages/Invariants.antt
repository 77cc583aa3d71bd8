use Rattle.std.proofs.Common.{ℕ, ◌≡◌, ◌<◌}
use Rattle.plane_disk.specs.Names.{name_at}
use Rattle.uci_store.proofs.opening.have_same_packages.Given as goal

-- the names before this one are equal
abbrev pub invariant-loop-file : goal.invariant-loop-file
invariant-loop-file g l = (k : ℕ) → k < l.file → name_at (g.T.Disk.view l.staged).names k ≡ name_at (g.D.Disk.view l.files).names k
