use Rattle.std.proofs.Common.{◌+◌}
use Rattle.uci_store.specs.Applying.{AreSoFar}
use Rattle.uci_store.proofs.store.Store.new_files.Given as goal

-- the packages before this one were gone through
abbrev pub invariant-loop-place : goal.invariant-loop-place
invariant-loop-place l = AreSoFar l.self l.holder (l.place + 2) l.so_far.files.items l.so_far.large
