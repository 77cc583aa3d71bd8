use Rattle.std.proofs.Common.{◌≡◌, ◌++◌, drop}
use Rattle.net_devices.specs.Entries as spec
use Rattle.net_devices.proofs.entries.entries_of.Given as goal

-- the entries so far, and then those of the other words
abbrev pub invariant-loop-word : goal.invariant-loop-word
invariant-loop-word l = l.entries ++ spec.entries_of (drop l.word-index l.words) ≡ spec.entries_of l.words
