use Rattle.std.proofs.Common.{◌≡◌, ◌≤◌, take}
use Rattle.uci_text.specs.ByteClass as class
use Rattle.uci_text.proofs.extent.newlines.Given as goal

-- so many newlines so far
abbrev pub invariant-loop-byte : goal.invariant-loop-byte
invariant-loop-byte l = record { few : l.count ≤ l.byte-index; so_far : l.count ≡ class.newlines (take l.byte-index l.bytes) }
