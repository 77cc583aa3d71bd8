use Rattle.std.proofs.Common.{◌≡◌, ◌<◌, take}
use Rattle.uci_tree.specs.Anonymous.{type_hash}
use Rattle.uci_tree.proofs.anonymous.type_hash.Given as goal

abbrev pub invariant-loop-byte : goal.invariant-loop-byte
invariant-loop-byte l = record { value : l.hash ≡ type_hash (take l.byte-index l.kind); small : l.hash < 65536 }
