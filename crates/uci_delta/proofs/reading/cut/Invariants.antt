use Rattle.std.proofs.Common.{◌≡◌, take, drop}
use Rattle.uci_delta.proofs.PartLemmas.{with_bytes, parts_from, parts}
use Rattle.uci_delta.proofs.reading.cut.Given as goal

-- the bytes so far are of the first part
abbrev pub invariant-loop-at : goal.invariant-loop-at
invariant-loop-at l = parts l.bytes ≡ with_bytes (take l.at l.bytes) (parts_from l.quoting (drop l.at l.bytes))
