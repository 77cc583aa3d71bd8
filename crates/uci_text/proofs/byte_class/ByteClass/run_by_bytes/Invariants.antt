use Rattle.std.proofs.Common.{◌≡◌, ℕ, ◌<◌, get_or, true}
use Rattle.uci_text.specs.ByteClass.{is_in}
use Rattle.uci_text.proofs.byte_class.ByteClass.run_by_bytes.Given as goal

-- the bytes so far are of the class
abbrev pub invariant-loop-at : goal.invariant-loop-at
invariant-loop-at l = (k : ℕ) → k < l.at → is_in l.self (get_or l.bytes k 0) ≡ true
