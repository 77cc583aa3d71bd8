use Rattle.std.proofs.Common.{◌≡◌, ◌∷◌, ◌++◌, take}
use Rattle.std.specs.List.{flat_map}
use Rattle.uci_text.specs.Quote.{quoted_byte}
use Rattle.uci_text.proofs.quote.append_quoted.Given as goal

abbrev pub invariant-loop-byte : goal.invariant-loop-byte
invariant-loop-byte l = l.out.items ≡ l.fn.out.items ++ 39 ∷ flat_map quoted_byte (take l.byte-index l.value)
