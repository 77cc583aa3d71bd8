use Rattle.std.proofs.lemmas.Fmt.{IsAscii-from_digits}
use Rattle.std.proofs.lemmas.Str.{IsUtf8-from_ascii}
use Rattle.net_addr.proofs.read.read_length.Goals as goal

pub returns-in_default-clause-only : goal.returns-in_default-clause-only
returns-in_default-clause-only c = λ n h small. absurd (c.in_default.ensures.cases.0 (IsUtf8-from_ascii _ (IsAscii-from_digits _ h.0.0.1)))
