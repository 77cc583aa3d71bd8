use Rattle.net_addr.proofs.AppendedLemmas.{Appends-same_text}
use Rattle.net_addr.proofs.GroupLemmas.{hex_digits}
use Rattle.net_addr.proofs.print.append_hex.Goals as goal

pub returns-clause-text : goal.returns-clause-text
returns-clause-text c =
    let written = simp (c.leading_zero_digits.ensures.value, c.hex_digit.ensures, c.hex_digit-2.ensures, c.hex_digit-3.ensures, c.hex_digit-4.ensures) at c.append.ensures in
    Appends-same_text _ _ _ _ _ _ (hex_digits c.args.group) written
