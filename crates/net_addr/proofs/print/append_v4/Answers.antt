use Rattle.net_addr.proofs.AppendedLemmas.{Appends-append, dotted_text_pieces}
use Rattle.net_addr.proofs.print.append_v4.Goals as goal

pub returns-clause-text : goal.returns-clause-text
returns-clause-text c =
    let one = c.append_decimal-end.ensures.text in
    let two = Appends-append _ _ _ _ _ _ _ _ one c.append_after_dot-end.ensures.text in
    let three = Appends-append _ _ _ _ _ _ _ _ two c.append_after_dot-end-2.ensures.text in
    let four = Appends-append _ _ _ _ _ _ _ _ three c.append_after_dot.ensures.text in
    rw dotted_text_pieces at four
