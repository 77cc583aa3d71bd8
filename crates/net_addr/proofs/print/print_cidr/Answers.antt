use Rattle.net_addr.proofs.AppendedLemmas.{Appends-append}
use Rattle.net_addr.proofs.print.print_cidr.Goals as goal

pub returns-clause-behind : goal.returns-clause-behind
returns-clause-behind c =
    let address = Appends-append _ _ _ _ _ _ _ _ c.append_addr-address.ensures.text c.append-slash.ensures in
    (Appends-append _ _ _ _ _ _ _ _ address c.append_decimal.ensures.text).behind
