use Rattle.std.proofs.Common.{sym}
use Rattle.uci_types.proofs.AddressLemmas.{ipv4_from, no_ipv4}
use Rattle.uci_types.proofs.address.is_ipv4.Goals as goal

pub returns-in-Ok : goal.returns-in-Ok
returns-in-Ok c = sym (ipv4_from c.args.text.now _ c.in-Ok.ensures)

pub returns-in-Err : goal.returns-in-Err
returns-in-Err c = no_ipv4 c.args.text.now c.in-Err.ensures
