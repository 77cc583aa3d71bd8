use Rattle.std.proofs.Common.{◌&&◌, ◌∙◌, Bool, ap, sym}
use Rattle.uci_types.specs.Address.{is_ipv6, is_length}
use Rattle.uci_types.proofs.AddressLemmas.{prefix_cut, no_prefix}
use Rattle.uci_types.proofs.address.is_cidr6.Goals as goal

pub returns-then-is_ipv6 : goal.returns-then-is_ipv6
returns-then-is_ipv6 c =
    let address = ap (λ (b : Bool). b && is_length 128 c.in-Some.digits.now) (sym c.is_ipv6.ensures ∙ c.if-is_ipv6.true) in
    c.is_length.ensures ∙ sym (prefix_cut is_ipv6 128 c.args.text.now c.in-Some.address.now c.in-Some.digits.now c.in-Some.ensures ∙ address)

pub returns-else-is_ipv6 : goal.returns-else-is_ipv6
returns-else-is_ipv6 c =
    let address = ap (λ (b : Bool). b && is_length 128 c.in-Some.digits.now) (sym c.is_ipv6.ensures ∙ c.if-is_ipv6.false) in
    c.if-is_ipv6.false ∙ sym (prefix_cut is_ipv6 128 c.args.text.now c.in-Some.address.now c.in-Some.digits.now c.in-Some.ensures ∙ address)

pub returns-in-None : goal.returns-in-None
returns-in-None c = no_prefix is_ipv6 128 c.args.text.now c.in-None.ensures
