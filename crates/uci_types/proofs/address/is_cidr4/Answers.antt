use Rattle.std.proofs.Common.{◌&&◌, ◌∙◌, Bool, ap, sym}
use Rattle.uci_types.specs.Address.{is_ipv4, is_length}
use Rattle.uci_types.proofs.AddressLemmas.{prefix_cut, no_prefix}
use Rattle.uci_types.proofs.address.is_cidr4.Goals as goal

pub returns-then-is_ipv4 : goal.returns-then-is_ipv4
returns-then-is_ipv4 c =
    let address = ap (λ (b : Bool). b && is_length 32 c.in-Some.digits.now) (sym c.is_ipv4.ensures ∙ c.if-is_ipv4.true) in
    c.is_length.ensures ∙ sym (prefix_cut is_ipv4 32 c.args.text.now c.in-Some.address.now c.in-Some.digits.now c.in-Some.ensures ∙ address)

pub returns-else-is_ipv4 : goal.returns-else-is_ipv4
returns-else-is_ipv4 c =
    let address = ap (λ (b : Bool). b && is_length 32 c.in-Some.digits.now) (sym c.is_ipv4.ensures ∙ c.if-is_ipv4.false) in
    c.if-is_ipv4.false ∙ sym (prefix_cut is_ipv4 32 c.args.text.now c.in-Some.address.now c.in-Some.digits.now c.in-Some.ensures ∙ address)

pub returns-in-None : goal.returns-in-None
returns-in-None c = no_prefix is_ipv4 32 c.args.text.now c.in-None.ensures
