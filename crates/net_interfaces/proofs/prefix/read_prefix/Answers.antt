use Rattle.std.proofs.Common.{◌∙◌, ap}
use Rattle.net_interfaces.specs.Address.{addr_of}
use Rattle.net_interfaces.specs.Prefix.{both}
use Rattle.net_interfaces.proofs.PrefixLemmas.{alone_is, cut_is, no_length_is}
use Rattle.net_interfaces.proofs.prefix.read_prefix.Goals as goal

pub returns-in_default : goal.returns-in_default
returns-in_default c = c.with_length.ensures ∙ alone_is c.args.family c.args.alone c.args.text.now c.in_default.ensures

pub returns-in_default-read_length : goal.returns-in_default-read_length
returns-in_default-read_length c = no_length_is c.args.family c.args.alone c.args.text.now c.in-Some.address.now c.in-Some.digits.now c.in-Some.ensures c.in_default-read_length.ensures.value

pub returns : goal.returns
returns c = c.with_length-2.ensures ∙ (ap (both (addr_of c.args.family c.in-Some.address.now)) c.in-Some-read_length.ensures.value
    ∙ cut_is c.args.family c.args.alone c.args.text.now c.in-Some.address.now c.in-Some.digits.now c.in-Some.ensures)
