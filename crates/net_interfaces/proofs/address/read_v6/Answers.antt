use Rattle.net_interfaces.specs.Address.{v6_of}
use Rattle.net_interfaces.proofs.AddressLemmas.{none_unless, spelled_v6, v6_spelled, v4_is_no_v6}
use Rattle.net_interfaces.proofs.address.read_v6.Goals as goal

pub returns-in-Ok-V6-clause-value : goal.returns-in-Ok-V6-clause-value
returns-in-Ok-V6-clause-value c = spelled_v6 c.args.text.now c.in-Ok-V6.v6 (rw c.in-Ok-V6.field-0-is at c.in-Ok-V6.ensures.found)

pub returns-in-Ok-V4-clause-value : goal.returns-in-Ok-V4-clause-value
returns-in-Ok-V4-clause-value c = v4_is_no_v6 c.args.text.now c.in-Ok-V4.field-0-0 (rw c.in-Ok-V4.field-0-is at c.in-Ok-V4.ensures.found)

pub returns-in-Err-clause-value : goal.returns-in-Err-clause-value
returns-in-Err-clause-value c = none_unless (v6_of c.args.text.now) (λ a e. c.in-Err.ensures.refused.1 a (v6_spelled c.args.text.now a e))
