use Rattle.net_interfaces.specs.Address.{v4_of}
use Rattle.net_interfaces.proofs.AddressLemmas.{none_unless, spelled_v4, v4_spelled, v6_is_no_v4}
use Rattle.net_interfaces.proofs.address.read_v4.Goals as goal

pub returns-in-Ok-V4-clause-value : goal.returns-in-Ok-V4-clause-value
returns-in-Ok-V4-clause-value c = spelled_v4 c.args.text.now c.in-Ok-V4.v4 (rw c.in-Ok-V4.field-0-is at c.in-Ok-V4.ensures.found)

pub returns-in-Ok-V6-clause-value : goal.returns-in-Ok-V6-clause-value
returns-in-Ok-V6-clause-value c = v6_is_no_v4 c.args.text.now c.in-Ok-V6.field-0-0 (rw c.in-Ok-V6.field-0-is at c.in-Ok-V6.ensures.found)

pub returns-in-Err-clause-value : goal.returns-in-Err-clause-value
returns-in-Err-clause-value c = none_unless (v4_of c.args.text.now) (λ a e. c.in-Err.ensures.refused.1 a (v4_spelled c.args.text.now a e))
