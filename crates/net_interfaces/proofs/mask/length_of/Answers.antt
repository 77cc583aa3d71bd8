use Rattle.std.proofs.Common.{sym}
use Rattle.net_interfaces.proofs.MaskLemmas.{length_found, no_length}
use Rattle.net_interfaces.proofs.mask.length_of.Goals as goal

pub returns-in-Ok-clause-value : goal.returns-in-Ok-clause-value
returns-in-Ok-clause-value c = sym (length_found 32 c.in-Ok.size c.args.mask.0 c.in-Ok.ensures.found.0 c.in-Ok.ensures.found.1 (λ m small is. let same = c.in-Ok.ensures.only m small is in cc))

pub returns-in-Err-clause-value : goal.returns-in-Err-clause-value
returns-in-Err-clause-value c = no_length 32 c.args.mask.0 c.in-Err.ensures.refused.1
