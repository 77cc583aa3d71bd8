use Rattle.std.proofs.Common.{◌∙◌}
use Rattle.net_refused.proofs.LookLemmas.{device_there}
use Rattle.net_refused.proofs.devices.has_device.Goals as goal

pub returns : goal.returns
returns c = λ inputs is. c.is_some.ensures ∙ device_there inputs.devices c.args.name.now c.device_place.result (c.device_place.ensures inputs is)
