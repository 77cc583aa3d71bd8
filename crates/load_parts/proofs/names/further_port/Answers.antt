use Rattle.std.proofs.Common.{◌∙◌}
use Rattle.load_parts.specs.Further.{has_row}
use Rattle.load_parts.proofs.FurtherLemmas.{present_port, absent_port}
use Rattle.load_parts.proofs.names.further_port.Goals as goal

pub returns-in-Some : goal.returns-in-Some
returns-in-Some c = present_port c.args.inputs.now.devices c.args.name.now (has_row c.args.inputs.now.conf c.args.name.now) _ c.in-Some.ensures

pub returns-in-None : goal.returns-in-None
returns-in-None c = c.further_device.ensures ∙ absent_port c.args.inputs.now.devices c.args.name.now (has_row c.args.inputs.now.conf c.args.name.now) c.in-None.ensures
