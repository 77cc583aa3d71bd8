use Rattle.std.proofs.Common.{◌∙◌, None, Some}
use Rattle.net_view.specs.RadioPorts.{as_answered}
use Rattle.net_view.proofs.PortLemmas.{joined_by}
use Rattle.net_view.proofs.radio_ports.join_of.Goals as goal

pub returns-in-Some : goal.returns-in-Some
returns-in-Some c = c.join_by.ensures ∙ joined_by c.args.inputs.now (as_answered c.args.answer.now) (Some c.in-Some.row.now) c.in-Some.ensures

pub returns-in-None : goal.returns-in-None
returns-in-None c = joined_by c.args.inputs.now (as_answered c.args.answer.now) None c.in-None.ensures
