use Rattle.std.proofs.Common.{sym, ap, ◌∙◌}
use Rattle.kern_model.specs.AdmissionTest.{may_be_put}
use Rattle.kern_model.proofs.admission.may_be_put.Goals as goal

pub returns-in-Master : goal.returns-in-Master
returns-in-Master c = c.master_may_be_set.ensures ∙ sym (ap (may_be_put c.args.devices.now c.args.objects.now) c.in-Master.is)

pub returns-in-Vlan : goal.returns-in-Vlan
returns-in-Vlan c = c.port_vlan_may_be_set.ensures ∙ sym (ap (may_be_put c.args.devices.now c.args.objects.now) c.in-Vlan.is)
