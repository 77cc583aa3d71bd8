use Rattle.std.proofs.Common.{sym, ◌∙◌}
use Rattle.kern_model.proofs.AdmissionLemmas.{exists_to, exists_of}
use Rattle.kern_model.proofs.admission.name_exists.Goals as goal

pub returns : goal.returns
returns c = (λ h. exists_to c.args.devices.now c.args.objects.now c.args.name.now (sym c.exists.ensures ∙ h), λ e. c.exists.ensures ∙ exists_of c.args.devices.now c.args.objects.now c.args.name.now e)
