use Rattle.std.proofs.Common.{sym, ◌∙◌}
use Rattle.kern_model.proofs.AdmissionLemmas.{admitted_to, admitted_of}
use Rattle.kern_model.proofs.admission.admits.Goals as goal

pub returns : goal.returns
returns c = (λ h. admitted_to c.args.devices.now c.args.objects.now c.args.call.now (sym c.call_passes.ensures ∙ h), λ a. c.call_passes.ensures ∙ admitted_of c.args.devices.now c.args.objects.now c.args.call.now a)
