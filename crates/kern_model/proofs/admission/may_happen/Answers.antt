use Rattle.std.proofs.Common.{sym, ◌∙◌}
use Rattle.kern_model.proofs.AdmissionLemmas.{happens_to, happens_of}
use Rattle.kern_model.proofs.admission.may_happen.Goals as goal

pub returns : goal.returns
returns c = (λ h. happens_to c.args.devices.now c.args.objects.now c.args.event.now (sym c.event_passes.ensures ∙ h), λ a. c.event_passes.ensures ∙ happens_of c.args.devices.now c.args.objects.now c.args.event.now a)
