use Rattle.std.proofs.Common.{ap, ◌∙◌}
use Rattle.std.specs.Prelude.{not}
use Rattle.net_rules.specs.declared.refusal.Refusal.TheVariants as refused
use Rattle.net_rules.specs.Inputs.{device_in}
use Rattle.net_rules.specs.Refusal.{refused_if}
use Rattle.net_refused.proofs.LookLemmas.{none_of}
use Rattle.net_refused.proofs.devices.absent_refusal.Goals as goal

pub returns : goal.returns
returns c = λ inputs is.
    c.refused_if.ensures
    ∙ ap (λ b. refused_if b refused.NoDevice) (ap not (c.has_device.ensures inputs is) ∙ none_of (device_in inputs.devices c.args.name.now))
