use Rattle.std.proofs.Common.{ap, sym, ◌∙◌}
use Rattle.std.specs.Prelude.{not, is_some, length, nat_le, ◌||◌}
use Rattle.net_rules.specs.declared.refusal.Refusal.TheVariants as refused
use Rattle.net_rules.specs.declared.refusal.TheConstants.{MOST_DEVICES}
use Rattle.net_rules.specs.Rows.{is_plain}
use Rattle.net_rules.specs.Inputs.{device_in}
use Rattle.net_rules.specs.Refusal as spec
use Rattle.known_inputs.specs.Steps.{name_of}
use Rattle.net_refused.proofs.devices.device_refusal.Goals as goal

pub returns-in-Add : goal.returns-in-Add
returns-in-Add c = λ held told.
    let inputs = c.args.inputs.now.inputs in
    let name = c.in-Add.name in
    let here = told ∙ ap (λ what. spec.is_held_link held (name_of what)) c.in-Add.is in
    c.add_refusal.ensures
    ∙ ap (λ b. spec.or_else (spec.refused_if (is_some (device_in inputs.devices name) || (not (is_plain inputs.conf name) || b)) refused.Known) (spec.refused_if (nat_le MOST_DEVICES (length inputs.devices)) (refused.Limit MOST_DEVICES)))
    here
    ∙ ap (spec.device_refusal (record { inputs = inputs; held = held })) (sym c.in-Add.is)

pub returns-in-Remove : goal.returns-in-Remove
returns-in-Remove c = λ held told.
    c.absent_refusal.ensures c.args.inputs.now.inputs c.requires
    ∙ ap (spec.device_refusal (record { inputs = c.args.inputs.now.inputs; held = held })) (sym c.in-Remove.is)

pub returns-in-Carrier : goal.returns-in-Carrier
returns-in-Carrier c = λ held told.
    c.absent_refusal-in-Carrier.ensures c.args.inputs.now.inputs c.requires
    ∙ ap (spec.device_refusal (record { inputs = c.args.inputs.now.inputs; held = held })) (sym c.in-Carrier.is)
