use Rattle.std.specs.Prelude.{not, ◌||◌}
use Rattle.net_refused.proofs.devices.is_known.Goals as goal

pub returns : goal.returns
returns c =
    let present = c.has_device-is_present.ensures c.args.inputs.now.inputs c.requires in
    λ i. present i || (not (c.is_plain-is_plain.ensures i) || c.args.is_link_held)
