use Rattle.std.proofs.Common.{ap, ◌∙◌}
use Rattle.net_rules.specs.Refusal as spec
use Rattle.net_plane.specs.Network.{Network}
use Rattle.net_plane.proofs.net.Net.refusal_of_ports.Goals as goal

pub radio_refusal-requires : goal.radio_refusal-requires
radio_refusal-requires c = c.self.invariant.states.tied.reach

pub returns : goal.returns
returns c = c.radio_refusal.ensures ∙ ap (λ (n : Network). spec.radio_refusal n.inputs c.args.radio.now c.args.number c.args.ports.now) c.self.view_is
