use Rattle.std.proofs.Common.{ap, ◌∙◌}
use Rattle.net_rules.specs.Refusal as spec
use Rattle.net_plane.specs.Network.{Network}
use Rattle.net_plane.proofs.net.Net.refusal_of_answer.Goals as goal

pub answer_refusal-requires : goal.answer_refusal-requires
answer_refusal-requires c = c.self.invariant.states.tied.reach

pub returns : goal.returns
returns c = c.answer_refusal.ensures ∙ ap (λ (n : Network). spec.answer_refusal n.inputs c.args.interface.now c.args.number c.args.answer.now) c.self.view_is
