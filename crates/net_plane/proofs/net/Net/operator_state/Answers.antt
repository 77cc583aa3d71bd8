use Rattle.std.proofs.Common.{ap, ◌∙◌}
use Rattle.net_rules.specs.declared.event.Event.TheVariants as event
use Rattle.net_reach.specs.Reach.{interface_place}
use Rattle.net_plane.specs.Network.{Network, moment_of}
use Rattle.net_plane.proofs.EventLemmas.{after_followed, kernel_followed, loads_followed}
use Rattle.net_plane.proofs.NamedLemmas.{operator_state_free}
use Rattle.net_plane.proofs.net.Net.operator_state.Goals as goal

pub operator_state-requires-clause-told : goal.operator_state-requires-clause-told
operator_state-requires-clause-told c = ap (λ (n : Network). n.notices) c.self.view_is ∙ c.requires.told

pub operator_state-requires-clause-place : goal.operator_state-requires-clause-place
operator_state-requires-clause-place c = ap (λ (n : Network). interface_place n.inputs.conf c.args.interface) c.self.view_is ∙ c.requires.place

pub returns-clause-ok : goal.returns-clause-ok
returns-clause-ok c =
    let what = event.Operator c.args.interface c.args.up in
    after_followed c.args.self.now what c.self.inside.follower c.operator_state.new.self c.self.view_is c.operator_state.ensures.followed
    (operator_state_free (moment_of c.args.self.now) c.args.interface c.args.up c.args.place c.requires.place) tt

pub returns-clause-kernel : goal.returns-clause-kernel
returns-clause-kernel c =
    kernel_followed c.args.self.now (event.Operator c.args.interface c.args.up) c.self.inside.follower c.operator_state.new.self c.self.view_is c.operator_state.ensures.followed tt

pub returns-clause-loads : goal.returns-clause-loads
returns-clause-loads c =
    loads_followed c.args.self.now (event.Operator c.args.interface c.args.up) c.self.inside.follower c.operator_state.new.self c.self.view_is c.operator_state.ensures.followed
