use Rattle.std.proofs.Common.{◌≡◌, subst}
use Rattle.net_reach.specs.Reach.{interface_place}
use Rattle.net_rebuild.specs.InStep.{inputs_of}
use Rattle.net_plane.specs.Network.{Network}
use Rattle.net_plane.proofs.net.Net.place_of.Goals as goal

pub returns : goal.returns
returns c =
    subst (λ (n : Network). c.interface_place.result ≡ interface_place n.inputs.conf c.args.interface.now) c.self.view_is
    (c.interface_place.ensures (inputs_of c.self.inside.follower) c.self.invariant.states.tied.reach)
