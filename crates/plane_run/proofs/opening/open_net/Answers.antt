use Rattle.std.proofs.Common.{◌∙◌}
use Rattle.net_settle.specs.Outside.{outside_of}
use Rattle.net_plane.specs.Network.{moment_of}
use Rattle.plane_run.proofs.OpeningLemmas.{opens_whole, opens_cut}
use Rattle.plane_run.proofs.opening.open_net.Goals as goal

pub returns-in-Ok-settle_and_show-clause-opens : goal.returns-in-Ok-settle_and_show-clause-opens
returns-in-Ok-settle_and_show-clause-opens g c =
    opens_whole c.args.network.now c.args.wireless.now c.args.net.now c.load.new.net c.as_slice.result.now
    (outside_of g.O.Sink g.K.Kernel c.args.out.now c.args.kernel.now)
    (outside_of g.O.Sink g.K.Kernel c.settle_and_show.new.out c.settle_and_show.new.kernel)
    c.requires.new c.in-Ok.ensures.moment (c.as_slice.ensures.value ∙ c.in-Ok.ensures.requests)
    c.in-Ok.ensures.within (moment_of c.settle_and_show.new.net) c.in-Ok-settle_and_show.ensures.opens

pub returns-in-Ok-clause-opens : goal.returns-in-Ok-clause-opens
returns-in-Ok-clause-opens g c =
    opens_cut c.args.network.now c.args.wireless.now c.args.net.now c.load.new.net c.as_slice.result.now
    (outside_of g.O.Sink g.K.Kernel c.args.out.now c.args.kernel.now)
    (outside_of g.O.Sink g.K.Kernel c.settle_and_show.new.out c.settle_and_show.new.kernel)
    c.requires.new c.in-Ok.ensures.moment (c.as_slice.ensures.value ∙ c.in-Ok.ensures.requests)
    c.in-Ok.ensures.within c.in-Err-settle_and_show.ensures.opens
