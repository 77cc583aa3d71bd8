use Rattle.std.proofs.Common.{refl}
use Rattle.net_settle.specs.Outside.{outside_of}
use Rattle.net_plane.specs.Network.{moment_of}
use Rattle.step_net.proofs.SettleLemmas.{opening_cut, opening_ends}
use Rattle.step_net.proofs.finishing.settle_and_show.Goals as goal

pub returns-in_default-clause-opens : goal.returns-in_default-clause-opens
returns-in_default-clause-opens g c =
    opening_cut (moment_of c.args.net.now) c.args.text.now
    (outside_of g.O.Sink g.K.Kernel c.args.out.now c.args.kernel.now)
    (outside_of g.O.Sink g.K.Kernel c.settle.new.out c.settle.new.kernel) c.in_default.ensures.settles

pub returns-clause-opens : goal.returns-clause-opens
returns-clause-opens g c =
    opening_ends (moment_of c.args.net.now) (moment_of c.settle.new.net) c.args.text.now
    (outside_of g.O.Sink g.K.Kernel c.args.out.now c.args.kernel.now)
    (outside_of g.O.Sink g.K.Kernel c.settle.new.out c.settle.new.kernel)
    (outside_of g.O.Sink g.K.Kernel c.tell.new.out c.settle.new.kernel) c.in-Ok._stopped
    c.in-Ok.ensures.settles refl refl refl refl c.tell.result c.tell.ensures.written
    c.tell.ensures.in_part c.tell.ensures.cause.failed c.tell.ensures.cause.later
