use Rattle.std.proofs.Common.{◌∙◌, ap, subst, Err}
use Rattle.net_settle.specs.Outside.{outside_of}
use Rattle.net_plane.specs.Network.{calls_of}
use Rattle.net_plane.specs.Settled as plane
use Rattle.step_net.proofs.SettleLemmas.{settled_whole, settled_to_failure, settled_else}
use Rattle.step_net.proofs.finishing.settle.Goals as goal

pub returns-in-Ok-clause-settles : goal.returns-in-Ok-clause-settles
returns-in-Ok-clause-settles g c =
    settled_whole c.args.net.now c.settle.new.self
    (outside_of g.O.Sink g.K.Kernel c.args.out.now c.args.kernel.now)
    (outside_of g.O.Sink g.K.Kernel c.settle.new.out c.settle.new.kernel)
    c.requires.objects c.settle.ensures.of.objects c.settle.ensures.made.1.inputs
    c.settle.ensures.later.0 c.settle.ensures.later.1 c.in-Ok.ensures.settles.1

pub returns-in-KernelFailed-clause-settles : goal.returns-in-KernelFailed-clause-settles
returns-in-KernelFailed-clause-settles g c =
    let before = outside_of g.O.Sink g.K.Kernel c.args.out.now c.args.kernel.now in
    let after = outside_of g.O.Sink g.K.Kernel c.settle.new.out c.settle.new.kernel in
    settled_to_failure c.args.net.now c.settle.new.self before after
    c.requires.objects c.settle.ensures.of.objects c.settle.ensures.made.1.inputs
    c.settle.ensures.later.0 c.settle.ensures.later.1 (calls_of c.settle.new.self)
    (subst (λ r. plane.Settles (calls_of c.args.net.now) (calls_of c.settle.new.self) before after r)
    (c.in-Err.is ∙ ap Err c.in-KernelFailed.is) c.settle.ensures.settles)

pub returns-in_default-clause-settles : goal.returns-in_default-clause-settles
returns-in_default-clause-settles g c =
    settled_else c.args.net.now c.settle.new.self
    (outside_of g.O.Sink g.K.Kernel c.args.out.now c.args.kernel.now)
    (outside_of g.O.Sink g.K.Kernel c.settle.new.out c.settle.new.kernel)
    c.requires.objects c.settle.ensures.of.objects c.settle.ensures.made.1.inputs
    c.settle.ensures.later.0 c.settle.ensures.later.1 (calls_of c.settle.new.self)
    c.settle.result c.in-Err.error c.in-Err.is c.in_default.not-KernelFailed c.settle.ensures.settles
