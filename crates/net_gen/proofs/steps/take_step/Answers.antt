use Rattle.net_plane.specs.Network.{moment_of}
use Rattle.net_gen.specs.Counted.{kernel_alone}
use Rattle.net_gen.proofs.StepLemmas.{step_ends, step_halted}
use Rattle.net_gen.proofs.steps.take_step.Goals as goal

pub returns-in_default-clause-ends : goal.returns-in_default-clause-ends
returns-in_default-clause-ends g c =
    step_halted c.args.rows.now c.args.step c.args.net.now c.act.new.net
    (kernel_alone g.K.Kernel c.args.kernel.now) (kernel_alone g.K.Kernel c.act.new.kernel)
    c.act.ensures.calls c.in_default.ensures.tries

pub returns-clause-ends : goal.returns-clause-ends
returns-clause-ends g c =
    step_ends c.args.rows.now c.args.step c.args.net.now c.act.new.net
    (kernel_alone g.K.Kernel c.args.kernel.now) (kernel_alone g.K.Kernel c.act.new.kernel)
    (kernel_alone g.K.Kernel c.settle_and_count.new.kernel) c.act.ensures.calls _
    c.in-Ok.ensures.tries (moment_of c.settle_and_count.new.net) c.settle_and_count.result
    c.settle_and_count.ensures.ends
