use Rattle.std.proofs.Common.{arith, ◌≡◌, true}
use Rattle.kern_model.proofs.FindLemmas.{found, passed, none_left}
use Rattle.kern_model.proofs.admission.find_device.Goals as goal

pub loop-other-preserved : goal.loop-other-preserved
loop-other-preserved c = passed c.args.devices.now c.loop-other.other-index c.loop-other-item.result c.args.name.now c.loop-other-test.true c.loop-other-item.is c.loop-other.invariant
    (λ same. let yes : c.same.result ≡ true = c.same.ensures.1 same in cc (yes, c.if-same.false))

pub returns-then-same : goal.returns-then-same
returns-then-same c = found c.args.devices.now c.loop-other.other-index c.loop-other-item.result c.args.name.now c.loop-other-test.true c.loop-other-item.is c.loop-other.invariant (c.same.ensures.0 c.if-same.true)

pub returns : goal.returns
returns c = none_left c.args.devices.now c.loop-other.other-index c.args.name.now (omega arith) c.loop-other.invariant
