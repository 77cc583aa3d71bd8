use Rattle.std.proofs.Common.{ap, sym, ◌∙◌}
use Rattle.kern_model.specs.ObjectOrder.{set_of}
use Rattle.net_rules.specs.Moment.{devices_of}
use Rattle.net_cases.proofs.sweep.kernel_after.Goals as goal

pub go_on-ran-requires-clause-of : goal.go_on-ran-requires-clause-of
go_on-ran-requires-clause-of c =
    let empty = c.new-kernel.ensures.empty in
    let new = c.new-net.ensures.new in
    record {
      devices = empty.1 ∙ sym (ap devices_of new.inputs);
      objects = empty.0 ∙ sym (ap set_of new.held);
    }
