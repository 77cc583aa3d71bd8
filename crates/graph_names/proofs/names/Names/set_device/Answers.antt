use Rattle.std.proofs.Common.{ap, ◌∙◌}
use Rattle.graph_rules.specs.After.{with_device}
use Rattle.graph_names.proofs.NameLemmas.{device_written}
use Rattle.graph_names.proofs.names.Names.set_device.Goals as goal

pub returns : goal.returns
returns c =
    device_written c.self.inside.told.entries c.args.id c.index_mut.result.now c.args.device c.index_mut.ensures.value
    ∙ ap (λ ns. with_device ns c.args.id c.args.device) c.self.view_is
