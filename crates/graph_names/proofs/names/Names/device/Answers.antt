use Rattle.std.proofs.Common.{ap, ◌∙◌}
use Rattle.graph_rules.specs.After.{name_at}
use Rattle.graph_names.proofs.NameLemmas.{device_read}
use Rattle.graph_names.proofs.names.Names.device.Goals as goal

pub returns : goal.returns
returns c =
    device_read c.self.inside.told.entries c.args.id c.index.result.now c.index.ensures
    ∙ ap (λ ns. (name_at ns c.args.id).device) c.self.view_is
