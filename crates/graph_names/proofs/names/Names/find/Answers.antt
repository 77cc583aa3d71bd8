use Rattle.std.proofs.Common.{ap, position, bytes_eq, ◌∙◌}
use Rattle.graph_rules.specs.State.{place_among}
use Rattle.graph_names.proofs.NameLemmas.{keys_listed}
use Rattle.graph_names.proofs.names.Names.find.Goals as goal

pub returns : goal.returns
returns c =
    c.get_index_of.ensures.index
    ∙ ap (position (bytes_eq c.args.name.now)) (keys_listed c.self.inside.told.entries)
    ∙ ap (λ ns. place_among ns c.args.name.now) c.self.view_is
