use Rattle.std.proofs.Common.{ap, ◌∙◌}
use Rattle.graph_rules.specs.State.{place_among}
use Rattle.graph_names.specs.Table.{with_told}
use Rattle.graph_names.proofs.NameLemmas.{listed, name_added}
use Rattle.graph_names.proofs.names.Names.add.Goals as goal

pub returns-clause-ok : goal.returns-clause-ok
returns-clause-ok c =
    ap listed c.in_ok-_none.ensures.entries
    ∙ name_added c.self.inside.told.entries c.args.name c.args.told (ap (λ ns. place_among ns c.args.name) c.self.view_is ∙ c.requires)
    ∙ ap (λ ns. with_told ns c.args.name c.args.told) c.self.view_is
