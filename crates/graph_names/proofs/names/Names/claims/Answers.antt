use Rattle.std.proofs.Common.{ap, ◌∙◌}
use Rattle.graph_rules.specs.After.{name_at}
use Rattle.graph_names.proofs.NameLemmas.{claims_read}
use Rattle.graph_names.proofs.names.Names.claims.Goals as goal

pub returns : goal.returns
returns c =
    claims_read c.self.inside.told.entries c.args.id c.index.result.now c.index.ensures
    ∙ ap (λ ns. (name_at ns c.args.id).claims) c.self.view_is
