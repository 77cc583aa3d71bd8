use Rattle.std.proofs.Common.{ap, ◌∙◌}
use Rattle.graph_rules.specs.After.{with_claims}
use Rattle.graph_names.proofs.NameLemmas.{claims_written}
use Rattle.graph_names.proofs.names.Names.set_claims.Goals as goal

pub returns : goal.returns
returns c =
    claims_written c.self.inside.told.entries c.args.id c.index_mut.result.now c.args.claims c.index_mut.ensures.value
    ∙ ap (λ ns. with_claims ns c.args.id c.args.claims) c.self.view_is
