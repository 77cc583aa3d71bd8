use Rattle.std.proofs.Common.{Some, None, sym, ap, ◌∙◌}
use Rattle.graph_rules.specs.State.{device_in}
use Rattle.dev_graph.specs.Inside.{known_in}
use Rattle.dev_graph.proofs.own.own_take.Goals as goal
use Rattle.dev_graph.proofs.GraphLemmas.{names_once}
use Rattle.dev_graph.proofs.TakeLemmas.{taken_as_told}

pub returns-in-Some : goal.returns-in-Some
returns-in-Some c =
    taken_as_told (known_in c.args.names.now) c.args.object (Some c.in-Some.device) (names_once c.args.names.now c.requires)
    (sym c.in-Some.is ∙ c.device_of.ensures ∙ ap (λ n. device_in (known_in c.args.names.now) n) c.name.ensures)

pub returns-in-None : goal.returns-in-None
returns-in-None c =
    taken_as_told (known_in c.args.names.now) c.args.object None (names_once c.args.names.now c.requires)
    (sym c.in-None.is ∙ c.device_of.ensures ∙ ap (λ n. device_in (known_in c.args.names.now) n) c.name.ensures)
