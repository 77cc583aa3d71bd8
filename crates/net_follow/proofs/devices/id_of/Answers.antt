use Rattle.std.proofs.Common.{sym, ap, ◌∙◌}
use Rattle.std.specs.Option.{option_map}
use Rattle.graph_rules.specs.declared.ids.DevId.{DevId}
use Rattle.net_follow.proofs.GraphLemmas.{known_added}
use Rattle.net_follow.proofs.devices.id_of.Goals as goal

pub returns-in-None-clause-known : goal.returns-in-None-clause-known
returns-in-None-clause-known c =
    known_added c.add_plain.result c.args.graph.now c.add_plain.new.self c.args.name.now (sym c.find.ensures ∙ ap (option_map (λ (id : DevId). id.0)) c.in-None.is)
    c.add_plain.ensures.ok c.add_plain.ensures.id
