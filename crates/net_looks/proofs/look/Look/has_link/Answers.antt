use Rattle.std.proofs.Common.{sym, ap, ◌∙◌}
use Rattle.std.specs.Option.{option_map}
use Rattle.graph_rules.specs.declared.ids.DevId.{DevId}
use Rattle.net_looks.specs.Look.{facts_at}
use Rattle.net_looks.proofs.LookLemmas.{has_id, link_by_id}
use Rattle.graph_laws.proofs.BelowLemmas.{unknown_below}
use Rattle.net_looks.proofs.look.Look.has_link.Goals as goal

pub link-requires : goal.link-requires
link-requires c = has_id c.args.self.now.graph.now.known c.args.name.now c.in-Some.id.0 (sym c.find.ensures ∙ ap (option_map (λ (id : DevId). id.0)) c.in-Some.is)

pub returns-in-Some : goal.returns-in-Some
returns-in-Some c = c.link.ensures ∙ link_by_id (facts_at c.args.self.now) c.args.self.now.graph.now.known c.requires.agrees c.args.name.now c.in-Some.id.0 (sym c.find.ensures ∙ ap (option_map (λ (id : DevId). id.0)) c.in-Some.is)

pub returns-in-None : goal.returns-in-None
returns-in-None c = sym (unknown_below (facts_at c.args.self.now) c.args.self.now.graph.now.known c.requires.agrees c.requires.knows c.args.name.now (sym c.find.ensures ∙ ap (option_map (λ (id : DevId). id.0)) c.in-None.is)).1
