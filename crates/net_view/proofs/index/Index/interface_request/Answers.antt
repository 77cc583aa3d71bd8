use Rattle.net_rules.specs.declared.inputs.OpenInterface.{OpenInterface}
use Rattle.net_view.proofs.PlaceLemmas.{by_map, by_map_none}
use Rattle.net_view.proofs.index.Index.interface_request.Goals as goal

pub returns-in-Some : goal.returns-in-Some
returns-in-Some c = by_map (λ (o : OpenInterface). o.request.name) c.args.inputs.now.interfaces c.args.name.now c.args.self.now.interface_requests c.in-Some.place.now c.as_slice.result.now c.get-in-Some.result c.requires.interface_requests
    c.in-Some.ensures.value c.as_slice.ensures c.get-in-Some.ensures.lookup

pub returns-in-None : goal.returns-in-None
returns-in-None c = by_map_none (λ (o : OpenInterface). o.request.name) c.args.inputs.now.interfaces c.args.name.now c.args.self.now.interface_requests c.requires.interface_requests c.in-None.ensures.value
