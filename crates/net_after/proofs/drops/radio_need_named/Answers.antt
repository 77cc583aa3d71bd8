use Rattle.std.proofs.Common.{refl}
use Rattle.net_rules.specs.declared.request.RadioRequest.{RadioRequest}
use Rattle.net_view.proofs.PlaceLemmas.{by_map, by_map_none}
use Rattle.net_after.proofs.drops.radio_need_named.Goals as goal

pub returns-in-Some : goal.returns-in-Some
returns-in-Some c = by_map (λ (request : RadioRequest). request.name) c.args.needs.now c.args.name.now c.args.places.now c.in-Some.place.now c.args.needs.now c.get-in-Some.result c.requires c.in-Some.ensures.value
    refl c.get-in-Some.ensures.lookup

pub returns-in-None : goal.returns-in-None
returns-in-None c = by_map_none (λ (request : RadioRequest). request.name) c.args.needs.now c.args.name.now c.args.places.now c.requires c.in-None.ensures.value
