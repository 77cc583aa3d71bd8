use Rattle.std.proofs.Common.{ℕ, List}
use Rattle.kern_model.specs.declared.object.Device.{Device}
use Rattle.net_view.proofs.PlaceLemmas.{by_map, by_map_none}
use Rattle.net_view.proofs.index.Index.device.Goals as goal

pub returns-in-Some : goal.returns-in-Some
returns-in-Some c = by_map (λ (entry : List ℕ × Device). entry.0) c.args.inputs.now.devices c.args.name.now c.args.self.now.devices c.in-Some.place.now c.as_slice.result.now c.get-in-Some.result c.requires.devices c.in-Some.ensures.value
    c.as_slice.ensures c.get-in-Some.ensures.lookup

pub returns-in-None : goal.returns-in-None
returns-in-None c = by_map_none (λ (entry : List ℕ × Device). entry.0) c.args.inputs.now.devices c.args.name.now c.args.self.now.devices c.requires.devices c.in-None.ensures.value
