use Rattle.net_rows.specs.declared.rows.RadioRow.{RadioRow}
use Rattle.net_view.proofs.PlaceLemmas.{by_map, by_map_none}
use Rattle.net_view.proofs.index.Index.radio.Goals as goal

pub returns-in-Some : goal.returns-in-Some
returns-in-Some c = by_map (λ (row : RadioRow). row.name) c.args.inputs.now.conf.radios c.args.name.now c.args.self.now.radios c.in-Some.place.now c.as_slice.result.now c.get-in-Some.result c.requires.radios c.in-Some.ensures.value
    c.as_slice.ensures c.get-in-Some.ensures.lookup

pub returns-in-None : goal.returns-in-None
returns-in-None c = by_map_none (λ (row : RadioRow). row.name) c.args.inputs.now.conf.radios c.args.name.now c.args.self.now.radios c.requires.radios c.in-None.ensures.value
