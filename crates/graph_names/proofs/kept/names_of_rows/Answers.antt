use Rattle.std.proofs.Common.{List, [], map, length, ◌<◌, arith, ap, ◌∙◌}
use Rattle.std.proofs.lemmas.List.{length-map}
use Rattle.net_rows.specs.declared.rows.NameRow.{NameRow}
use Rattle.graph_rules.specs.State.{place_among}
use Rattle.graph_names.specs.Table.{with_told}
use Rattle.graph_names.proofs.KeptLemmas.{no_place_yet, kept_more, name_there}
use Rattle.graph_names.proofs.kept.names_of_rows.Goals as goal

pub loop-row-preserved : goal.loop-row-preserved
loop-row-preserved c =
    let rows : List NameRow = c.args.rows.now in
    let row = c.row-item.result in
    let within : c.loop-row.row-index < length (map (λ (r : NameRow). r.name) rows) = omega (arith, c.loop-row-test.true, length-map rows (λ (r : NameRow). r.name)) in
    c.in_ok-add.ensures.ok
    ∙ ap (λ ns. with_told ns row.name c.told.result) c.loop-row.invariant
    ∙ kept_more c.args.old.now [] (map (λ (r : NameRow). r.name) rows) c.loop-row.row-index row.name c.told.result within (name_there (λ (r : NameRow). r.name) rows c.loop-row.row-index row c.loop-row-test.true c.row-item.is)
    c.told.ensures.device c.told.ensures.claims

pub add-requires : goal.add-requires
add-requires c =
    let rows : List NameRow = c.args.rows.now in
    let row = c.row-item.result in
    let within : c.loop-row.row-index < length (map (λ (r : NameRow). r.name) rows) = omega (arith, c.loop-row-test.true, length-map rows (λ (r : NameRow). r.name)) in
    ap (λ ns. place_among ns row.name) c.loop-row.invariant
    ∙ no_place_yet c.args.old.now [] (map (λ (r : NameRow). r.name) rows) c.loop-row.row-index row.name c.requires within (name_there (λ (r : NameRow). r.name) rows c.loop-row.row-index row c.loop-row-test.true c.row-item.is)
