use Rattle.std.proofs.Common.{List, ℕ, map, ap, ◌∙◌}
use Rattle.net_rows.specs.declared.rows.NameRow.{NameRow}
use Rattle.graph_rules.specs.State.{place_among}
use Rattle.graph_names.specs.Table.{with_told}
use Rattle.graph_names.proofs.KeptLemmas.{no_place_yet, kept_more, item_there, distinct_front}
use Rattle.graph_names.proofs.kept.kept_names.Goals as goal

pub names_of_rows-requires : goal.names_of_rows-requires
names_of_rows-requires c = distinct_front (map (λ (r : NameRow). r.name) c.args.rows.now) c.args.plain.now c.requires

pub loop-name-preserved : goal.loop-name-preserved
loop-name-preserved c =
    let front : List (List ℕ) = map (λ (r : NameRow). r.name) c.args.rows.now in
    let name = c.name-item.result in
    c.in_ok-add.ensures.ok
    ∙ ap (λ ns. with_told ns name c.told.result) c.loop-name.invariant
    ∙ kept_more c.args.old.now front c.args.plain.now c.loop-name.name-index name c.told.result c.loop-name-test.true (item_there c.args.plain.now c.loop-name.name-index name c.loop-name-test.true c.name-item.is) c.told.ensures.device
    c.told.ensures.claims

pub add-requires : goal.add-requires
add-requires c =
    let front : List (List ℕ) = map (λ (r : NameRow). r.name) c.args.rows.now in
    let name = c.name-item.result in
    ap (λ ns. place_among ns name) c.loop-name.invariant
    ∙ no_place_yet c.args.old.now front c.args.plain.now c.loop-name.name-index name c.requires c.loop-name-test.true (item_there c.args.plain.now c.loop-name.name-index name c.loop-name-test.true c.name-item.is)
