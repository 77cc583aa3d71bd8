use Rattle.std.proofs.Common.{arith, ℕ, ◌<◌, List, [], length, sym, ap, ◌∙◌}
use Rattle.std.proofs.lemmas.List.{length-map}
use Rattle.net_rules.specs.Rows.{rowless}
use Rattle.graph_rules.specs.State.{Named, Known, name_list}
use Rattle.graph_tables.specs.Wished.{known, wishes_at, row_mays}
use Rattle.graph_tables.proofs.MoreLemmas.{as_well}
use Rattle.graph_tables.proofs.RowLemmas.{row_name_mays, plain_name_mays, named_there}
use Rattle.graph_tables.proofs.wishes.add_name.Goals as goal

pub returns-then-id-rows : goal.returns-then-id-rows
returns-then-id-rows c =
    let names = name_list c.args.names.now in
    let s : Known = known c.args.rows.now c.args.vlans.now c.args.names.now c.args.radio.now in
    as_well c.add_row.result c.args.wishes.now.items _ _ _
    (ap (wishes_at names) (sym (row_name_mays names s c.requires.rows c.args.id c.index-rows-id.result c.if-id-rows.true c.index-rows-id.is)))
    c.add_row.ensures

pub returns-else-id-rows : goal.returns-else-id-rows
returns-else-id-rows c =
    let names = name_list c.args.names.now in
    let s : Known = known c.args.rows.now c.args.vlans.now c.args.names.now c.args.radio.now in
    let within : c.args.id < length names = omega (arith, c.requires.within, length-map c.args.names.now (λ (n : Named). n.name)) in
    as_well c.add_rowless.result c.args.wishes.now.items _ _ _
    (ap (λ (n : List ℕ). wishes_at names (row_mays [] [] (rowless n))) (c.name.ensures ∙ sym (named_there c.args.names.now c.args.id))
    ∙ ap (wishes_at names) (sym (plain_name_mays names s c.requires.rows c.args.id c.if-id-rows.false within)))
    c.add_rowless.ensures
