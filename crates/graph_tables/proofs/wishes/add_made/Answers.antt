use Rattle.std.proofs.Common.{List, ℕ, ◌++◌, map, false, ap, ◌∙◌}
use Rattle.graph_rules.specs.State.{name_list}
use Rattle.graph_rules.specs.Answers.{given_ports, port_of}
use Rattle.graph_tables.specs.Wished.{wishes_at, bridge_mays}
use Rattle.graph_tables.proofs.MoreLemmas.{as_well}
use Rattle.graph_tables.proofs.RowLemmas.{standing_by}
use Rattle.graph_tables.proofs.wishes.add_made.Goals as goal

pub returns-in-Plain : goal.returns-in-Plain
returns-in-Plain c =
    as_well c.add_plain.result c.args.wishes.now.items _ _ _ (ap (wishes_at (name_list c.args.names.now)) (standing_by c.args.vlans.now c.args.radio.now c.args.row.now _ false c.in-Plain.is c.requires)) c.add_plain.ensures

pub returns-in-Bridge : goal.returns-in-Bridge
returns-in-Bridge c =
    let names = name_list c.args.names.now in
    let given = given_ports (map port_of c.args.radio.now) c.args.row.now.name in
    as_well c.add_bridge.result c.args.wishes.now.items _ _ _
    (ap (λ (own : List (List ℕ)). wishes_at names (bridge_mays c.args.vlans.now c.args.row.now (own ++ given))) c.as_slice.ensures
    ∙ ap (wishes_at names) (standing_by c.args.vlans.now c.args.radio.now c.args.row.now _ false c.in-Bridge.is c.requires))
    c.add_bridge.ensures
