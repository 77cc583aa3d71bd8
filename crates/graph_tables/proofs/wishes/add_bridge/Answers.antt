use Rattle.std.proofs.Common.{◌∙◌}
use Rattle.graph_rules.specs.State.{name_list}
use Rattle.graph_tables.proofs.MoreLemmas.{then_more, then_last, bridge_same}
use Rattle.graph_tables.proofs.wishes.add_bridge.Goals as goal

pub returns : goal.returns
returns c =
    let two = then_more c.args.wishes.now.items _ _ _ _ c.in_ok-add_up.ensures c.in_ok-add_alone.ensures in
    let three = then_more c.args.wishes.now.items _ _ _ _ two c.in_ok-add_masters.ensures in
    then_last c.add_vlans.result c.args.wishes.now.items _ _ _ _ _ three
    (bridge_same (name_list c.args.names.now) c.args.vlans.now c.args.row.now c.is_filtering.result _ _ c.is_filtering.ensures (c.as_slice-ports.ensures.value ∙ c.in_ok-ports.ensures))
    c.add_vlans.ensures
