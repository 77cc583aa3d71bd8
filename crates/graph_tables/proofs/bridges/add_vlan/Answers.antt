use Rattle.std.proofs.Common.{map, filter}
use Rattle.net_rules.specs.Want.{local_vlan}
use Rattle.graph_rules.specs.State.{name_list}
use Rattle.graph_wishes.specs.Wishes.{may_alone, may_entry, is_own_entry}
use Rattle.graph_tables.specs.Wished.{wish_at}
use Rattle.graph_tables.proofs.MoreLemmas.{then_last}
use Rattle.graph_tables.proofs.RowLemmas.{mtu_first}
use Rattle.graph_tables.proofs.bridges.add_vlan.Goals as goal

pub returns : goal.returns
returns c =
    let row = c.args.row.now in
    let bridge = c.args.bridge.now in
    then_last c.add_local.result c.args.wishes.now.items _ _ _ _ _ c.in_ok-add_entries.ensures
    (mtu_first (wish_at (name_list c.args.names.now)) (map (may_entry bridge row.id) (filter (is_own_entry c.args.ports.now) row.entries)) (map (may_alone bridge) (local_vlan bridge row.id row.local)))
    c.add_local.ensures
