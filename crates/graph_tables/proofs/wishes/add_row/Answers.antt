use Rattle.std.proofs.Common.{map}
use Rattle.net_rules.specs.Want.{mtu_of}
use Rattle.graph_rules.specs.State.{name_list}
use Rattle.graph_wishes.specs.Wishes.{may_alone}
use Rattle.graph_tables.specs.Wished.{wish_at, standing_mays}
use Rattle.graph_tables.proofs.MoreLemmas.{then_last}
use Rattle.graph_tables.proofs.RowLemmas.{mtu_first}
use Rattle.graph_tables.proofs.wishes.add_row.Goals as goal

pub returns : goal.returns
returns c =
    let row = c.args.row.now in
    then_last c.add_standing.result c.args.wishes.now.items _ _ _ _ _ c.in_ok-add_mtu.ensures
    (mtu_first (wish_at (name_list c.args.names.now)) (map (may_alone row.name) (mtu_of row.name row.mtu)) (standing_mays c.args.vlans.now c.args.radio.now row))
    c.add_standing.ensures
