use Rattle.std.proofs.Common.{List, ◌++◌, filter, sym, ap, ◌∙◌}
use Rattle.std.specs.List.{flat_map}
use Rattle.net_rules.specs.Rows.{is_vlan_of}
use Rattle.graph_objects.specs.declared.slot.Wish.{Wish}
use Rattle.graph_rules.specs.State.{name_list}
use Rattle.graph_wishes.specs.Wishes.{vlan_mays}
use Rattle.graph_tables.specs.Wished.{wishes_at}
use Rattle.graph_tables.proofs.MoreLemmas.{one_more, none_more, vlans_parts, vlan_one, vlan_none}
use Rattle.graph_tables.proofs.bridges.add_vlans.Goals as goal
use Rattle.graph_tables.proofs.bridges.add_vlans.Goals.{then-is_vlan_of+in_ok-add_vlan, else-is_vlan_of}

pub loop-row-preserved : goal.loop-row-preserved
loop-row-preserved c =
    let names = name_list c.args.names.now in
    let bridge = c.args.bridge.now in
    let ports = c.args.ports.now in
    let now : List Wish = c.loop-row.wishes.items in
    let more = one_more (λ rs. wishes_at names (flat_map (vlan_mays bridge ports) (filter (is_vlan_of bridge) rs))) (vlans_parts names bridge ports) c.args.wishes.now.items now in
    elim c.if-is_vlan_of.branch [
      | then-is_vlan_of+in_ok-add_vlan w ↦ more _ c.args.vlans.now c.loop-row.row-index c.row-item.result c.row-item.result c.loop-row-test.true c.row-item.is c.loop-row.invariant
          (ap (λ v. v.items) w.wishes-is ∙ w.in_ok-add_vlan.ensures ∙ ap (λ (ws : List Wish). now ++ ws) (sym (vlan_one names bridge ports c.row-item.result (sym c.is_vlan_of.ensures ∙ w.if-is_vlan_of.true))))
      | else-is_vlan_of w ↦ more _ c.args.vlans.now c.loop-row.row-index c.row-item.result c.row-item.result c.loop-row-test.true c.row-item.is c.loop-row.invariant
          (ap (λ v. v.items) w.wishes-is ∙ none_more now _ (vlan_none names bridge ports c.row-item.result (sym c.is_vlan_of.ensures ∙ w.if-is_vlan_of.false)))
    ]
