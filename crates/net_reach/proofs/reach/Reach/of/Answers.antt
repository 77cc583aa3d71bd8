use Rattle.std.proofs.Common.{List, map, length, ap, subst, ◌∙◌}
use Rattle.net_rows.specs.declared.rows.NameRow.{NameRow}
use Rattle.net_rows.specs.declared.rows.InterfaceRow.{InterfaceRow}
use Rattle.net_rows.specs.declared.rows.RouteRow.{RouteRow}
use Rattle.net_wants.specs.Grouped.{HasItems, is_route_named}
use Rattle.net_reach.specs.Groups.{HasGroups, HasMembers}
use Rattle.net_reach.specs.Reach.{stands_on, is_at_device, is_at_l3_device}
use Rattle.net_reach.proofs.reach.Reach.of.Goals as goal

pub returns : goal.returns
returns c =
    let inputs = c.args.inputs.now in
    let index = c.in_ok-ports.ensures.index in
    let name_rows = c.as_slice-name_rows.ensures in
    let interface_rows = c.as_slice-interface_rows.ensures in
    record {
      interfaces = index.interfaces;
      radios = index.radios;
      devices = index.devices;
      rows = index.names;
      names = c.in_ok-names.ensures ∙ ap (map (λ (row : NameRow). row.name)) name_rows;
      above = subst (λ (z : List NameRow). HasGroups c.in_ok-above.above (stands_on inputs) z) name_rows c.in_ok-above.ensures;
      at_device = subst (λ (z : List InterfaceRow). HasGroups c.in_ok-at_device.at_device (is_at_device inputs) z) interface_rows c.in_ok-at_device.ensures;
      at_l3_device = subst (λ (z : List InterfaceRow). HasMembers c.in_ok-at_l3_device.at_l3_device (is_at_l3_device inputs) z) interface_rows c.in_ok-at_l3_device.ensures;
      routes = subst (λ (z : List RouteRow). HasItems c.in_ok-routes.routes (is_route_named inputs.conf) z) c.as_slice.ensures c.in_ok-routes.ensures;
      row_room = c.in_ok-visit.ensures.rows ∙ ap length name_rows;
      place_room = c.in_ok-visit.ensures.interfaces ∙ ap length interface_rows;
    }
