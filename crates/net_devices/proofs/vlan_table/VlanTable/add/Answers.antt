use Rattle.std.proofs.Common.{subst, sym, ◌∙◌}
use Rattle.net_devices.specs.VlanTable.{HasPvidsToo}
use Rattle.net_devices.proofs.TableLemmas.{table_with}
use Rattle.net_devices.proofs.vlan_table.VlanTable.add.Goals as goal

pub returns-clause-table : goal.returns-clause-table
returns-clause-table c =
    table_with c.args.self.now c.push-2.new.self c.args.row c.in-Some.bridge c.insert.new.self c.add_pvids.new.pvids c.requires c.in_ok-push.ensures.ok (sym c.counted_bridge.ensures ∙ c.in-Some.is) c.in_ok-insert.ensures.updates.0
    (subst (HasPvidsToo c.args.self.now.pvids c.add_pvids.new.pvids c.in-Some.bridge) c.as_slice.ensures c.in_ok-add_pvids.ensures)
