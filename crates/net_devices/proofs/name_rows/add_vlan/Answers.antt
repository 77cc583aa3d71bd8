use Rattle.net_devices.proofs.VlanLemmas.{vlan_put}
use Rattle.net_devices.proofs.name_rows.add_vlan.Goals as goal

pub returns-clause-noted : goal.returns-clause-noted
returns-clause-noted c = vlan_put c.args.vlans.now c.insert.new.self c.args.vlan.now c.in_ok-added.ensures.updates.0
