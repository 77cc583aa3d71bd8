use Rattle.std.proofs.Common.{◌≡◌, true, rules}
use Rattle.net_devices.proofs.TableLemmas.{one_pvid}
use Rattle.net_devices.proofs.vlan_table.add_pvid.Goals as goal

pub returns : goal.returns
returns c =
    let some : c.args.entry.now.pvid ≡ true = search rules in
    one_pvid c.args.pvids.now c.insert.new.self c.args.bridge.now c.args.entry.now some c.in_ok-insert.ensures.updates.0
