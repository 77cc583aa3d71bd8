use Rattle.std.proofs.Common.{ℕ, List, Option, ap, sym, ◌∙◌}
use Rattle.net_devices.specs.BridgeVlans as spec
use Rattle.net_devices.proofs.vlan_table.VlanTable.has_pvid.Goals as goal

pub returns-in-Some : goal.returns-in-Some
returns-in-Some c = c.contains.ensures ∙ c.requires.pvids (c.in-Some.bridge, c.args.port.now) ∙ ap (λ (z : Option (List ℕ)). spec.has_pvid c.args.self.now.rows z c.args.port.now) (sym c.in-Some.is)
