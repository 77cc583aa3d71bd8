use Rattle.std.proofs.Common.{ℕ, List, Option, ap, sym, ◌∙◌}
use Rattle.net_devices.specs.BridgeVlans as spec
use Rattle.net_devices.proofs.vlan_table.VlanTable.is_repeated.Goals as goal

pub returns-in-Some : goal.returns-in-Some
returns-in-Some c = c.contains.ensures ∙ c.requires.vlans (c.in-Some.bridge, c.args.id) ∙ ap (λ (z : Option (List ℕ)). spec.is_repeated c.args.self.now.rows z c.args.id) (sym c.in-Some.is)
