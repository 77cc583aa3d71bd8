use Rattle.std.proofs.Common.{ℕ, List, true}
use Rattle.std.specs.Prelude.{bytes_eq, ◌&&◌}
use Rattle.std.specs.List.{list_any}
use Rattle.net_rows.proofs.WordLemmas.{on_ok_then}
use Rattle.net_rules.specs.Inputs.{facts_of}
use Rattle.net_rules.specs.Rows.{is_name}
use Rattle.net_rules.specs.RadioPorts.{radio_ports_of}
use Rattle.net_rules.specs.Standing.{standing_of_row, lowers_of}
use Rattle.net_view.proofs.NameLemmas.{adds_as}
use Rattle.net_wants.proofs.ViewLemmas.{vlan_lowers}
use Rattle.net_wants.proofs.view.add_lowers_of_row.Goals as goal

pub returns-in-Vlan : goal.returns-in-Vlan
returns-in-Vlan c =
    let more : List (List ℕ) = radio_ports_of (facts_of c.args.inputs.now) c.args.upper.now in
    on_ok_then c.add_if.result (λ adds.
    adds_as c.args.names.now c.add_if.new.names (λ q. true && is_name c.in-Vlan.lower q)
    (λ q. list_any (λ n. bytes_eq n q) (lowers_of (standing_of_row c.args.row.now more))) adds
    (vlan_lowers c.args.row.now c.in-Vlan.lower c.in-Vlan.id more c.in-Vlan.is c.if-row.false)) c.add_if.ensures
