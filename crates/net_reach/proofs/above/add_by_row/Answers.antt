use Rattle.std.proofs.Common.{ℕ, List, ap, sym, ◌∙◌}
use Rattle.std.specs.Prelude.{◌||◌, bytes_eq}
use Rattle.std.specs.List.{list_any}
use Rattle.net_rows.proofs.WordLemmas.{on_ok_then}
use Rattle.net_rules.specs.Rows.{is_name}
use Rattle.net_rules.specs.Inputs.{facts_of}
use Rattle.net_rules.specs.RadioPorts.{radio_ports_of}
use Rattle.net_rules.specs.Standing.{standing_of_row, lowers_of}
use Rattle.net_wants.proofs.ViewLemmas.{broken_lowers, plain_lowers, bridge_lowers, vlan_lowers}
use Rattle.net_reach.proofs.GroupLemmas.{gains_none, gains_as}
use Rattle.net_reach.proofs.above.add_by_row.Goals as goal

pub returns-then-row : goal.returns-then-row
returns-then-row c =
    let more : List (List ℕ) = radio_ports_of (facts_of c.args.inputs.now) c.args.upper.now in
    gains_none c.args.above.now (λ q. list_any (λ n. bytes_eq n q) (lowers_of (standing_of_row c.args.row.now more))) c.args.place (broken_lowers c.args.row.now more c.if-row.true)

pub returns-in-Plain : goal.returns-in-Plain
returns-in-Plain c =
    let more : List (List ℕ) = radio_ports_of (facts_of c.args.inputs.now) c.args.upper.now in
    gains_none c.args.above.now (λ q. list_any (λ n. bytes_eq n q) (lowers_of (standing_of_row c.args.row.now more))) c.args.place (plain_lowers c.args.row.now more c.in-Plain.is)

pub returns-in-Bridge : goal.returns-in-Bridge
returns-in-Bridge c =
    let more : List (List ℕ) = radio_ports_of (facts_of c.args.inputs.now) c.args.upper.now in
    let own : List (List ℕ) = c.as_slice.result.now in
    let joined : List (List ℕ) = c.ports_of.result.now in
    on_ok_then c.add_ports.result (λ gains.
    gains_as c.args.above.now c.add_ports.new.above
    (λ q. list_any (λ n. bytes_eq n q) own || list_any (λ n. bytes_eq n q) joined)
    (λ q. list_any (λ n. bytes_eq n q) (lowers_of (standing_of_row c.args.row.now more))) c.args.place gains
    (λ q. bridge_lowers c.args.row.now c.in-Bridge.empty c.in-Bridge.own more c.in-Bridge.is c.if-row.false q
    ∙ ap (λ (z : List (List ℕ)). list_any (λ n. bytes_eq n q) z || list_any (λ n. bytes_eq n q) more) (sym c.as_slice.ensures)
    ∙ ap (λ (z : List (List ℕ)). list_any (λ n. bytes_eq n q) own || list_any (λ n. bytes_eq n q) z) (sym (c.ports_of.ensures ∙ c.requires.ports.joining c.args.upper.now)))) c.add_ports.ensures

pub returns-in-Vlan : goal.returns-in-Vlan
returns-in-Vlan c =
    let more : List (List ℕ) = radio_ports_of (facts_of c.args.inputs.now) c.args.upper.now in
    on_ok_then c.add_under.result (λ gains.
    gains_as c.args.above.now c.add_under.new.above (λ q. is_name c.in-Vlan.lower q)
    (λ q. list_any (λ n. bytes_eq n q) (lowers_of (standing_of_row c.args.row.now more))) c.args.place gains
    (vlan_lowers c.args.row.now c.in-Vlan.lower c.in-Vlan.id more c.in-Vlan.is c.if-row.false)) c.add_under.ensures
