use Rattle.std.specs.Prelude.{bytes_eq}
use Rattle.std.specs.List.{list_any}
use Rattle.net_rows.proofs.WordLemmas.{on_ok_then}
use Rattle.net_rules.specs.Inputs.{facts_of}
use Rattle.net_rules.specs.RadioPorts.{radio_ports_of}
use Rattle.net_rules.specs.Standing.{standing_of_row, lowers_of, stands}
use Rattle.net_wants.proofs.ViewLemmas.{stands_on_none, stands_by_row}
use Rattle.net_reach.proofs.GroupLemmas.{gains_none, gains_as}
use Rattle.net_reach.proofs.above.add_row.Goals as goal

pub returns-in-Some : goal.returns-in-Some
returns-in-Some c = on_ok_then c.add_by_row.result (λ gains.
    gains_as c.args.above.now c.add_by_row.new.above
    (λ q. list_any (λ n. bytes_eq n q) (lowers_of (standing_of_row c.in-Some.row.now (radio_ports_of (facts_of c.args.inputs.now) c.args.upper.now))))
    (λ q. stands (facts_of c.args.inputs.now) q c.args.upper.now) c.args.place gains
    (stands_by_row (facts_of c.args.inputs.now) c.args.upper.now c.in-Some.row.now c.in-Some.ensures)) c.add_by_row.ensures

pub returns-in-None : goal.returns-in-None
returns-in-None c = gains_none c.args.above.now (λ q. stands (facts_of c.args.inputs.now) q c.args.upper.now) c.args.place (stands_on_none (facts_of c.args.inputs.now) c.args.upper.now c.in-None.ensures)
