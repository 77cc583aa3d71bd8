use Rattle.std.proofs.Common.{take}
use Rattle.std.specs.Prelude.{bytes_eq}
use Rattle.std.specs.List.{list_any}
use Rattle.net_rules.specs.Rows.{ports_of_kind}
use Rattle.net_view.specs.Names.{HasNames}
use Rattle.net_view.proofs.radio_ports.named_ports.Given as goal

-- the ports of the rows so far
abbrev pub invariant-loop-row : goal.invariant-loop-row
invariant-loop-row l = HasNames l.ports (λ q. list_any (λ row. list_any (λ other. bytes_eq other q) (ports_of_kind row.kind)) (take l.row-index l.names))
