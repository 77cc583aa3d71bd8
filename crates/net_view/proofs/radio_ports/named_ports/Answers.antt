use Rattle.std.proofs.Common.{ℕ, List, Bool, ◌+◌, take}
use Rattle.std.specs.Prelude.{bytes_eq}
use Rattle.std.specs.List.{list_any}
use Rattle.net_rows.specs.declared.rows.NameRow.{NameRow}
use Rattle.net_rules.specs.Rows.{ports_of_kind}
use Rattle.net_view.proofs.NameLemmas.{names_more, any_more}
use Rattle.net_view.proofs.radio_ports.named_ports.Goals as goal

pub loop-row-preserved : goal.loop-row-preserved
loop-row-preserved c =
    let rows : List NameRow = c.args.names.now in
    let i : ℕ = c.loop-row.row-index in
    let row : NameRow = c.row-item.result in
    let test : List ℕ → NameRow → Bool = λ q r. list_any (λ other. bytes_eq other q) (ports_of_kind r.kind) in
    names_more c.loop-row.ports c.add_ports_of.new.ports
    (λ q. list_any (test q) (take i rows)) (λ q. test q row) (λ q. list_any (test q) (take (i + 1) rows))
    c.loop-row.invariant c.in_ok-add_ports_of.ensures
    (λ q. any_more (test q) rows i row c.loop-row-test.true c.row-item.is)
