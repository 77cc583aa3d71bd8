use Rattle.std.proofs.Common.{◌≡◌, rules, ◌∙◌}
use Rattle.std.specs.Prelude.{is_none}
use Rattle.net_rows.specs.declared.rows.InterfaceRow.{InterfaceRow}
use Rattle.net_refused.proofs.LookLemmas.{lacks}
use Rattle.net_refused.proofs.interfaces.lacks_interface.Goals as goal

pub returns : goal.returns
returns c = λ inputs is.
    let none : c.is_none.result ≡ is_none c.interface_place.result = search rules in
    none ∙ lacks (λ (row : InterfaceRow). row.name) inputs.conf.interfaces c.args.interface.now c.interface_place.result (c.interface_place.ensures inputs is)
