use Rattle.std.proofs.Common.{ap, ◌∙◌}
use Rattle.std.specs.Prelude.{is_some}
use Rattle.net_rows.specs.declared.rows.InterfaceRow.{InterfaceRow}
use Rattle.net_view.proofs.PlaceLemmas.{place_is_found}
use Rattle.net_after.proofs.changes.has_interface.Goals as goal

pub returns : goal.returns
returns c = c.contains_key.ensures ∙ ap is_some (c.requires c.args.interface.now) ∙ place_is_found (λ (row : InterfaceRow). row.name) c.args.conf.now.interfaces c.args.interface.now
