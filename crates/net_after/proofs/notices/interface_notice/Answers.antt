use Rattle.std.proofs.Common.{ℕ, Option, map, ap, ◌∙◌}
use Rattle.std.specs.Prelude.{unwrap_or}
use Rattle.net_rows.specs.declared.rows.InterfaceRow.{InterfaceRow}
use Rattle.net_rules.specs.declared.event.Notice.TheVariants as notice
use Rattle.net_after.proofs.NoticeLemmas.{row_place}
use Rattle.net_after.proofs.notices.interface_notice.Goals as goal

pub returns : goal.returns
returns c =
    ap (λ (place : ℕ). notice.Interface c.args.asked.now.number place c.args.asked.now.request.device)
    (c.place_or_first-row.ensures (map (λ (row : InterfaceRow). row.name) c.args.conf.now.interfaces) c.requires
    ∙ ap (λ (o : Option ℕ). unwrap_or o 0) (row_place (λ (row : InterfaceRow). row.name) c.args.conf.now.interfaces c.args.asked.now.request.name))
