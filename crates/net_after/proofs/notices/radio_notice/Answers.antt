use Rattle.std.proofs.Common.{ℕ, Option, map, ap, ◌∙◌}
use Rattle.std.specs.Prelude.{unwrap_or}
use Rattle.net_rows.specs.declared.rows.RadioRow.{RadioRow}
use Rattle.net_rules.specs.declared.event.Notice.TheVariants as notice
use Rattle.net_after.proofs.NoticeLemmas.{row_place}
use Rattle.net_after.proofs.notices.radio_notice.Goals as goal

pub returns : goal.returns
returns c =
    ap (λ (place : ℕ). notice.Radio c.args.asked.now.number place)
    (c.place_or_first-row.ensures (map (λ (row : RadioRow). row.name) c.args.conf.now.radios) c.requires
    ∙ ap (λ (o : Option ℕ). unwrap_or o 0) (row_place (λ (row : RadioRow). row.name) c.args.conf.now.radios c.args.asked.now.request.name))
