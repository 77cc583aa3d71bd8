use Rattle.std.proofs.Common.{List, ap, ◌∙◌, ◌<◌, ◌≤◌, length, rules}
use Rattle.net_rows.specs.declared.rows.RadioRow.{RadioRow}
use Rattle.net_rows.specs.declared.rows.WifiRow.{WifiRow}
use Rattle.std.proofs.Common.{set}
use Rattle.net_rows.proofs.WordLemmas.{on_ok_then}
use Rattle.net_interfaces.proofs.RadioLemmas.{with_row_past, with_row_set}
use Rattle.net_interfaces.proofs.radios.push_row.Goals as goal

pub returns-then-place-len : goal.returns-then-place-len
returns-then-place-len c =
    let past : length c.args.rows.now.items ≤ c.args.place = search rules in
    with_row_past c.args.rows.now.items c.args.place c.args.row past

pub returns : goal.returns
returns c =
    let within : c.args.place < length c.args.rows.now.items = search rules in
    let old : RadioRow = c.index_mut-radio.result.now in
    on_ok_then c.push.result (λ pushed. ap (λ (z : List WifiRow). set c.args.rows.now.items c.args.place (record old { rows = z })) pushed
    ∙ with_row_set c.args.rows.now.items c.args.place c.args.row old within c.index_mut-radio.ensures.value) c.push.ensures.ok
