use Rattle.std.proofs.Common.{◌≡◌, map, take, filter, not}
use Rattle.serde_json.specs.View.{view}
use Rattle.request_lines.specs.OptionData.{options_data}
use Rattle.request_lines.proofs.option_data.rows_json.Given as goal

abbrev pub invariant-loop-row : goal.invariant-loop-row
invariant-loop-row l =
    map view l.items.items
    ≡ map (λ row. options_data row.options) (filter (λ row. not row.disabled) (take l.row-index l.rows))
