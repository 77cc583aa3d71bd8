use Rattle.std.proofs.Common.{◌≡◌, map, take}
use Rattle.serde_json.specs.View.{view}
use Rattle.request_lines.specs.OptionData.{text_data}
use Rattle.request_lines.proofs.option_data.texts_json.Given as goal

abbrev pub invariant-loop-text : goal.invariant-loop-text
invariant-loop-text l = map view l.items.items ≡ map text_data (take l.text-index l.texts)
