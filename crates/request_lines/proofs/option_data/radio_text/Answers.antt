use Rattle.std.proofs.Common.{◌∙◌, ap}
use Rattle.serde_json.specs.Written.{has_float, compact_text}
use Rattle.request_lines.proofs.FloatLemmas.{radio_has_none}
use Rattle.request_lines.proofs.option_data.radio_text.Goals as goal

pub returns : goal.returns
returns c =
    c.in_ok-to_vec.ensures.text
    (ap has_float c.in_ok-value.ensures ∙ radio_has_none c.args.radio.now)
    ∙ ap compact_text c.in_ok-value.ensures
