use Rattle.std.proofs.Common.{◌∙◌, ap}
use Rattle.serde_json.specs.Written.{has_float, compact_text}
use Rattle.request_lines.proofs.FloatLemmas.{options_have_none}
use Rattle.request_lines.proofs.option_data.options_text.Goals as goal

pub returns : goal.returns
returns c =
    c.in_ok-to_vec.ensures.text
    (ap has_float c.in_ok-value.ensures ∙ options_have_none c.args.options.now)
    ∙ ap compact_text c.in_ok-value.ensures
