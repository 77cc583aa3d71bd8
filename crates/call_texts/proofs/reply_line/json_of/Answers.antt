use Rattle.std.proofs.Common.{ap, ◌∙◌}
use Rattle.serde_json.specs.Written.{has_float, compact_text}
use Rattle.call_texts.proofs.FloatLemmas.{json_has_none}
use Rattle.call_texts.proofs.reply_line.json_of.Goals as goal

pub returns : goal.returns
returns c =
    let is = c.in_ok-value.ensures in
    c.in_ok-text.ensures.text (ap has_float is ∙ json_has_none c.args.attrs.now) ∙ ap compact_text is
