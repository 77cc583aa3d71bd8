use Rattle.std.proofs.Common.{◌<◌, ◌∙◌, ap, length, arith}
use Rattle.blob_codec.specs.AsText.{json_text_of}
use Rattle.request_lines.proofs.OptionLemmas.{members_more}
use Rattle.request_lines.proofs.option_data.options_json.Goals as goal

pub loop-option-preserved : goal.loop-option-preserved
loop-option-preserved c =
    let h : c.loop-option.option-index < length c.args.options.now = omega arith in
    members_more _ _ _ _ _ _ _ h c.option-item.is c.loop-option.invariant
    c.in_ok-insert.ensures.entries (c.in_ok-name.ensures ∙ ap json_text_of c.as_bytes.ensures)
    c.in_ok-value.ensures
