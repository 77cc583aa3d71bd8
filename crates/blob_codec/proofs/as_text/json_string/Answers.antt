use Rattle.std.proofs.Common.{◌∙◌, string_bytes}
use Rattle.blob_codec.proofs.AsTextLemmas.{of_text, of_characters, if_ok_is}
use Rattle.blob_codec.proofs.as_text.json_string.Goals as goal

pub returns-in_ok-from_str-in-Ok : goal.returns-in_ok-from_str-in-Ok
returns-in_ok-from_str-in-Ok c = c.in_ok-from_str-in-Ok.ensures.ok ∙ (c.in-Ok.ensures.cases.0 ∙ of_text _ c.in-Ok.ensures.cases.1)

pub returns-in-Err : goal.returns-in-Err
returns-in-Err c = if_ok_is string_bytes _ _ _ (of_characters _ c.in-Err.ensures.cases.0) c.characters.ensures
