use Rattle.std.proofs.Common.{◌<◌, ◌∙◌, ap, length, arith}
use Rattle.blob_codec.specs.AsText.{json_text_of}
use Rattle.blob_json.proofs.ToJsonLemmas.{members_more, array_found, table_found}
use Rattle.blob_json.proofs.to_json.+json.Goals as goal

pub convert_members-loop-attr-preserved : goal.convert_members-loop-attr-preserved
convert_members-loop-attr-preserved t c =
    let h : c.loop-attr.attr-index < length c.args.attrs.now = omega arith in
    members_more _ _ _ _ _ _ _ h c.attr-item.is c.loop-attr.invariant c.in_ok-insert.ensures.entries (c.in_ok-name.ensures ∙ ap json_text_of c.as_bytes.ensures) c.in_ok-value.ensures

pub convert_value-returns-in_ok-convert_items-in-Array : goal.convert_value-returns-in_ok-convert_items-in-Array
convert_value-returns-in_ok-convert_items-in-Array t c = array_found _ _ _ _ c.in-Array.is c.as_slice.ensures c.in_ok-convert_items-in-Array.ensures

pub convert_value-returns-in_ok-convert_members-in-Table : goal.convert_value-returns-in_ok-convert_members-in-Table
convert_value-returns-in_ok-convert_members-in-Table t c = table_found _ _ _ _ c.in-Table.is c.as_slice-in-Table.ensures c.in_ok-convert_members-in-Table.ensures
