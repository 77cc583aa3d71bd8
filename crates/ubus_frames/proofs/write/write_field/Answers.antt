use Rattle.std.proofs.Common.{◌++◌, ◌+◌, ◌∙◌, length, ap, arith}
use Rattle.blob_codec.proofs.FieldLemmas.{padded_most}
use Rattle.blob_codec.proofs.WrittenLemmas.{ok_is, zeros_are}
use Rattle.ubus_frames.proofs.FieldLemmas.{padded_least}
use Rattle.ubus_frames.proofs.WriteLemmas.{field_is}
use Rattle.ubus_frames.proofs.write.write_field.Goals as goal

pub overflow_sub-padded_size : goal.overflow_sub-padded_size
overflow_sub-padded_size c = omega (arith, padded_least (4 + length c.args.bytes.now), c.padded_size.ensures)

pub split_at-requires : goal.split_at-requires
split_at-requires c = omega (arith, padded_most (4 + length c.args.bytes.now), c.padded_size.ensures)

pub returns : goal.returns
returns c =
    ok_is _ _ _ _ (ap (λ zeros. c.write_bytes.new.out.items ++ zeros) (zeros_are _ _ _ c.padded_size.ensures c.split_at.ensures.front)
    ∙ field_is _ _ _ _ _ c.in_ok-write_word.ensures c.in_ok-write_bytes.ensures) c.write_bytes-2.ensures
