use Rattle.blob_codec.proofs.WrittenLemmas.{ok_is}
use Rattle.ubus_frames.proofs.WriteLemmas.{thirteen}
use Rattle.ubus_frames.proofs.write.write_fields.Goals as goal

pub returns : goal.returns
returns c =
    ok_is _ _ _ _ (thirteen _ _ _ _ _ _ _ _ _ _ _ _ _ _ _ _ _ _ _ _ _ _ _ _ _ _ c.in_ok-write_number.ensures c.in_ok-write_text.ensures c.in_ok-write_number-2.ensures
    c.in_ok-write_text-2.ensures c.in_ok-write_number-3.ensures c.in_ok-write_attrs.ensures c.in_ok-write_attrs-2.ensures c.in_ok-write_number-4.ensures
    c.in_ok-write_truth.ensures c.in_ok-write_truth-2.ensures c.in_ok-write_numbers.ensures c.in_ok-write_text-3.ensures) c.write_text-4.ensures
