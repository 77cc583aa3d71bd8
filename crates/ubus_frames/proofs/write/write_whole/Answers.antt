use Rattle.std.proofs.Common.{◌≡◌, ◌+◌, ◌++◌, ◌∙◌, length, ap, rules}
use Rattle.blob_codec.proofs.WrittenLemmas.{ok_is}
use Rattle.ubus_frames.specs.Written.{written_fields}
use Rattle.ubus_frames.proofs.WriteLemmas.{whole_is}
use Rattle.ubus_frames.proofs.write.write_whole.Goals as goal

pub returns : goal.returns
returns c =
    let f : c.as_slice.result.now ≡ written_fields c.args.frame.now = search rules in
    let z : 4 + c.len.result ≡ 4 + length c.as_slice.result.now = search rules in
    ok_is _ _ _ _
    (whole_is _ _ _ _ _ c.args.frame.now _ (4 + c.len.result) c.in_ok-write_bytes.ensures
    (c.in_ok-write_bytes-2.ensures ∙ ap (λ bytes. c.write_bytes.new.out.items ++ bytes) c.to_be_bytes.ensures)
    (c.in_ok-write_bytes-3.ensures ∙ ap (λ bytes. c.write_bytes-2.new.out.items ++ bytes) c.to_be_bytes-2.ensures) c.in_ok-write_word.ensures z f)
    c.write_bytes-4.ensures
