use Rattle.std.proofs.Common.{◌++◌, ap, arith}
use Rattle.blob_codec.proofs.FieldLemmas.{padded_least, padded_most}
use Rattle.blob_codec.proofs.WrittenLemmas.{ok_is, zeros_are}
use Rattle.blob_codec.proofs.write.pad.Goals as goal

pub overflow_sub-padded_size : goal.overflow_sub-padded_size
overflow_sub-padded_size c = omega (arith, padded_least c.args.size, c.padded_size.ensures)

pub split_at-requires : goal.split_at-requires
split_at-requires c = omega (arith, padded_most c.args.size, c.padded_size.ensures)

pub returns-clause-appends : goal.returns-clause-appends
returns-clause-appends c =
    ok_is _ _ _ _ (ap (λ zeros. c.args.out.now.items ++ zeros) (zeros_are c.args.size _ _ c.padded_size.ensures c.split_at.ensures.front)) c.write_bytes.ensures.appends
