use Rattle.std.proofs.Common.{◌≡◌, arith}
use Rattle.blob_codec.specs.Attribute.{length_in}
use Rattle.blob_codec.specs.Found.{IsWord}
use Rattle.blob_codec.proofs.FieldLemmas.{length_in_most}
use Rattle.blob_codec.proofs.attribute.read_head.Goals as goal

pub padded_size-requires : goal.padded_size-requires
padded_size-requires c =
    let w : IsWord c.args.bytes.now c.in-Some.head = c.in-Some.ensures in
    let e : c.in-Some.head.length ≡ length_in c.args.bytes.now = w.length_is in
    omega (arith, length_in_most c.args.bytes.now)
