use Rattle.std.proofs.Common.{◌≡◌, ◌∙◌, ap, arith}
use Rattle.blob_codec.specs.Attribute.{padded, length_in}
use Rattle.ubus_frames.specs.Found.{IsWord}
use Rattle.ubus_frames.proofs.FieldLemmas.{padded_least, length_in_most, data_from, behind_from}
use Rattle.ubus_frames.proofs.field.split_field.Goals as goal

pub padded_size-size-requires : goal.padded_size-size-requires
padded_size-size-requires c =
    let w : IsWord c.args.bytes.now c.in-Some.word = c.in-Some.ensures in
    let e : c.in-Some.word.length ≡ length_in c.args.bytes.now = w.length_is in
    omega (arith, length_in_most c.args.bytes.now)

pub split_at-requires : goal.split_at-requires
split_at-requires c = omega (arith, padded_least c.in-Some.word.length, c.padded_size-size.ensures)

pub returns-clause-found : goal.returns-clause-found
returns-clause-found c =
    let w : IsWord c.args.bytes.now c.in-Some.word = c.in-Some.ensures in
    let l : c.in-Some.word.length ≡ length_in c.args.bytes.now = w.length_is in
    let s : c.padded_size-size.result ≡ padded (length_in c.args.bytes.now) = c.padded_size-size.ensures ∙ ap padded l in
    record {
      whole = record { word = w.there; room = omega arith; least = omega arith };
      flag_is = w.flag_is;
      id_is = w.id_is;
      data_is = data_from c.args.bytes.now _ _ _ c.split_at.ensures.front c.split_at-2.ensures.back l;
      size_is = s;
      behind_is = behind_from c.args.bytes.now _ _ c.split_at-3.ensures.back s;
    }
