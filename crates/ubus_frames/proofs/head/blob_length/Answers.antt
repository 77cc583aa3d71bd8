use Rattle.std.proofs.Common.{◌≡◌, ap, arith, refl}
use Rattle.blob_codec.specs.Attribute.{flag_in, type_in}
use Rattle.ubus_frames.specs.declared.frame_error.FrameError.TheVariants.{TooLong}
use Rattle.ubus_frames.specs.Fault.{too_long, bad_length, bad_type}
use Rattle.ubus_frames.specs.Found.{IsWord}
use Rattle.ubus_frames.specs.Frame.{blob_in, blob_length_in}
use Rattle.ubus_frames.proofs.FieldLemmas.{blob_word, blob_length_is}
use Rattle.ubus_frames.proofs.head.blob_length.Goals as goal

pub returns-then-word-gt-MOST_BLOB-clause-refused : goal.returns-then-word-gt-MOST_BLOB-clause-refused
returns-then-word-gt-MOST_BLOB-clause-refused c =
    let w : IsWord (blob_in c.args.bytes.now) c.in-Some.word = blob_word _ _ _ c.split_at.ensures.back c.in-Some.ensures in
    let l : c.in-Some.word.length ≡ blob_length_in c.args.bytes.now = blob_length_is _ _ w.length_is in
    too_long (omega arith) (ap TooLong l)

pub returns-then-word-lt4-clause-refused : goal.returns-then-word-lt4-clause-refused
returns-then-word-lt4-clause-refused c =
    let w : IsWord (blob_in c.args.bytes.now) c.in-Some.word = blob_word _ _ _ c.split_at.ensures.back c.in-Some.ensures in
    let l : c.in-Some.word.length ≡ blob_length_in c.args.bytes.now = blob_length_is _ _ w.length_is in
    bad_length (omega arith) refl

pub returns-then-word-ne0-clause-refused : goal.returns-then-word-ne0-clause-refused
returns-then-word-ne0-clause-refused c =
    let w : IsWord (blob_in c.args.bytes.now) c.in-Some.word = blob_word _ _ _ c.split_at.ensures.back c.in-Some.ensures in
    let l : c.in-Some.word.length ≡ blob_length_in c.args.bytes.now = blob_length_is _ _ w.length_is in
    let f : c.in-Some.word.flag ≡ flag_in (blob_in c.args.bytes.now) = w.flag_is in
    bad_type (omega arith) (omega arith) (λ p. let z : flag_in (blob_in c.args.bytes.now) ≡ 0 = p.flag in absurd (omega arith)) refl

pub returns-then-word-ne0-2-clause-refused : goal.returns-then-word-ne0-2-clause-refused
returns-then-word-ne0-2-clause-refused c =
    let w : IsWord (blob_in c.args.bytes.now) c.in-Some.word = blob_word _ _ _ c.split_at.ensures.back c.in-Some.ensures in
    let l : c.in-Some.word.length ≡ blob_length_in c.args.bytes.now = blob_length_is _ _ w.length_is in
    let f : c.in-Some.word.id ≡ type_in (blob_in c.args.bytes.now) = w.id_is in
    bad_type (omega arith) (omega arith) (λ p. let z : type_in (blob_in c.args.bytes.now) ≡ 0 = p.id in absurd (omega arith)) refl

pub returns-clause-found : goal.returns-clause-found
returns-clause-found c =
    let w : IsWord (blob_in c.args.bytes.now) c.in-Some.word = blob_word _ _ _ c.split_at.ensures.back c.in-Some.ensures in
    let l : c.in-Some.word.length ≡ blob_length_in c.args.bytes.now = blob_length_is _ _ w.length_is in
    let f : c.in-Some.word.flag ≡ flag_in (blob_in c.args.bytes.now) = w.flag_is in
    let i : c.in-Some.word.id ≡ type_in (blob_in c.args.bytes.now) = w.id_is in
    (record { least = omega arith; most = omega arith; plain = record { flag = omega arith; id = omega arith } }, l)
