-- Frames whose reading and faults the checker computes.
use Rattle.std.proofs.Common.{ℕ, ◌≡◌, ◌≢◌, [], ◌∷◌, Some, refl, lit<, lit≤, arith}
use Rattle.blob_codec.specs.declared.blob_error.BlobError.TheVariants.{BadLength}
use Rattle.blob_codec.specs.Attribute.{padded, word_in, flag_in, type_in, length_in, behind}
use Rattle.ubus_frames.specs.declared.frame.TheConstants.{MOST_BLOB}
use Rattle.ubus_frames.specs.declared.frame_error.FrameError.TheVariants.{Version, TooLong, BadBlob}
use Rattle.ubus_frames.specs.declared.value.Kind.TheVariants.{OneNumber}
use Rattle.ubus_frames.specs.declared.value.Value.TheVariants.{Number}
use Rattle.ubus_frames.specs.Fault as fault
use Rattle.ubus_frames.specs.Fault.{IsFrameFault, too_long, bad_length}
use Rattle.ubus_frames.specs.Field.{data_in}
use Rattle.ubus_frames.specs.Frame.{bare, version_in, bare_in, blob_in, blob_length_in, fields_in}
use Rattle.ubus_frames.specs.Layout as layout
use Rattle.ubus_frames.specs.Layout.{SpellsFrame, known, field}
use Rattle.ubus_frames.specs.Value.{number}

-- a frame has at most 2^20 bytes behind its first eight
most_blob : MOST_BLOB ≡ 1048576
most_blob = refl

-- STATUS 0 with the sequence 7 and the peer 1025
status_frame : SpellsFrame (0 ∷ 1 ∷ 0 ∷ 7 ∷ 0 ∷ 0 ∷ 4 ∷ 1 ∷ 0 ∷ 0 ∷ 0 ∷ 12 ∷ 1 ∷ 0 ∷ 0 ∷ 8 ∷ 0 ∷ 0 ∷ 0 ∷ 0 ∷ []) (record (bare 1 7 1025) { status = Some 0 })
unfolding padded word_in flag_in type_in length_in behind version_in bare_in blob_in blob_length_in fields_in data_in
status_frame = record {
  begins = record {
    head = record { head = lit≤ tt; version = refl; taken = record { least = lit≤ tt; most = lit≤ tt; plain = record { flag = refl; id = refl } } };
    room = lit≤ tt;
    fields = field _ _ (record (bare 1 7 1025) { status = Some 0 }) _
        (record { whole = record { word = lit≤ tt; room = lit≤ tt; least = lit≤ tt }; puts = known OneNumber (Number 0) refl (number refl refl refl) refl })
        (layout.none _ _ _ refl refl);
  };
  all = refl;
}

not_zero : (n : ℕ) → n ≡ 1 → n ≢ 0
not_zero n e z = absurd (let s : n ≡ 0 = z in omega arith)

-- the version stands with the first byte
other_version : IsFrameFault (1 ∷ []) (Version 1)
unfolding version_in
other_version = fault.head (fault.version (lit< tt) (not_zero 1 refl) refl)

-- one byte more than is taken
long_blob : IsFrameFault (0 ∷ 1 ∷ 0 ∷ 7 ∷ 0 ∷ 0 ∷ 4 ∷ 1 ∷ 0 ∷ 16 ∷ 0 ∷ 1 ∷ []) (TooLong 1048577)
unfolding word_in length_in version_in blob_in blob_length_in
long_blob = fault.head (fault.word (lit≤ tt) refl (too_long (lit< tt) refl))

-- a blob that does not hold its word
short_blob : IsFrameFault (0 ∷ 1 ∷ 0 ∷ 7 ∷ 0 ∷ 0 ∷ 4 ∷ 1 ∷ 0 ∷ 0 ∷ 0 ∷ 3 ∷ []) (BadBlob (BadLength 8))
unfolding word_in length_in version_in blob_in blob_length_in
short_blob = fault.head (fault.word (lit≤ tt) refl (bad_length (lit< tt) refl))
