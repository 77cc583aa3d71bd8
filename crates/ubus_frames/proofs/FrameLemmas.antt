-- A frame that is read, or refused.
use Rattle.std.proofs.Common.{ℕ, ◌≡◌, ◌≢◌, ◌+◌, List, length, drop, arith, ap, refl, sym, subst, ◌∙◌}
use Rattle.std.proofs.lemmas.List.{take_all}
use Rattle.blob_codec.specs.declared.blob_error.BlobError.{BlobError}
use Rattle.blob_codec.specs.declared.blob_error.BlobError.TheVariants as blob
use Rattle.ubus_frames.specs.declared.frame.Frame.{Frame}
use Rattle.ubus_frames.specs.declared.frame_error.FrameError.{FrameError}
use Rattle.ubus_frames.specs.declared.frame_error.FrameError.TheVariants.{BadBlob, Memory}
use Rattle.ubus_frames.specs.Fault.{IsFieldsFault, IsFrameFault, fields}
use Rattle.ubus_frames.specs.Frame.{HasHead, bare_in, blob_length_in, fields_in}
use Rattle.ubus_frames.specs.FrameError.{refused_by}
use Rattle.ubus_frames.specs.Layout.{MakesOf, SpellsFrame}
use Rattle.ubus_frames.proofs.FieldLemmas.{fields_from}

-- a fault of a blob but want of memory is told as a bad blob
known : (inner : BlobError) → inner ≢ blob.Memory → refused_by inner ≡ BadBlob inner
known (blob.Short at) m = refl
known (blob.BadLength at) m = refl
known (blob.BadType at) m = refl
known (blob.Double at) m = refl
known (blob.NoNul at) m = refl
known (blob.Deep at) m = refl
known blob.Memory m = absurd (m refl)

pub frame_from : (bytes tail : List ℕ) (start frame : Frame) → HasHead bytes → 8 + blob_length_in bytes ≡ length bytes → tail ≡ drop 12 bytes → start ≡ bare_in bytes
    → MakesOf tail start frame → SpellsFrame bytes frame
frame_from bytes tail start frame h w t s m =
    let f : tail ≡ fields_in bytes = fields_from bytes tail t w (take_all (length bytes) bytes (omega arith)) in
    let n : MakesOf (fields_in bytes) (bare_in bytes) frame = rw (sym f, sym s) m in
    record { begins = record { head = h; room = omega arith; fields = n }; all = w }

pub frame_refused : (bytes tail : List ℕ) (inner : BlobError) (error : FrameError) → HasHead bytes → 8 + blob_length_in bytes ≡ length bytes → tail ≡ drop 12 bytes
    → error ≡ refused_by inner → error ≢ Memory → (inner ≢ blob.Memory → IsFieldsFault 12 tail inner) → IsFrameFault bytes error
frame_refused bytes tail inner error hd w t e n h =
    let f : tail ≡ fields_in bytes = fields_from bytes tail t w (take_all (length bytes) bytes (omega arith)) in
    let m : inner ≢ blob.Memory = λ z. n (e ∙ ap refused_by z) in
    fields inner hd (omega arith) (subst (λ (xs : List ℕ). IsFieldsFault 12 xs inner) f (h m)) (e ∙ known inner m)
