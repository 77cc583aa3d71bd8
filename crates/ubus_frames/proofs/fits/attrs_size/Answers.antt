use Rattle.std.proofs.Common.{ap, subst, length}
use Rattle.blob_codec.specs.Limits.{FitsBlob}
use Rattle.blob_codec.specs.Written.{written as blob_bytes}
use Rattle.ubus_frames.proofs.SizeLemmas.{part_sized}
use Rattle.ubus_frames.proofs.fits.attrs_size.Goals as goal

pub returns-in_ok-blob_size-in-Some : goal.returns-in_ok-blob_size-in-Some
returns-in_ok-blob_size-in-Some c =
    part_sized FitsBlob blob_bytes _ _ _ _ _ c.in-Some.is (subst FitsBlob c.as_slice.ensures c.in_ok-blob_size-in-Some.ensures.fits)
    (ap (λ attrs. length (blob_bytes attrs)) c.as_slice.ensures) c.in_ok-blob_size-in-Some.ensures.size c.field_size.ensures
