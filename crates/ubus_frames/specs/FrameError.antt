-- Numbers of errors, and the error of a blob.
use Rattle.std.specs.Prelude.{ℕ}
use Rattle.blob_codec.specs.declared.blob_error.BlobError.{BlobError}
use Rattle.blob_codec.specs.declared.blob_error.BlobError.TheVariants as blob
use Rattle.ubus_frames.specs.declared.frame_error.FrameError.{FrameError}
use Rattle.ubus_frames.specs.declared.frame_error.FrameError.TheVariants.{Version, TooLong, BadBlob, Memory}

-- 50 for another version, 51 for a blob too long, 52 for a bad blob, 8 for memory
abbrev pub number_of : FrameError → ℕ
number_of (Version byte) = 50
number_of (TooLong length) = 51
number_of (BadBlob error) = 52
number_of Memory = 8

-- want of memory, or a bad blob
abbrev pub refused_by : BlobError → FrameError
refused_by (blob.Short at) = BadBlob (blob.Short at)
refused_by (blob.BadLength at) = BadBlob (blob.BadLength at)
refused_by (blob.BadType at) = BadBlob (blob.BadType at)
refused_by (blob.Double at) = BadBlob (blob.Double at)
refused_by (blob.NoNul at) = BadBlob (blob.NoNul at)
refused_by (blob.Deep at) = BadBlob (blob.Deep at)
refused_by blob.Memory = Memory
