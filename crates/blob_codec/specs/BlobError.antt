-- Numbers of errors.
use Rattle.std.specs.Prelude.{ℕ}
use Rattle.blob_codec.specs.declared.blob_error.BlobError.{BlobError}
use Rattle.blob_codec.specs.declared.blob_error.BlobError.TheVariants.{Short, BadLength, BadType, Double, NoNul, Deep}
use Rattle.blob_codec.specs.declared.blob_error.BlobError.TheVariants.{Memory}

-- 40 for an attribute cut short, 41 for a bad length, 42 for a bad type, 43 for a double, 44 for a
-- string without its zero byte, 45 for nesting too deep, 8 for memory
abbrev pub number_of : BlobError → ℕ
number_of (Short at) = 40
number_of (BadLength at) = 41
number_of (BadType at) = 42
number_of (Double at) = 43
number_of (NoNul at) = 44
number_of (Deep at) = 45
number_of Memory = 8
