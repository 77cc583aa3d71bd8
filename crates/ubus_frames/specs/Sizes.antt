-- How many bytes a part of a frame takes.
use Rattle.std.specs.Prelude.{ℕ, ◌+◌, ◌≡◌, ◌≤◌, List, length, Option, Some, None}
use Rattle.blob_codec.specs.Attribute.{padded}
use Rattle.ubus_frames.specs.declared.frame.TheConstants.{MOST_BLOB}
use Rattle.ubus_frames.specs.Written.{IfThere}

-- an attribute with its padding, where there is a value
abbrev pub size_where : {T : Type 0} → (T → List ℕ) → Option T → ℕ
size_where bytes_of None = 0
size_where bytes_of (Some value) = padded (4 + length (bytes_of value))

-- the part has a spelling that a frame may have room for
pub record FitsPart {T : Type 0} (P : T → Type 0) (bytes_of : T → List ℕ) (part : Option T) : Type 0 where
  pub there : IfThere P part
  pub size : size_where bytes_of part ≤ MOST_BLOB

-- the part has a spelling, of so many bytes
pub record HasSize {T : Type 0} (P : T → Type 0) (bytes_of : T → List ℕ) (part : Option T) (size : ℕ) : Type 0 where
  pub there : IfThere P part
  pub size_is : size ≡ size_where bytes_of part
  pub most : size ≤ MOST_BLOB
