-- The attribute in front of bytes, without a name (libubox's blob).
use Rattle.std.specs.Prelude.{ℕ, ◌≤◌, List, [], ◌∷◌, take, drop, length, nat_lt}
use Rattle.blob_codec.specs.declared.blob_error.BlobError.TheVariants.{Short, BadLength}
use Rattle.blob_codec.specs.Attribute.{padded, length_in}
use Rattle.blob_codec.specs.Fault.{Test, is_cut}

-- its data: what is behind its word
unfoldable pub data_in : List ℕ → List ℕ
data_in bytes = drop 4 (take (length_in bytes) bytes)

-- the attribute is there with its padding, and its length holds its word
pub record IsWhole (bytes : List ℕ) : Type 0 where
  pub word : 4 ≤ length bytes
  pub room : padded (length_in bytes) ≤ length bytes
  pub least : 4 ≤ length_in bytes

-- the tests of its word, in their order, which tell of its place
abbrev pub word_tests : ℕ → List ℕ → List Test
word_tests place bytes =
    record { holds = is_cut bytes; fault = Short place }
    ∷ record { holds = nat_lt (length_in bytes) 4; fault = BadLength place } ∷ []
