-- The fields of the first four bytes, by the number that these bytes are.
use Rattle.std.proofs.Common.{ℕ, ◌≡◌, ◌/◌, ◌%◌, ◌^◌, List, take, refl}
use Rattle.std.specs.Int.{w32, from_be_bytes}
use Rattle.blob_codec.specs.Attribute.{word_in, flag_in, type_in, length_in}

pub flag_is : (bytes : List ℕ) → flag_in bytes ≡ from_be_bytes w32 (take 4 bytes) / 2 ^ 31
unfolding flag_in word_in
flag_is bytes = refl

pub type_is : (bytes : List ℕ) → type_in bytes ≡ from_be_bytes w32 (take 4 bytes) / 2 ^ 24 % 128
unfolding type_in word_in
type_is bytes = refl

pub length_is : (bytes : List ℕ) → length_in bytes ≡ from_be_bytes w32 (take 4 bytes) % 2 ^ 24
unfolding length_in word_in
length_is bytes = refl

pub ruleset head_fields = (flag_is, type_is, length_is)
