-- The fields of the attribute in front of bytes, each at its place (libubox's blob and blobmsg).
use Rattle.std.specs.Prelude.{ℕ, ◌+◌, ◌-◌, ◌*◌, ◌/◌, ◌%◌, ◌^◌, ◌≡◌, ◌≤◌, List, take, drop, length, position, Bool}
use Rattle.std.specs.Prelude.{false, IsTrue, nat_eq, option_map, unwrap_or}
use Rattle.std.specs.Int.{w16, w32, from_be_bytes}
use Rattle.lanes_scan.specs.ByteTest.{is_nul}

-- the next multiple of 4, to which attributes and names are padded
unfoldable pub padded : ℕ → ℕ
padded size = (size + 3) / 4 * 4

-- the first four bytes are one number, the highest byte first
unfoldable pub word_in : List ℕ → ℕ
word_in bytes = from_be_bytes w32 (take 4 bytes)

-- its highest bit: the attribute has a name
unfoldable pub flag_in : List ℕ → ℕ
flag_in bytes = word_in bytes / 2 ^ 31

-- the seven bits below: the type
unfoldable pub type_in : List ℕ → ℕ
type_in bytes = word_in bytes / 2 ^ 24 % 128

-- the other bits: the length in bytes, with the word and without padding
unfoldable pub length_in : List ℕ → ℕ
length_in bytes = word_in bytes % 2 ^ 24

-- two bytes behind the word are the length of the name
unfoldable pub name_length_in : List ℕ → ℕ
name_length_in bytes = from_be_bytes w16 (take 2 (drop 4 bytes))

-- the name with the byte behind it
unfoldable pub named_in : List ℕ → List ℕ
named_in bytes = take (name_length_in bytes + 1) (drop 6 bytes)

-- the name
unfoldable pub name_in : List ℕ → List ℕ
name_in bytes = take (name_length_in bytes) (drop 6 bytes)

-- the place of the value: the name with its length and its zero byte is padded
unfoldable pub value_place : List ℕ → ℕ
value_place bytes = 4 + padded (name_length_in bytes + 3)

-- the value: all that is left of the attribute's length
unfoldable pub value_in : List ℕ → List ℕ
value_in bytes = drop (value_place bytes) (take (length_in bytes) bytes)

-- what is behind the attribute and its padding
unfoldable pub behind : List ℕ → List ℕ
behind bytes = drop (padded (length_in bytes)) bytes

-- a byte is zero, and the first one is the last byte
unfoldable pub is_terminated : List ℕ → Bool
is_terminated bytes =
    unwrap_or (option_map (λ place. nat_eq (place + 1) (length bytes)) (position is_nul bytes)) false

-- the bytes without the last one
unfoldable pub without_last : List ℕ → List ℕ
without_last bytes = take (length bytes - 1) bytes

-- An attribute is in front, whole but for its value: its word is there, its padding too, it has a
-- name, a known type that is taken, and its name is as long as told, ends with a zero byte, and
-- leaves its room to the value.
pub record IsWhole (bytes : List ℕ) : Type 0 where
  pub word : 4 ≤ length bytes
  pub room : padded (length_in bytes) ≤ length bytes
  pub least : 4 ≤ length_in bytes
  pub flag : flag_in bytes ≡ 1
  pub type : type_in bytes ≤ 7
  pub name_room : value_place bytes ≤ length_in bytes
  pub name_end : IsTrue (is_terminated (named_in bytes))
