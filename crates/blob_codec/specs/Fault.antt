-- The first fault of bytes that spell no list of attributes, with the place of its attribute's
-- first byte.
use Rattle.std.specs.Prelude.{ℕ, suc, ◌+◌, ◌≡◌, ◌<◌, List, [], ◌∷◌, length, Bool, IsTrue, not, ◌||◌, ◌&&◌, nat_eq}
use Rattle.std.specs.Prelude.{nat_lt, Option, Some, None, if◌then◌else◌}
use Rattle.blob_codec.specs.declared.blob.TheConstants.{MOST_LEVELS}
use Rattle.blob_codec.specs.declared.blob.Blob.{Blob}
use Rattle.blob_codec.specs.declared.blob_error.BlobError.{BlobError}
use Rattle.blob_codec.specs.declared.blob_error.BlobError.TheVariants.{Short, BadLength, BadType, Double, NoNul, Deep}
use Rattle.blob_codec.specs.Attribute.{IsWhole, is_terminated, padded, flag_in, type_in, length_in, named_in}
use Rattle.blob_codec.specs.Attribute.{value_place, value_in, behind}
use Rattle.blob_codec.specs.Blob.{SpellsValue}

-- a test, and the fault that is told where it holds
pub record Test : Type 0 where
  pub holds : Bool
  pub fault : BlobError

-- the fault of the first test that holds
abbrev pub first_held : List Test → Option BlobError
first_held [] = None
first_held (test ∷ tests) = if test.holds then Some test.fault else first_held tests

-- the word, or the attribute with its padding, passes the end
abbrev pub is_cut : List ℕ → Bool
is_cut bytes = nat_lt (length bytes) 4 || nat_lt (length bytes) (padded (length_in bytes))

-- the attribute has no name, or its type is unknown
abbrev pub is_unknown : List ℕ → Bool
is_unknown bytes = not (nat_eq (flag_in bytes) 1) || nat_lt 8 (type_in bytes)

-- the name does not leave its room to the value, or its first zero byte is not where it ends
abbrev pub is_misnamed : List ℕ → Bool
is_misnamed bytes = nat_lt (length_in bytes) (value_place bytes)
    || not (is_terminated (named_in bytes))

-- the value has another size than its type: nothing has 0 bytes, an int64 8, an int32 4, an int16
-- 2, an int8 1
abbrev pub is_missized : ℕ → ℕ → Bool
is_missized type size =
    (nat_eq type 0 && not (nat_eq size 0))
    || ((nat_eq type 4 && not (nat_eq size 8))
    || ((nat_eq type 5 && not (nat_eq size 4))
    || ((nat_eq type 6 && not (nat_eq size 2))
    || (nat_eq type 7 && not (nat_eq size 1)))))

-- the value is a string without a zero byte, or with one in front of its last byte
abbrev pub is_unended : ℕ → List ℕ → Bool
is_unended type bytes = nat_eq type 3 && not (is_terminated bytes)

-- the tests of a value of this type, in their order, which tell of its attribute's place
abbrev pub value_tests : ℕ → ℕ → List ℕ → List Test
value_tests place type bytes =
    record { holds = is_missized type (length bytes); fault = BadLength place }
    ∷ record { holds = is_unended type bytes; fault = NoNul place } ∷ []

-- the tests of the attribute in front, in their order
abbrev pub tests_of : ℕ → List ℕ → List Test
tests_of place bytes =
    record { holds = is_cut bytes; fault = Short place }
    ∷ record { holds = nat_lt (length_in bytes) 4; fault = BadLength place }
    ∷ record { holds = is_unknown bytes; fault = BadType place }
    ∷ record { holds = nat_eq (type_in bytes) 8; fault = Double place }
    ∷ record { holds = is_misnamed bytes; fault = BadLength place }
    ∷ value_tests place (type_in bytes) (value_in bytes)

-- arrays and tables hold attributes
abbrev pub is_nested : ℕ → Bool
is_nested type = nat_eq type 1 || nat_eq type 2

-- Bytes of a list that begins at this place of the whole, where at most so many arrays and tables
-- stand within one another, have this first fault: that of the attribute in front, at last that it
-- nests too deep; or where it has none of its own, the first fault inside it; or where it is
-- spelled, the first fault behind it.
pub data IsFirstFault : ℕ → ℕ → List ℕ → BlobError → Type 0 where
  front : (levels place : ℕ) (bytes : List ℕ) (error : BlobError)
      → 0 < length bytes → first_held (tests_of place bytes) ≡ Some error
      → IsFirstFault levels place bytes error
  deep : (levels place : ℕ) (bytes : List ℕ) (error : BlobError)
      → IsWhole bytes → IsTrue (is_nested (type_in bytes)) → levels ≡ 0 → error ≡ Deep place
      → IsFirstFault levels place bytes error
  inside : (levels fewer place : ℕ) (bytes : List ℕ) (error : BlobError)
      → IsWhole bytes → IsTrue (is_nested (type_in bytes)) → levels ≡ suc fewer
      → IsFirstFault fewer (place + value_place bytes) (value_in bytes) error
      → IsFirstFault levels place bytes error
  later : (levels place : ℕ) (bytes : List ℕ) (error : BlobError) (value : Blob)
      → IsWhole bytes → SpellsValue levels (type_in bytes) (value_in bytes) value
      → IsFirstFault levels (place + padded (length_in bytes)) (behind bytes) error
      → IsFirstFault levels place bytes error

-- the first fault of bytes that are no blob
abbrev pub IsBlobFault : List ℕ → BlobError → Type 0
IsBlobFault bytes error = IsFirstFault MOST_LEVELS 0 bytes error
