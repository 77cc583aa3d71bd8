-- What the reader has found, or finds in an attribute.
use Rattle.std.specs.Prelude.{ℕ, suc, ◌+◌, ◌≡◌, ◌<◌, ◌≤◌, ◌^◌, List, ◌++◌, length, IsTrue, Some}
use Rattle.blob_codec.specs.declared.attribute.Head.{Head}
use Rattle.blob_codec.specs.declared.attribute.Parts.{Parts}
use Rattle.blob_codec.specs.declared.blob.Attr.{Attr}
use Rattle.blob_codec.specs.declared.blob_error.BlobError.{BlobError}
use Rattle.blob_codec.specs.declared.blob_error.BlobError.TheVariants.{Deep}
use Rattle.blob_codec.specs.Attribute.{IsWhole, padded, flag_in, type_in, length_in, name_in, value_in, value_place}
use Rattle.blob_codec.specs.Attribute.{behind}
use Rattle.blob_codec.specs.Blob.{Spells}
use Rattle.blob_codec.specs.Fault.{IsFirstFault, first_held, value_tests, is_nested}

-- the word in front, taken apart
pub record IsWord (bytes : List ℕ) (head : Head) : Type 0 where
  pub word : 4 ≤ length bytes
  pub flag_is : head.flag ≡ flag_in bytes
  pub kind_is : head.kind ≡ type_in bytes
  pub length_is : head.length ≡ length_in bytes

-- the word of a whole attribute with a name and a type that is taken
pub record IsHead (bytes : List ℕ) (head : Head) : Type 0 where
  pub word : 4 ≤ length bytes
  pub room : padded (length_in bytes) ≤ length bytes
  pub least : 4 ≤ length_in bytes
  pub flag : flag_in bytes ≡ 1
  pub type : type_in bytes ≤ 7
  pub kind_is : head.kind ≡ type_in bytes
  pub length_is : head.length ≡ length_in bytes

-- the parts of the whole attribute in front
pub record HasParts (bytes : List ℕ) (parts : Parts) : Type 0 where
  pub whole : IsWhole bytes
  pub kind_is : parts.kind ≡ type_in bytes
  pub name_is : parts.name.now ≡ name_in bytes
  pub value_is : parts.value.now ≡ value_in bytes
  pub value_place_is : parts.value_place ≡ value_place bytes
  pub size_is : parts.size ≡ padded (length_in bytes)
  pub behind_is : parts.behind.now ≡ behind bytes

-- attributes inside a value, or the fault of a value that holds them: `place` is that of its
-- attribute, `inner` its own
pub data IsInnerFault (levels place inner : ℕ) (bytes : List ℕ) (error : BlobError) : Type 0 where
  too_deep : levels ≡ 0 → error ≡ Deep place → IsInnerFault levels place inner bytes error
  of_inner : (fewer : ℕ) → levels ≡ suc fewer → IsFirstFault fewer inner bytes error
      → IsInnerFault levels place inner bytes error

-- the fault of a value: that of the tests, or of a value that holds attributes
pub data IsValueFault (levels place inner type : ℕ) (bytes : List ℕ) (error : BlobError) : Type 0 where
  of_tests : first_held (value_tests place type bytes) ≡ Some error
      → IsValueFault levels place inner type bytes error
  of_nested : IsTrue (is_nested type) → IsInnerFault levels place inner bytes error
      → IsValueFault levels place inner type bytes error

-- one level deeper the bytes spell the attributes
pub record SpellsDeeper (levels : ℕ) (bytes : List ℕ) (attrs : List Attr) : Type 0 where
  pub fewer : ℕ
  pub level : levels ≡ suc fewer
  pub spelled : Spells fewer bytes attrs

-- the attributes are spelled in front of a rest that begins at `at`: whatever it spells follows
-- them, and its fault is that of the whole
pub record SoFar (levels place at : ℕ) (bytes rest : List ℕ) (attrs : List Attr) : Type 0 where
  pub room : at + length rest < 2 ^ 64
  pub sound : (others : List Attr) → Spells levels rest others
      → Spells levels bytes (attrs ++ others)
  pub bad : (error : BlobError) → IsFirstFault levels at rest error
      → IsFirstFault levels place bytes error
