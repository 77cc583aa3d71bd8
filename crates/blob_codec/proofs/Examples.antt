-- Blobs whose reading and faults the checker computes.
use Rattle.std.proofs.Common.{ℕ, ◌≡◌, List, [], ◌∷◌, refl, lit<, lit≤}
use Rattle.blob_codec.specs.declared.blob.TheConstants.{MOST_LEVELS}
use Rattle.blob_codec.specs.declared.blob.Blob.TheVariants.{Str}
use Rattle.blob_codec.specs.declared.blob_error.BlobError.TheVariants.{Short, BadLength, BadType, Double, NoNul}
use Rattle.blob_codec.specs.Attribute.{padded, word_in, flag_in, type_in, length_in, name_length_in, named_in, name_in, value_place, value_in, behind, is_terminated, without_last, IsWhole}
use Rattle.blob_codec.specs.Blob.{SpellsBlob, attribute, none, leaf, string}
use Rattle.blob_codec.specs.Fault.{IsBlobFault, front}

-- attributes nest to 32 levels
most_levels : MOST_LEVELS ≡ 32
most_levels = refl

-- the string `a` is `hi`, with a last byte of any value
example_bytes : ℕ → List ℕ
example_bytes last = 131 ∷ 0 ∷ 0 ∷ 11 ∷ 0 ∷ 1 ∷ 97 ∷ 0 ∷ 104 ∷ 105 ∷ 0 ∷ last ∷ []

whole_example : (last : ℕ) → IsWhole (example_bytes last)
unfolding example_bytes padded word_in flag_in type_in length_in name_length_in named_in value_place is_terminated
whole_example last = record { word = lit≤ tt; room = lit≤ tt; least = lit≤ tt; flag = refl; type = lit≤ tt; name_room = lit≤ tt; name_end = refl }

reads_string : (last : ℕ) → SpellsBlob (example_bytes last) (record { name = 97 ∷ []; value = Str (104 ∷ 105 ∷ []) } ∷ [])
unfolding example_bytes padded word_in flag_in type_in length_in name_length_in named_in name_in value_place value_in behind is_terminated without_last
reads_string last =
    attribute MOST_LEVELS _ (Str (104 ∷ 105 ∷ [])) [] _ (whole_example last) (leaf MOST_LEVELS _ _ _ (string refl refl refl)) (none MOST_LEVELS _ _ refl refl) refl

string_goes_on : IsBlobFault (131 ∷ 0 ∷ 0 ∷ 11 ∷ 0 ∷ 1 ∷ 97 ∷ 0 ∷ 104 ∷ 105 ∷ 33 ∷ 0 ∷ []) (NoNul 0)
unfolding padded word_in flag_in type_in length_in name_length_in named_in value_place value_in is_terminated
string_goes_on = front MOST_LEVELS 0 _ _ (lit< tt) refl

is_a_double : IsBlobFault (136 ∷ 0 ∷ 0 ∷ 11 ∷ 0 ∷ 1 ∷ 97 ∷ 0 ∷ 104 ∷ 105 ∷ 0 ∷ 0 ∷ []) (Double 0)
unfolding padded word_in flag_in type_in length_in name_length_in named_in value_place value_in is_terminated
is_a_double = front MOST_LEVELS 0 _ _ (lit< tt) refl

padding_is_missing : IsBlobFault (131 ∷ 0 ∷ 0 ∷ 11 ∷ 0 ∷ 1 ∷ 97 ∷ 0 ∷ 104 ∷ 105 ∷ 0 ∷ []) (Short 0)
unfolding padded word_in flag_in type_in length_in name_length_in named_in value_place value_in is_terminated
padding_is_missing = front MOST_LEVELS 0 _ _ (lit< tt) refl

-- an attribute without a name
no_name : IsBlobFault (3 ∷ 0 ∷ 0 ∷ 4 ∷ []) (BadType 0)
unfolding padded word_in flag_in type_in length_in name_length_in named_in value_place value_in is_terminated
no_name = front MOST_LEVELS 0 _ _ (lit< tt) refl

-- a name with its zero byte too early
early_zero_byte : IsBlobFault (128 ∷ 0 ∷ 0 ∷ 8 ∷ 0 ∷ 1 ∷ 0 ∷ 0 ∷ []) (BadLength 0)
unfolding padded word_in flag_in type_in length_in name_length_in named_in value_place value_in is_terminated
early_zero_byte = front MOST_LEVELS 0 _ _ (lit< tt) refl
