-- Which test holds first.
use Rattle.std.proofs.Common.{ℕ, ◌≡◌, ◌≢◌, ◌<◌, ◌≤◌, Bool, true, false, not, cond, List, [], ◌∷◌, length, Some, None, nat_eq, nat_lt, arith, ap, ◌∙◌, sym, refl}
use Rattle.std.specs.Prelude.{◌||◌, ◌&&◌}
use Rattle.std.proofs.lemmas.Bool.Decides.{nat_tests}
use Rattle.blob_codec.specs.declared.blob.Blob.{Blob}
use Rattle.blob_codec.specs.declared.blob_error.BlobError.{BlobError}
use Rattle.blob_codec.specs.declared.blob_error.BlobError.TheVariants.{Short, BadLength, BadType, Double, NoNul}
use Rattle.blob_codec.specs.Attribute.{IsWhole, is_terminated, padded, flag_in, type_in, length_in, named_in, value_place, value_in}
use Rattle.blob_codec.specs.Blob.{IsLeaf, nothing, string, int64, int32, int16, int8}
use Rattle.blob_codec.specs.Fault.{Test, first_held, tests_of, value_tests, is_cut, is_unknown, is_misnamed, is_missized, is_unended, is_nested}

held_here : (holds : Bool) (fault : BlobError) (tests : List Test) → holds ≡ true → first_held (record { holds = holds; fault = fault } ∷ tests) ≡ Some fault
held_here holds fault tests h = ap (λ b. cond b (Some fault) (first_held tests)) h

held_later : (holds : Bool) (fault : BlobError) (tests : List Test) → holds ≡ false → first_held (record { holds = holds; fault = fault } ∷ tests) ≡ first_held tests
held_later holds fault tests h = ap (λ b. cond b (Some fault) (first_held tests)) h

either_true : (a b : Bool) → a ≡ true → (a || b) ≡ true
either_true a b h = ap (λ x. x || b) h

or_true : (a b : Bool) → b ≡ true → (a || b) ≡ true
or_true true b h = refl
or_true false b h = h

or_false : (a b : Bool) → a ≡ false → b ≡ false → (a || b) ≡ false
or_false a b h g = ap (λ x. x || b) h ∙ g

and_false : (a b : Bool) → a ≡ false → (a && b) ≡ false
and_false a b h = ap (λ x. x && b) h

lt_true : (a b : ℕ) → a < b → nat_lt a b ≡ true
lt_true a b h = grind (arith, nat_tests)

lt_false : (a b : ℕ) → b ≤ a → nat_lt a b ≡ false
lt_false a b h = grind (arith, nat_tests)

eq_true : (a b : ℕ) → a ≡ b → nat_eq a b ≡ true
eq_true a b h = grind (arith, nat_tests)

eq_false : (a b : ℕ) → a ≢ b → nat_eq a b ≡ false
eq_false a b h = grind (arith, nat_tests)

not_true : (a : Bool) → a ≡ false → not a ≡ true
not_true a h = ap not h

not_false : (a : Bool) → a ≡ true → not a ≡ false
not_false a h = ap not h

cut_false : (bytes : List ℕ) → 4 ≤ length bytes → padded (length_in bytes) ≤ length bytes → is_cut bytes ≡ false
cut_false bytes h g = or_false (nat_lt (length bytes) 4) _ (lt_false _ _ h) (lt_false _ _ g)

unknown_false : (bytes : List ℕ) → flag_in bytes ≡ 1 → type_in bytes ≤ 8 → is_unknown bytes ≡ false
unknown_false bytes h g = or_false (not (nat_eq (flag_in bytes) 1)) _ (not_false _ (eq_true _ _ h)) (lt_false _ _ g)

-- the tests behind each test
abbrev pub after_double : ℕ → List ℕ → List Test
after_double place bytes = record { holds = is_misnamed bytes; fault = BadLength place } ∷ value_tests place (type_in bytes) (value_in bytes)

abbrev pub after_unknown : ℕ → List ℕ → List Test
after_unknown place bytes = record { holds = nat_eq (type_in bytes) 8; fault = Double place } ∷ after_double place bytes

abbrev pub after_small : ℕ → List ℕ → List Test
after_small place bytes = record { holds = is_unknown bytes; fault = BadType place } ∷ after_unknown place bytes

abbrev pub after_cut : ℕ → List ℕ → List Test
after_cut place bytes = record { holds = nat_lt (length_in bytes) 4; fault = BadLength place } ∷ after_small place bytes

abbrev pub after_size : ℕ → ℕ → List ℕ → List Test
after_size place type bytes = record { holds = is_unended type bytes; fault = NoNul place } ∷ []

pub word_cut : (place : ℕ) (bytes : List ℕ) → length bytes < 4 → first_held (tests_of place bytes) ≡ Some (Short place)
word_cut place bytes h = held_here (is_cut bytes) (Short place) (after_cut place bytes) (either_true (nat_lt (length bytes) 4) _ (lt_true _ _ h))

pub attribute_cut : (place : ℕ) (bytes : List ℕ) → length bytes < padded (length_in bytes) → first_held (tests_of place bytes) ≡ Some (Short place)
attribute_cut place bytes h = held_here (is_cut bytes) (Short place) (after_cut place bytes) (or_true (nat_lt (length bytes) 4) _ (lt_true _ _ h))

pub too_small : (place : ℕ) (bytes : List ℕ) → 4 ≤ length bytes → padded (length_in bytes) ≤ length bytes → length_in bytes < 4
    → first_held (tests_of place bytes) ≡ Some (BadLength place)
too_small place bytes w r h = held_later (is_cut bytes) (Short place) (after_cut place bytes) (cut_false bytes w r) ∙ held_here (nat_lt (length_in bytes) 4) (BadLength place) (after_small place bytes) (lt_true _ _ h)

unknown_held : (place : ℕ) (bytes : List ℕ) → 4 ≤ length bytes → padded (length_in bytes) ≤ length bytes → 4 ≤ length_in bytes → is_unknown bytes ≡ true
    → first_held (tests_of place bytes) ≡ Some (BadType place)
unknown_held place bytes w r l h =
    held_later (is_cut bytes) (Short place) (after_cut place bytes) (cut_false bytes w r) ∙ (held_later (nat_lt (length_in bytes) 4) (BadLength place) (after_small place bytes) (lt_false _ _ l)
    ∙ held_here (is_unknown bytes) (BadType place) (after_unknown place bytes) h)

pub no_flag : (place : ℕ) (bytes : List ℕ) → 4 ≤ length bytes → padded (length_in bytes) ≤ length bytes → 4 ≤ length_in bytes → flag_in bytes ≢ 1
    → first_held (tests_of place bytes) ≡ Some (BadType place)
no_flag place bytes w r l h = unknown_held place bytes w r l (either_true (not (nat_eq (flag_in bytes) 1)) _ (not_true _ (eq_false _ _ h)))

pub high_type : (place : ℕ) (bytes : List ℕ) → 4 ≤ length bytes → padded (length_in bytes) ≤ length bytes → 4 ≤ length_in bytes → 8 < type_in bytes
    → first_held (tests_of place bytes) ≡ Some (BadType place)
high_type place bytes w r l h = unknown_held place bytes w r l (or_true (not (nat_eq (flag_in bytes) 1)) _ (lt_true _ _ h))

past_unknown : (place : ℕ) (bytes : List ℕ) → 4 ≤ length bytes → padded (length_in bytes) ≤ length bytes → 4 ≤ length_in bytes → flag_in bytes ≡ 1 → type_in bytes ≤ 8
    → first_held (tests_of place bytes) ≡ first_held (record { holds = nat_eq (type_in bytes) 8; fault = Double place }
    ∷ record { holds = is_misnamed bytes; fault = BadLength place } ∷ value_tests place (type_in bytes) (value_in bytes))
past_unknown place bytes w r l f t =
    held_later (is_cut bytes) (Short place) (after_cut place bytes) (cut_false bytes w r) ∙ (held_later (nat_lt (length_in bytes) 4) (BadLength place) (after_small place bytes) (lt_false _ _ l)
    ∙ held_later (is_unknown bytes) (BadType place) (after_unknown place bytes) (unknown_false bytes f t))

pub is_double : (place : ℕ) (bytes : List ℕ) → 4 ≤ length bytes → padded (length_in bytes) ≤ length bytes → 4 ≤ length_in bytes → flag_in bytes ≡ 1 → type_in bytes ≡ 8
    → first_held (tests_of place bytes) ≡ Some (Double place)
is_double place bytes w r l f t = past_unknown place bytes w r l f (omega arith) ∙ held_here (nat_eq (type_in bytes) 8) (Double place) (after_double place bytes) (eq_true _ _ t)

past_double : (place : ℕ) (bytes : List ℕ) → 4 ≤ length bytes → padded (length_in bytes) ≤ length bytes → 4 ≤ length_in bytes → flag_in bytes ≡ 1 → type_in bytes ≤ 7
    → first_held (tests_of place bytes) ≡ first_held (record { holds = is_misnamed bytes; fault = BadLength place } ∷ value_tests place (type_in bytes) (value_in bytes))
past_double place bytes w r l f t =
    past_unknown place bytes w r l f (omega arith)
    ∙ held_later (nat_eq (type_in bytes) 8) (Double place) (after_double place bytes) (eq_false _ _ (λ e. absurd (let q : type_in bytes ≡ 8 = e in omega arith)))

pub no_room : (place : ℕ) (bytes : List ℕ) → 4 ≤ length bytes → padded (length_in bytes) ≤ length bytes → 4 ≤ length_in bytes → flag_in bytes ≡ 1 → type_in bytes ≤ 7
    → length_in bytes < value_place bytes → first_held (tests_of place bytes) ≡ Some (BadLength place)
no_room place bytes w r l f t h =
    past_double place bytes w r l f t
    ∙ held_here (is_misnamed bytes) (BadLength place) (value_tests place (type_in bytes) (value_in bytes)) (either_true (nat_lt (length_in bytes) (value_place bytes)) _ (lt_true _ _ h))

pub no_end : (place : ℕ) (bytes : List ℕ) → 4 ≤ length bytes → padded (length_in bytes) ≤ length bytes → 4 ≤ length_in bytes → flag_in bytes ≡ 1 → type_in bytes ≤ 7
    → is_terminated (named_in bytes) ≡ false → first_held (tests_of place bytes) ≡ Some (BadLength place)
no_end place bytes w r l f t h =
    past_double place bytes w r l f t
    ∙ held_here (is_misnamed bytes) (BadLength place) (value_tests place (type_in bytes) (value_in bytes)) (or_true (nat_lt (length_in bytes) (value_place bytes)) _ (not_true _ h))

-- of a whole attribute only its value is left to be tested
pub whole_tests : (place : ℕ) (bytes : List ℕ) → IsWhole bytes → first_held (tests_of place bytes) ≡ first_held (value_tests place (type_in bytes) (value_in bytes))
whole_tests place bytes w =
    past_double place bytes w.word w.room w.least w.flag w.type
    ∙ held_later (is_misnamed bytes) (BadLength place) (value_tests place (type_in bytes) (value_in bytes)) (or_false (nat_lt (length_in bytes) (value_place bytes)) _ (lt_false _ _ w.name_room) (not_false _ w.name_end))

missized_held : (place type : ℕ) (bytes : List ℕ) → is_missized type (length bytes) ≡ true → first_held (value_tests place type bytes) ≡ Some (BadLength place)
missized_held place type bytes h = held_here (is_missized type (length bytes)) (BadLength place) (after_size place type bytes) h

at_zero : (size : ℕ) → size ≢ 0 → is_missized 0 size ≡ true
at_zero size h = either_true _ _ (not_true _ (eq_false _ _ h))

at_four : (size : ℕ) → size ≢ 8 → is_missized 4 size ≡ true
at_four size h = either_true _ _ (not_true _ (eq_false _ _ h))

at_five : (size : ℕ) → size ≢ 4 → is_missized 5 size ≡ true
at_five size h = either_true _ _ (not_true _ (eq_false _ _ h))

at_six : (size : ℕ) → size ≢ 2 → is_missized 6 size ≡ true
at_six size h = either_true _ _ (not_true _ (eq_false _ _ h))

at_seven : (size : ℕ) → size ≢ 1 → is_missized 7 size ≡ true
at_seven size h = not_true _ (eq_false _ _ h)

pub size_of_nothing : (place : ℕ) (bytes : List ℕ) → length bytes ≢ 0 → first_held (value_tests place 0 bytes) ≡ Some (BadLength place)
size_of_nothing place bytes h = missized_held place 0 bytes (at_zero (length bytes) h)

pub size_of_int64 : (place : ℕ) (bytes : List ℕ) → length bytes ≢ 8 → first_held (value_tests place 4 bytes) ≡ Some (BadLength place)
size_of_int64 place bytes h = missized_held place 4 bytes (at_four (length bytes) h)

pub size_of_int32 : (place : ℕ) (bytes : List ℕ) → length bytes ≢ 4 → first_held (value_tests place 5 bytes) ≡ Some (BadLength place)
size_of_int32 place bytes h = missized_held place 5 bytes (at_five (length bytes) h)

pub size_of_int16 : (place : ℕ) (bytes : List ℕ) → length bytes ≢ 2 → first_held (value_tests place 6 bytes) ≡ Some (BadLength place)
size_of_int16 place bytes h = missized_held place 6 bytes (at_six (length bytes) h)

pub size_of_int8 : (place : ℕ) (bytes : List ℕ) → length bytes ≢ 1 → first_held (value_tests place 7 bytes) ≡ Some (BadLength place)
size_of_int8 place bytes h = missized_held place 7 bytes (at_seven (length bytes) h)

pub string_unended : (place : ℕ) (bytes : List ℕ) → is_terminated bytes ≡ false → first_held (value_tests place 3 bytes) ≡ Some (NoNul place)
string_unended place bytes h = held_here (is_unended 3 bytes) (NoNul place) [] (not_true _ h)

-- values that are spelled pass the tests
no_test : (place : ℕ) (type : ℕ) (bytes : List ℕ) → is_missized type (length bytes) ≡ false → is_unended type bytes ≡ false → first_held (value_tests place type bytes) ≡ None
no_test place type bytes h g = held_later (is_missized type (length bytes)) (BadLength place) (after_size place type bytes) h ∙ held_later (is_unended type bytes) (NoNul place) [] g

tests_at : (place : ℕ) (type other : ℕ) (bytes : List ℕ) → type ≡ other → first_held (value_tests place other bytes) ≡ None → first_held (value_tests place type bytes) ≡ None
tests_at place type other bytes e h = ap (λ t. first_held (value_tests place t bytes)) e ∙ h

pub leaf_tests : (place type : ℕ) (bytes : List ℕ) (value : Blob) → IsLeaf type bytes value → first_held (value_tests place type bytes) ≡ None
leaf_tests place type bytes value (nothing t s v) = tests_at place type 0 bytes t (no_test place 0 bytes (ap (λ n. is_missized 0 n) s) refl)
leaf_tests place type bytes value (string t s v) = tests_at place type 3 bytes t (no_test place 3 bytes refl (not_false _ s))
leaf_tests place type bytes value (int64 t s v) = tests_at place type 4 bytes t (no_test place 4 bytes (ap (λ n. is_missized 4 n) s) refl)
leaf_tests place type bytes value (int32 t s v) = tests_at place type 5 bytes t (no_test place 5 bytes (ap (λ n. is_missized 5 n) s) refl)
leaf_tests place type bytes value (int16 t s v) = tests_at place type 6 bytes t (no_test place 6 bytes (ap (λ n. is_missized 6 n) s) refl)
leaf_tests place type bytes value (int8 t s v) = tests_at place type 7 bytes t (no_test place 7 bytes (ap (λ n. is_missized 7 n) s) refl)

nested_at : (place : ℕ) (type : ℕ) (bytes : List ℕ) → (type ≡ 1 → first_held (value_tests place type bytes) ≡ None)
nested_at place type bytes e = tests_at place type 1 bytes e (no_test place 1 bytes refl refl)

table_at : (place : ℕ) (type : ℕ) (bytes : List ℕ) → (type ≡ 2 → first_held (value_tests place type bytes) ≡ None)
table_at place type bytes e = tests_at place type 2 bytes e (no_test place 2 bytes refl refl)

pub nested_cases : (type : ℕ) → is_nested type ≡ true → (P : Type 0) → (type ≡ 1 → P) → (type ≡ 2 → P) → P
nested_cases type h P one two =
    elim (nat_eq type 1) as (λ b. nat_eq type 1 ≡ b → P) [
      | true ↦ (λ e. one (let q : nat_eq type 1 ≡ true = e in grind (arith, nat_tests)))
      | false ↦ (λ e. two (let q : nat_eq type 1 ≡ false = e in let g : (nat_eq type 1 || nat_eq type 2) ≡ true = h in
          let k : nat_eq type 2 ≡ true = sym (ap (λ b. b || nat_eq type 2) q) ∙ g in grind (arith, nat_tests)))
    ] refl

pub nested_tests : (place type : ℕ) (bytes : List ℕ) → is_nested type ≡ true → first_held (value_tests place type bytes) ≡ None
nested_tests place type bytes h = nested_cases type h (first_held (value_tests place type bytes) ≡ None) (nested_at place type bytes) (table_at place type bytes)
