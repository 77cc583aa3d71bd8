-- Bytes have a reading or a first fault.
use Rattle.std.proofs.Common.{ℕ, zero, suc, ◌≡◌, ◌+◌, ◌<◌, ◌≤◌, ◌⊎◌, inl, inr, Bool, true, false, not, List, [], ◌∷◌, length, Option, Some, None, nat_eq, nat_lt, arith, ap, ◌∙◌, sym, refl}
use Rattle.std.specs.Prelude.{◌||◌}
use Rattle.std.specs.Int.{w8, w16, w32, w64, from_be_bytes, cast_signed}
use Rattle.std.proofs.lemmas.Bool.Decides.{nat_tests}
use Rattle.blob_codec.specs.declared.blob.Blob.{Blob}
use Rattle.blob_codec.specs.declared.blob.Blob.TheVariants.{Unspec, Array, Table, Str, I64, I32, I16, I8}
use Rattle.blob_codec.specs.declared.blob.Attr.{Attr}
use Rattle.blob_codec.specs.declared.blob_error.BlobError.{BlobError}
use Rattle.blob_codec.specs.declared.blob_error.BlobError.TheVariants.{Short, BadLength, BadType, Double, NoNul, Deep}
use Rattle.blob_codec.specs.Attribute.{IsWhole, is_terminated, without_last, padded, flag_in, type_in, length_in, named_in, name_in, value_place, value_in, behind}
use Rattle.blob_codec.specs.Blob.{IsLeaf, IsNested, nothing, string, int64, int32, int16, int8, array, table, Spells, SpellsValue, none, attribute, leaf, nested}
use Rattle.blob_codec.specs.Fault.{Test, first_held, tests_of, value_tests, is_cut, is_unknown, is_misnamed, is_missized, is_unended, is_nested, IsFirstFault, front, deep, inside, later}
use Rattle.blob_codec.proofs.FieldLemmas.{padded_least, value_place_eight, length-value_in, behind_shorter}
use Rattle.blob_codec.proofs.TestLemmas.{after_cut, after_small, after_unknown, after_double, after_size, nested_cases}

lt_from_false : (a b : ℕ) → nat_lt a b ≡ false → b ≤ a
lt_from_false a b h = grind (arith, nat_tests)

eq_from_true : (a b : ℕ) → nat_eq a b ≡ true → a ≡ b
eq_from_true a b h = grind (arith, nat_tests)

eq_from_false : (a b : ℕ) → nat_eq a b ≡ false → a ≡ b → ⊥
eq_from_false a b h e = grind (arith, nat_tests)

left_false : (a b : Bool) → (a || b) ≡ false → a ≡ false
left_false true b h = h
left_false false b h = refl

right_false : (a b : Bool) → (a || b) ≡ false → b ≡ false
right_false true b h = absurd (let n : true ≡ false = h in cc)
right_false false b h = h

from_not_false : (a : Bool) → not a ≡ false → a ≡ true
from_not_false true h = refl
from_not_false false h = absurd (let n : true ≡ false = h in cc)

not_held : (holds : Bool) (fault : BlobError) (tests : List Test) → first_held (record { holds = holds; fault = fault } ∷ tests) ≡ None
    → (holds ≡ false) × (first_held tests ≡ None)
not_held true fault tests h = absurd (let n : Some fault ≡ None = h in cc)
not_held false fault tests h = (refl, h)

passes : (place : ℕ) (bytes : List ℕ) → first_held (tests_of place bytes) ≡ None
    → IsWhole bytes × (first_held (value_tests place (type_in bytes) (value_in bytes)) ≡ None)
passes place bytes h =
    let a = not_held (is_cut bytes) (Short place) (after_cut place bytes) h in
    let b = not_held (nat_lt (length_in bytes) 4) (BadLength place) (after_small place bytes) a.1 in
    let c = not_held (is_unknown bytes) (BadType place) (after_unknown place bytes) b.1 in
    let d = not_held (nat_eq (type_in bytes) 8) (Double place) (after_double place bytes) c.1 in
    let e = not_held (is_misnamed bytes) (BadLength place) (value_tests place (type_in bytes) (value_in bytes)) d.1 in
    let most : type_in bytes ≤ 8 = lt_from_false 8 (type_in bytes) (right_false (not (nat_eq (flag_in bytes) 1)) (nat_lt 8 (type_in bytes)) c.0) in
    let other : type_in bytes ≡ 8 → ⊥ = eq_from_false (type_in bytes) 8 d.0 in (
      record {
        word = lt_from_false (length bytes) 4 (left_false (nat_lt (length bytes) 4) (nat_lt (length bytes) (padded (length_in bytes))) a.0);
        room = lt_from_false (length bytes) (padded (length_in bytes)) (right_false (nat_lt (length bytes) 4) (nat_lt (length bytes) (padded (length_in bytes))) a.0);
        least = lt_from_false (length_in bytes) 4 b.0;
        flag = eq_from_true (flag_in bytes) 1 (from_not_false (nat_eq (flag_in bytes) 1) (left_false (not (nat_eq (flag_in bytes) 1)) (nat_lt 8 (type_in bytes)) c.0));
        type = omega arith;
        name_room = lt_from_false (length_in bytes) (value_place bytes) (left_false (nat_lt (length_in bytes) (value_place bytes)) (not (is_terminated (named_in bytes))) e.0);
        name_end = from_not_false (is_terminated (named_in bytes)) (right_false (nat_lt (length_in bytes) (value_place bytes)) (not (is_terminated (named_in bytes))) e.0);
      },
      e.1,
    )

by_eq : (t k : ℕ) (P : Type 0) → (t ≡ k → P) → ((t ≡ k → ⊥) → P) → P
by_eq t k P equal other =
    elim (nat_eq t k) as (λ b. nat_eq t k ≡ b → P)
    [ true ↦ (λ e. equal (eq_from_true t k e)) | false ↦ (λ e. other (eq_from_false t k e)) ] refl

sized : (t k size : ℕ) → is_missized t size ≡ false → t ≡ k → is_missized k size ≡ false
sized t k size h e = sym (ap (λ n. is_missized n size) e) ∙ h

size_at : (size wanted : ℕ) (others : Bool) → (not (nat_eq size wanted) || others) ≡ false → size ≡ wanted
size_at size wanted others h = eq_from_true size wanted (from_not_false (nat_eq size wanted) (left_false (not (nat_eq size wanted)) others h))

ended : (t : ℕ) (bytes : List ℕ) → is_unended t bytes ≡ false → t ≡ 3 → is_terminated bytes ≡ true
ended t bytes h e = let g : is_unended 3 bytes ≡ false = sym (ap (λ n. is_unended n bytes) e) ∙ h in from_not_false (is_terminated bytes) g

no_list : (t : ℕ) → is_nested t ≡ false → (t ≡ 1 → ⊥) × (t ≡ 2 → ⊥)
no_list t h =
    (eq_from_false t 1 (left_false (nat_eq t 1) (nat_eq t 2) h), eq_from_false t 2 (right_false (nat_eq t 1) (nat_eq t 2) h))

leaf_from : (place t : ℕ) (bytes : List ℕ) → t ≤ 7 → is_nested t ≡ false → first_held (value_tests place t bytes) ≡ None → (v : Blob) × IsLeaf t bytes v
leaf_from place t bytes most lists h =
    let P : Type 0 = (v : Blob) × IsLeaf t bytes v in
    let a = not_held (is_missized t (length bytes)) (BadLength place) (after_size place t bytes) h in
    let b = not_held (is_unended t bytes) (NoNul place) [] a.1 in
    let n = no_list t lists in
    let one : t ≡ 1 → ⊥ = n.0 in
    let two : t ≡ 2 → ⊥ = n.1 in
    by_eq t 0 P (λ e. (Unspec, nothing e (size_at _ _ _ (sized t 0 (length bytes) a.0 e)) refl)) (λ n0.
    by_eq t 3 P (λ e. (Str (without_last bytes), string e (ended t bytes b.0 e) refl)) (λ n3.
    by_eq t 4 P (λ e. (I64 (cast_signed w64 (from_be_bytes w64 bytes)), int64 e (size_at _ _ _ (sized t 4 (length bytes) a.0 e)) refl)) (λ n4.
    by_eq t 5 P (λ e. (I32 (cast_signed w32 (from_be_bytes w32 bytes)), int32 e (size_at _ _ _ (sized t 5 (length bytes) a.0 e)) refl)) (λ n5.
    by_eq t 6 P (λ e. (I16 (cast_signed w16 (from_be_bytes w16 bytes)), int16 e (size_at _ _ _ (sized t 6 (length bytes) a.0 e)) refl)) (λ n6.
    let z0 : t ≡ 0 → ⊥ = n0 in let z3 : t ≡ 3 → ⊥ = n3 in let z4 : t ≡ 4 → ⊥ = n4 in let z5 : t ≡ 5 → ⊥ = n5 in let z6 : t ≡ 6 → ⊥ = n6 in
    let seven : t ≡ 7 = omega arith in
    (I8 (cast_signed w8 (from_be_bytes w8 bytes)), int8 seven (eq_from_true (length bytes) 1 (from_not_false _ (sized t 7 (length bytes) a.0 seven))) refl))))))

abbrev pub HasReading : ℕ → List ℕ → Type 0
HasReading levels bytes = (attrs : List Attr) × Spells levels bytes attrs

abbrev pub HasFault : ℕ → ℕ → List ℕ → Type 0
HasFault levels place bytes = (error : BlobError) × IsFirstFault levels place bytes error

abbrev HasValue : ℕ → ℕ → List ℕ → Type 0
HasValue levels type bytes = (v : Blob) × SpellsValue levels type bytes v

list_value : (type : ℕ) → is_nested type ≡ true → (inner : List Attr) → (v : Blob) × IsNested type inner v
list_value type h inner =
    nested_cases type h ((v : Blob) × IsNested type inner v) (λ e. (Array inner, array e refl)) (λ e. (Table inner, table e refl))

from_inner : (levels fewer place : ℕ) (bytes : List ℕ) → levels ≡ suc fewer → IsWhole bytes → is_nested (type_in bytes) ≡ true
    → HasReading fewer (value_in bytes) ⊎ HasFault fewer (place + value_place bytes) (value_in bytes)
    → HasValue levels (type_in bytes) (value_in bytes) ⊎ HasFault levels place bytes
from_inner levels fewer place bytes l w n (inl r) =
    let v = list_value (type_in bytes) n r.0 in
    inl (v.0, nested levels fewer (type_in bytes) (value_in bytes) r.0 v.0 l r.1 v.1)
from_inner levels fewer place bytes l w n (inr f) = inr (f.0, inside levels fewer place bytes f.0 w n l f.1)

from_list : (levels place : ℕ) (bytes : List ℕ) → IsWhole bytes → is_nested (type_in bytes) ≡ true
    → ((fewer : ℕ) → HasReading fewer (value_in bytes) ⊎ HasFault fewer (place + value_place bytes) (value_in bytes))
    → HasValue levels (type_in bytes) (value_in bytes) ⊎ HasFault levels place bytes
from_list zero place bytes w n inner = inr (Deep place, deep zero place bytes (Deep place) w n refl refl)
from_list (suc fewer) place bytes w n inner = from_inner (suc fewer) fewer place bytes refl w n (inner fewer)

from_value : (levels place : ℕ) (bytes : List ℕ) (b : Bool) → is_nested (type_in bytes) ≡ b → IsWhole bytes
    → first_held (value_tests place (type_in bytes) (value_in bytes)) ≡ None
    → ((fewer : ℕ) → HasReading fewer (value_in bytes) ⊎ HasFault fewer (place + value_place bytes) (value_in bytes))
    → HasValue levels (type_in bytes) (value_in bytes) ⊎ HasFault levels place bytes
from_value levels place bytes true e w h inner = from_list levels place bytes w e inner
from_value levels place bytes false e w h inner =
    let v = leaf_from place (type_in bytes) (value_in bytes) w.type e h in
    inl (v.0, leaf levels (type_in bytes) (value_in bytes) v.0 v.1)

from_rest : (levels place : ℕ) (bytes : List ℕ) → IsWhole bytes → HasValue levels (type_in bytes) (value_in bytes)
    → HasReading levels (behind bytes) ⊎ HasFault levels (place + padded (length_in bytes)) (behind bytes)
    → HasReading levels bytes ⊎ HasFault levels place bytes
from_rest levels place bytes w v (inl r) =
    inl (record { name = name_in bytes; value = v.0 } ∷ r.0, attribute levels bytes v.0 r.0 (record { name = name_in bytes; value = v.0 } ∷ r.0) w v.1 r.1 refl)
from_rest levels place bytes w v (inr f) = inr (f.0, later levels place bytes f.0 v.0 w v.1 f.1)

from_both : (levels place : ℕ) (bytes : List ℕ) → IsWhole bytes → HasValue levels (type_in bytes) (value_in bytes) ⊎ HasFault levels place bytes
    → HasReading levels (behind bytes) ⊎ HasFault levels (place + padded (length_in bytes)) (behind bytes)
    → HasReading levels bytes ⊎ HasFault levels place bytes
from_both levels place bytes w (inl v) rest = from_rest levels place bytes w v rest
from_both levels place bytes w (inr f) rest = inr f

from_tests : (levels place : ℕ) (bytes : List ℕ) (o : Option BlobError) → first_held (tests_of place bytes) ≡ o → 0 < length bytes
    → (IsWhole bytes → (fewer : ℕ) → HasReading fewer (value_in bytes) ⊎ HasFault fewer (place + value_place bytes) (value_in bytes))
    → (IsWhole bytes → HasReading levels (behind bytes) ⊎ HasFault levels (place + padded (length_in bytes)) (behind bytes))
    → HasReading levels bytes ⊎ HasFault levels place bytes
from_tests levels place bytes (Some error) e p inner rest = inr (error, front levels place bytes error p e)
from_tests levels place bytes None e p inner rest =
    let w = passes place bytes e in
    from_both levels place bytes w.0 (from_value levels place bytes (is_nested (type_in bytes)) refl w.0 w.1 (inner w.0)) (rest w.0)

inner_shorter : (bytes : List ℕ) → IsWhole bytes → length (value_in bytes) < length bytes
inner_shorter bytes w =
    let r : padded (length_in bytes) ≤ length bytes = w.room in
    omega (arith, padded_least (length_in bytes), length-value_in bytes w, value_place_eight bytes)

pub total : (fuel levels place : ℕ) (bytes : List ℕ) → length bytes < fuel → HasReading levels bytes ⊎ HasFault levels place bytes
total zero levels place bytes h = absurd (omega arith)
total (suc fuel) levels place bytes h =
    by_eq (length bytes) 0 (HasReading levels bytes ⊎ HasFault levels place bytes)
    (λ e. inl ([], none levels bytes [] e refl))
    (λ n. let m : length bytes ≡ 0 → ⊥ = n in from_tests levels place bytes (first_held (tests_of place bytes)) refl (omega arith)
    (λ w fewer. let s : length (value_in bytes) < length bytes = inner_shorter bytes w in total fuel fewer (place + value_place bytes) (value_in bytes) (omega arith))
    (λ w. let s : length (behind bytes) < length bytes = behind_shorter bytes (behind bytes) w refl in total fuel levels (place + padded (length_in bytes)) (behind bytes) (omega arith)))
