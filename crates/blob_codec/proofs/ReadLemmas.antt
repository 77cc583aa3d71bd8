-- What the reader has found so far.
use Rattle.std.proofs.Common.{ℕ, ◌≡◌, ◌+◌, ◌<◌, ◌≤◌, ◌^◌, List, [], ◌∷◌, ◌++◌, length, arith, refl, subst, append_assoc, append-nil, sym, ◌∙◌, Some, Result, Ok, Err, IfOk, IsTrue, nat_eq, true, false}
use Rattle.std.proofs.lemmas.Bool.Decides.{nat_tests}
use Rattle.blob_codec.specs.declared.blob.Blob.{Blob}
use Rattle.blob_codec.specs.declared.blob.Blob.TheVariants.{Array, Table}
use Rattle.blob_codec.specs.declared.blob.Attr.{Attr}
use Rattle.blob_codec.specs.declared.blob_error.BlobError.{BlobError}
use Rattle.blob_codec.specs.Attribute.{IsWhole, padded, type_in, length_in, name_in, value_in, value_place, behind}
use Rattle.blob_codec.specs.Blob.{Spells, SpellsValue, IsLeaf, none, attribute, leaf, nested, array, table}
use Rattle.blob_codec.specs.Fault.{IsFirstFault, front, deep, inside, later, first_held, tests_of, is_nested}
use Rattle.blob_codec.specs.Found.{SoFar, SpellsDeeper, IsInnerFault, too_deep, of_inner, IsValueFault, of_tests, of_nested}
use Rattle.blob_codec.proofs.FieldLemmas.{length-behind}
use Rattle.blob_codec.proofs.TestLemmas.{whole_tests}

pub starts : (levels place : ℕ) (bytes : List ℕ) → place + length bytes < 2 ^ 64 → SoFar levels place place bytes bytes []
starts levels place bytes r = record { room = r; sound = λ others s. s; bad = λ error f. f }

pub goes_on : (levels place at : ℕ) (bytes rest : List ℕ) (attrs : List Attr) (value : Blob) → SoFar levels place at bytes rest attrs → IsWhole rest
    → SpellsValue levels (type_in rest) (value_in rest) value
    → SoFar levels place (at + padded (length_in rest)) bytes (behind rest) (attrs ++ record { name = name_in rest; value = value } ∷ [])
goes_on levels place at bytes rest attrs value so w s = record {
  room = let r : at + length rest < 2 ^ 64 = so.room in let b : length (behind rest) + padded (length_in rest) ≡ length rest = length-behind rest w in omega arith;
  sound = λ others t. subst (λ (xs : List Attr). Spells levels bytes xs) (sym (append_assoc attrs (record { name = name_in rest; value = value } ∷ []) others))
      (so.sound (record { name = name_in rest; value = value } ∷ others) (attribute levels rest value others _ w s t refl));
  bad = λ error f. so.bad error (later levels at rest error value w s f);
}

pub ends : (levels place at : ℕ) (bytes rest : List ℕ) (attrs : List Attr) → SoFar levels place at bytes rest attrs → length rest ≡ 0 → Spells levels bytes attrs
ends levels place at bytes rest attrs so n =
    subst (λ (xs : List Attr). Spells levels bytes xs) (append-nil attrs) (so.sound [] (none levels rest [] n refl))

-- the fault of the attribute in front of the rest
pub refused_in_front : (levels place at : ℕ) (bytes rest : List ℕ) (attrs : List Attr) (error : BlobError) → SoFar levels place at bytes rest attrs → 0 < length rest
    → first_held (tests_of at rest) ≡ Some error → IsFirstFault levels place bytes error
refused_in_front levels place at bytes rest attrs error so h g = so.bad error (front levels at rest error h g)

inner_refused : (levels at : ℕ) (rest : List ℕ) (error : BlobError) → IsWhole rest → IsTrue (is_nested (type_in rest))
    → IsInnerFault levels at (at + value_place rest) (value_in rest) error → IsFirstFault levels at rest error
inner_refused levels at rest error w n (too_deep z e) = deep levels at rest error w n z e
inner_refused levels at rest error w n (of_inner fewer l f) = inside levels fewer at rest error w n l f

value_fault : (levels at : ℕ) (rest : List ℕ) (error : BlobError) → IsWhole rest
    → IsValueFault levels at (at + value_place rest) (type_in rest) (value_in rest) error → IsFirstFault levels at rest error
value_fault levels at rest error w (of_tests h) =
    let k : 4 ≤ length rest = w.word in front levels at rest error (omega arith) (whole_tests at rest w ∙ h)
value_fault levels at rest error w (of_nested n f) = inner_refused levels at rest error w n f

pub value_refused : (levels place at type p : ℕ) (bytes rest value : List ℕ) (attrs : List Attr) (error : BlobError) → SoFar levels place at bytes rest attrs
    → IsWhole rest → type ≡ type_in rest → value ≡ value_in rest → p ≡ value_place rest
    → IsValueFault levels at (at + p) type value error → IsFirstFault levels place bytes error
value_refused levels place at type p bytes rest value attrs error so w t v q f =
    let g : IsValueFault levels at (at + value_place rest) (type_in rest) (value_in rest) error = rw (sym t, sym v, sym q) f in
    so.bad error (value_fault levels at rest error w g)

pub more : (levels place at type size : ℕ) (bytes rest value name after : List ℕ) (attrs pushed : List Attr) (blob : Blob) → SoFar levels place at bytes rest attrs
    → IsWhole rest → type ≡ type_in rest → value ≡ value_in rest → name ≡ name_in rest → size ≡ padded (length_in rest) → after ≡ behind rest
    → SpellsValue levels type value blob → pushed ≡ attrs ++ record { name = name; value = blob } ∷ []
    → SoFar levels place (at + size) bytes after pushed
more levels place at type size bytes rest value name after attrs pushed blob so w t v n z b s p =
    let g : SpellsValue levels (type_in rest) (value_in rest) blob = rw (sym t, sym v) s in
    rw (z, b, p, n) (goes_on levels place at bytes rest attrs blob so w g)

pub leaf_found : (levels type : ℕ) (bytes : List ℕ) (r : Result Blob BlobError) → IfOk r (λ value. IsLeaf type bytes value) → IfOk r (λ value. SpellsValue levels type bytes value)
leaf_found levels type bytes (Ok value) l = leaf levels type bytes value l
leaf_found levels type bytes (Err error) l = tt

pub array_found : (levels type : ℕ) (bytes : List ℕ) (attrs : List Attr) → type ≡ 1 → SpellsDeeper levels bytes attrs → SpellsValue levels type bytes (Array attrs)
array_found levels type bytes attrs t d = nested levels d.fewer type bytes attrs (Array attrs) d.level d.spelled (array t refl)

pub table_found : (levels type : ℕ) (bytes : List ℕ) (attrs : List Attr) → type ≡ 2 → SpellsDeeper levels bytes attrs → SpellsValue levels type bytes (Table attrs)
table_found levels type bytes attrs t d = nested levels d.fewer type bytes attrs (Table attrs) d.level d.spelled (table t refl)

-- the two answers of `is_empty`
pub is_none : (bytes : List ℕ) → nat_eq (length bytes) 0 ≡ true → length bytes ≡ 0
is_none bytes test = grind (arith, nat_tests)

pub is_some : (bytes : List ℕ) → nat_eq (length bytes) 0 ≡ false → 0 < length bytes
is_some bytes test = grind (arith, nat_tests)
