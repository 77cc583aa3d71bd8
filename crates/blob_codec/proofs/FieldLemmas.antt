-- Bounds on the fields of an attribute.
use Rattle.std.proofs.Common.{ℕ, ◌≡◌, ◌+◌, ◌^◌, ◌<◌, ◌≤◌, List, length, take, drop, arith, ap, ◌∙◌}
use Rattle.std.proofs.lemmas.List.{length-take, length-drop}
use Rattle.blob_codec.specs.Attribute.{padded, type_in, length_in, name_length_in, named_in, name_in, value_place, value_in, behind, IsWhole}

pub padded_least : (n : ℕ) → n ≤ padded n
unfolding padded
padded_least n = omega arith

pub padded_most : (n : ℕ) → padded n < n + 4
unfolding padded
padded_most n = omega arith

pub length_in_most : (bytes : List ℕ) → length_in bytes < 2 ^ 24
unfolding length_in
length_in_most bytes = omega arith

pub type_in_most : (bytes : List ℕ) → type_in bytes < 128
unfolding type_in
type_in_most bytes = omega arith

pub value_place_least : (bytes : List ℕ) → name_length_in bytes + 7 ≤ value_place bytes
unfolding value_place
value_place_least bytes = omega (arith, padded_least (name_length_in bytes + 3))

pub value_place_eight : (bytes : List ℕ) → 8 ≤ value_place bytes
unfolding value_place padded
value_place_eight bytes = omega arith

pub length-behind : (bytes : List ℕ) → IsWhole bytes → length (behind bytes) + padded (length_in bytes) ≡ length bytes
unfolding behind
length-behind bytes w = let r : padded (length_in bytes) ≤ length bytes = w.room in simp (length-drop) (omega arith)

pub length-value_in : (bytes : List ℕ) → IsWhole bytes → length (value_in bytes) + value_place bytes ≡ length_in bytes
unfolding value_in
length-value_in bytes w =
    let r : padded (length_in bytes) ≤ length bytes = w.room in
    let p : length_in bytes ≤ padded (length_in bytes) = padded_least (length_in bytes) in
    let n : value_place bytes ≤ length_in bytes = w.name_room in
    simp (length-drop, length-take) (omega arith)

-- the parts that are cut out are the fields
pub value_place_from : (bytes : List ℕ) (n p : ℕ) → n ≡ name_length_in bytes → p ≡ padded (n + 3) → 4 + p ≡ value_place bytes
unfolding value_place
value_place_from bytes n p e f = ap (λ k. 4 + k) (f ∙ ap (λ k. padded (k + 3)) e)

pub named_from : (bytes tail named : List ℕ) (n : ℕ) → tail ≡ drop 6 bytes → named ≡ take (n + 1) tail → n ≡ name_length_in bytes → named ≡ named_in bytes
unfolding named_in
named_from bytes tail named n t f e = f ∙ (ap (λ k. take (k + 1) tail) e ∙ ap (take (name_length_in bytes + 1)) t)

pub name_from : (bytes tail name : List ℕ) (n : ℕ) → tail ≡ drop 6 bytes → name ≡ take n tail → n ≡ name_length_in bytes → name ≡ name_in bytes
unfolding name_in
name_from bytes tail name n t f e = f ∙ (ap (λ k. take k tail) e ∙ ap (take (name_length_in bytes)) t)

pub value_from : (bytes attribute value : List ℕ) (n p : ℕ) → attribute ≡ take n bytes → value ≡ drop p attribute → n ≡ length_in bytes → p ≡ value_place bytes → value ≡ value_in bytes
unfolding value_in
value_from bytes attribute value n p a f e g = f ∙ (ap (λ k. drop k attribute) g ∙ (ap (drop (value_place bytes)) a ∙ ap (λ k. drop (value_place bytes) (take k bytes)) e))

pub behind_from : (bytes rest : List ℕ) (n : ℕ) → rest ≡ drop n bytes → n ≡ padded (length_in bytes) → rest ≡ behind bytes
unfolding behind
behind_from bytes rest n f e = f ∙ ap (λ k. drop k bytes) e

-- what the fields of a whole attribute leave
pub value_within : (bytes : List ℕ) → IsWhole bytes → value_place bytes ≤ length bytes
value_within bytes w =
    let r : padded (length_in bytes) ≤ length bytes = w.room in
    let n : value_place bytes ≤ length_in bytes = w.name_room in
    omega (arith, padded_least (length_in bytes))

pub value_room : (at p : ℕ) (bytes value : List ℕ) → IsWhole bytes → value ≡ value_in bytes → p ≡ value_place bytes → at + length bytes < 2 ^ 64 → at + p + length value < 2 ^ 64
value_room at p bytes value w v q h =
    let r : padded (length_in bytes) ≤ length bytes = w.room in
    let e : length value ≡ length (value_in bytes) = ap length v in
    omega (arith, padded_least (length_in bytes), length-value_in bytes w)

pub behind_shorter : (bytes rest : List ℕ) → IsWhole bytes → rest ≡ behind bytes → length rest < length bytes
behind_shorter bytes rest w e =
    let l : 4 ≤ length_in bytes = w.least in
    let f : length rest ≡ length (behind bytes) = ap length e in
    omega (arith, padded_least (length_in bytes), length-behind bytes w)
