-- The fields of an attribute, and of a head.
use Rattle.std.proofs.Common.{ℕ, ◌≡◌, ◌+◌, ◌^◌, ◌<◌, ◌≤◌, List, length, take, drop, arith, ap, subst, sym, ◌∙◌, nat_eq, true, false}
use Rattle.std.proofs.lemmas.List.{length-take, length-drop}
use Rattle.std.proofs.lemmas.Bool.Decides.{nat_tests}
use Rattle.std.specs.Int.{w8, from_be_bytes}
use Rattle.blob_codec.specs.Attribute.{padded, length_in, behind}
use Rattle.ubus_frames.specs.declared.field.Word.{Word}
use Rattle.ubus_frames.specs.Field.{IsWhole, data_in}
use Rattle.ubus_frames.specs.Found.{IsWord}
use Rattle.ubus_frames.specs.Frame.{blob_in, blob_length_in, version_in, fields_in}

pub padded_least : (n : ℕ) → n ≤ padded n
unfolding padded
padded_least n = omega arith

pub length_in_most : (bytes : List ℕ) → length_in bytes < 2 ^ 24
unfolding length_in
length_in_most bytes = omega arith

pub data_from : (bytes attribute value : List ℕ) (n : ℕ) → attribute ≡ take n bytes → value ≡ drop 4 attribute → n ≡ length_in bytes → value ≡ data_in bytes
unfolding data_in
data_from bytes attribute value n a f e = f ∙ (ap (drop 4) a ∙ ap (λ k. drop 4 (take k bytes)) e)

pub behind_from : (bytes rest : List ℕ) (n : ℕ) → rest ≡ drop n bytes → n ≡ padded (length_in bytes) → rest ≡ behind bytes
unfolding behind
behind_from bytes rest n f e = f ∙ ap (λ k. drop k bytes) e

pub length-behind : (bytes : List ℕ) → IsWhole bytes → length (behind bytes) + padded (length_in bytes) ≡ length bytes
unfolding behind
length-behind bytes w = let r : padded (length_in bytes) ≤ length bytes = w.room in simp (length-drop) (omega arith)

pub length-data_in : (bytes : List ℕ) → IsWhole bytes → length (data_in bytes) + 4 ≡ length_in bytes
unfolding data_in
length-data_in bytes w =
    let r : padded (length_in bytes) ≤ length bytes = w.room in
    let p : length_in bytes ≤ padded (length_in bytes) = padded_least (length_in bytes) in
    let n : 4 ≤ length_in bytes = w.least in
    simp (length-drop, length-take) (omega arith)

pub behind_shorter : (bytes rest : List ℕ) → IsWhole bytes → rest ≡ behind bytes → length rest < length bytes
behind_shorter bytes rest w e =
    let l : 4 ≤ length_in bytes = w.least in
    let f : length rest ≡ length (behind bytes) = ap length e in
    omega (arith, padded_least (length_in bytes), length-behind bytes w)

pub data_room : (at : ℕ) (bytes value : List ℕ) → IsWhole bytes → value ≡ data_in bytes → at + length bytes < 2 ^ 64 → at + 4 + length value < 2 ^ 64
data_room at bytes value w v h =
    let r : padded (length_in bytes) ≤ length bytes = w.room in
    let e : length value ≡ length (data_in bytes) = ap length v in
    omega (arith, padded_least (length_in bytes), length-data_in bytes w)

-- the blob's word, behind eight bytes
pub blob_word : (bytes blob : List ℕ) (word : Word) → blob ≡ drop 8 bytes → IsWord blob word → IsWord (blob_in bytes) word
unfolding blob_in
blob_word bytes blob word e w = subst (λ (b : List ℕ). IsWord b word) e w

pub blob_length_is : (bytes : List ℕ) (n : ℕ) → n ≡ length_in (blob_in bytes) → n ≡ blob_length_in bytes
unfolding blob_length_in
blob_length_is bytes n e = e

pub version_from : (bytes chunk : List ℕ) (n : ℕ) → chunk ≡ take 1 (drop 0 bytes) → n ≡ from_be_bytes w8 chunk → n ≡ version_in bytes
unfolding version_in
version_from bytes chunk n c e = e ∙ ap (from_be_bytes w8) c

-- the attributes of bytes that are one frame
pub fields_from : (bytes fields : List ℕ) → fields ≡ drop 12 bytes → 8 + blob_length_in bytes ≡ length bytes → (all : take (length bytes) bytes ≡ bytes) → fields ≡ fields_in bytes
unfolding fields_in
fields_from bytes fields f e all = f ∙ sym (ap (λ k. drop 12 (take k bytes)) e ∙ ap (drop 12) all)

-- the two answers of `is_empty`
pub is_none : (bytes : List ℕ) → nat_eq (length bytes) 0 ≡ true → length bytes ≡ 0
is_none bytes test = grind (arith, nat_tests)

pub is_some : (bytes : List ℕ) → nat_eq (length bytes) 0 ≡ false → 0 < length bytes
is_some bytes test = grind (arith, nat_tests)
