-- The fault of a blob stands within its bytes.
use Rattle.std.proofs.Common.{ℕ, ◌≡◌, ◌≢◌, ◌+◌, ◌^◌, ◌<◌, ◌≤◌, Bool, true, false, nat_eq, nat_lt, List, [], ◌∷◌, length, Some, None, arith, ap, refl, sym, ◌∙◌}
use Rattle.std.proofs.lemmas.List.{length-take, length-drop}
use Rattle.blob_codec.specs.declared.blob.TheConstants.{MOST_LEVELS}
use Rattle.blob_codec.specs.declared.blob_error.BlobError.{BlobError}
use Rattle.blob_codec.specs.declared.blob_error.BlobError.TheVariants.{Short, BadLength, BadType, Double, NoNul, Deep, Memory}
use Rattle.blob_codec.specs.Attribute.{IsWhole, padded, type_in, length_in, value_place, value_in, behind}
use Rattle.blob_codec.specs.Fault.{Test, IsFirstFault, IsBlobFault, front, deep, inside, later, first_held, tests_of, value_tests, is_cut, is_unknown, is_misnamed, is_missized, is_unended}
use Rattle.blob_codec.proofs.TestLemmas.{after_cut, after_small, after_unknown, after_double, after_size}
use Rattle.ubus_frames.specs.Fault.{place_of}
use Rattle.ubus_frames.proofs.FieldLemmas.{padded_least}

held_step : (b : Bool) (fault : BlobError) (tests : List Test) (e : BlobError) (n : ℕ) → place_of fault ≡ n → (first_held tests ≡ Some e → place_of e ≡ n)
    → first_held (record { holds = b; fault = fault } ∷ tests) ≡ Some e → place_of e ≡ n
held_step true fault tests e n p q h = let s : Some fault ≡ Some e = h in let f : fault ≡ e = cc s in sym (ap place_of f) ∙ p
held_step false fault tests e n p q h = q h

no_test : (e : BlobError) (n : ℕ) → first_held [] ≡ Some e → place_of e ≡ n
no_test e n h = absurd (let s : None ≡ Some e = h in cc)

tests_place : (place : ℕ) (bytes : List ℕ) (e : BlobError) → first_held (tests_of place bytes) ≡ Some e → place_of e ≡ place
tests_place place bytes e =
    held_step (is_cut bytes) (Short place) (after_cut place bytes) e place refl
    (held_step (nat_lt (length_in bytes) 4) (BadLength place) (after_small place bytes) e place refl
    (held_step (is_unknown bytes) (BadType place) (after_unknown place bytes) e place refl
    (held_step (nat_eq (type_in bytes) 8) (Double place) (after_double place bytes) e place refl
    (held_step (is_misnamed bytes) (BadLength place) (value_tests place (type_in bytes) (value_in bytes)) e place refl
    (held_step (is_missized (type_in bytes) (length (value_in bytes))) (BadLength place) (after_size place (type_in bytes) (value_in bytes)) e place refl
    (held_step (is_unended (type_in bytes) (value_in bytes)) (NoNul place) [] e place refl (no_test e place)))))))

length-value_in : (bytes : List ℕ) → IsWhole bytes → length (value_in bytes) + value_place bytes ≡ length_in bytes
unfolding value_in
length-value_in bytes w =
    let r : padded (length_in bytes) ≤ length bytes = w.room in
    let p : length_in bytes ≤ padded (length_in bytes) = padded_least (length_in bytes) in
    let n : value_place bytes ≤ length_in bytes = w.name_room in
    simp (length-drop, length-take) (omega arith)

length-behind_blob : (bytes : List ℕ) → IsWhole bytes → length (behind bytes) + padded (length_in bytes) ≡ length bytes
unfolding behind
length-behind_blob bytes w = let r : padded (length_in bytes) ≤ length bytes = w.room in simp (length-drop) (omega arith)

pub fault_within : (levels place : ℕ) (bytes : List ℕ) (e : BlobError) → IsFirstFault levels place bytes e → place_of e ≤ place + length bytes
fault_within levels place bytes e (front _ _ _ _ p h) = let q : place_of e ≡ place = tests_place place bytes e h in omega arith
fault_within levels place bytes e (deep _ _ _ _ w n z h) = let q : place_of e ≡ place = ap place_of h in omega arith
fault_within levels place bytes e (inside _ f _ _ _ w n z h) =
    let i : place_of e ≤ place + value_place bytes + length (value_in bytes) = fault_within f (place + value_place bytes) (value_in bytes) e h in
    let r : padded (length_in bytes) ≤ length bytes = w.room in
    omega (arith, length-value_in bytes w, padded_least (length_in bytes))
fault_within levels place bytes e (later _ _ _ _ v w s h) =
    let i : place_of e ≤ place + padded (length_in bytes) + length (behind bytes) = fault_within levels (place + padded (length_in bytes)) (behind bytes) e h in
    omega (arith, length-behind_blob bytes w)

within : (place : ℕ) (bytes : List ℕ) (e : BlobError) → place + length bytes < 2 ^ 64 → IsBlobFault bytes e → place + place_of e < 2 ^ 64
within place bytes e r f = let i : place_of e ≤ 0 + length bytes = fault_within MOST_LEVELS 0 bytes e f in omega arith

pub moved_room : (place : ℕ) (bytes : List ℕ) (e : BlobError) → place + length bytes < 2 ^ 64 → (e ≢ Memory → IsBlobFault bytes e) → place + place_of e < 2 ^ 64
moved_room place bytes (Short at) r h = within place bytes (Short at) r (h (λ m. absurd (let q : Short at ≡ Memory = m in cc)))
moved_room place bytes (BadLength at) r h = within place bytes (BadLength at) r (h (λ m. absurd (let q : BadLength at ≡ Memory = m in cc)))
moved_room place bytes (BadType at) r h = within place bytes (BadType at) r (h (λ m. absurd (let q : BadType at ≡ Memory = m in cc)))
moved_room place bytes (Double at) r h = within place bytes (Double at) r (h (λ m. absurd (let q : Double at ≡ Memory = m in cc)))
moved_room place bytes (NoNul at) r h = within place bytes (NoNul at) r (h (λ m. absurd (let q : NoNul at ≡ Memory = m in cc)))
moved_room place bytes (Deep at) r h = within place bytes (Deep at) r (h (λ m. absurd (let q : Deep at ≡ Memory = m in cc)))
moved_room place bytes Memory r h = omega arith
