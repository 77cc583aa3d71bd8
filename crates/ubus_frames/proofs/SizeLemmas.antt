-- Which parts have room in a frame, and how many bytes they take.
use Rattle.std.proofs.Common.{ℕ, ◌≡◌, ◌+◌, ◌-◌, ◌*◌, ◌^◌, ◌<◌, ◌≤◌, min, Bool, true, false, List, [], ◌∷◌, length, Option, Some, None, MatchOption, arith, refl, sym, ap, subst, ◌∙◌, length-append}
use Rattle.blob_codec.specs.Attribute.{padded}
use Rattle.ubus_frames.specs.declared.frame.TheConstants.{MOST_BLOB}
use Rattle.ubus_frames.specs.Sizes.{FitsPart, HasSize, size_where}
use Rattle.ubus_frames.specs.Written.{IfThere, number_bytes, numbers_bytes, text_bytes, truth_bytes}
use Rattle.ubus_frames.proofs.WriteLemmas.{length-numbers}

pub field_most : (size : ℕ) → size ≤ MOST_BLOB - 4 → padded (4 + size) ≤ MOST_BLOB
unfolding padded
field_most size h = omega arith

padded_rises : (n m : ℕ) → n ≤ m → padded n ≤ padded m
unfolding padded
padded_rises n m h = omega arith

padded_least : (n : ℕ) → n ≤ padded n
unfolding padded
padded_least n = omega arith

four : padded 8 ≡ 8
unfolding padded
four = refl

one : padded 5 ≡ 8
unfolding padded
one = refl

pub number_eight : (number : Option ℕ) (n : ℕ) → number ≡ Some n → 8 ≡ size_where number_bytes number
number_eight number n e = sym (ap (size_where number_bytes) e ∙ four)

truth_size : (b : Bool) → size_where truth_bytes (Some b) ≡ 8
truth_size true = one
truth_size false = one

pub truth_eight : (truth : Option Bool) (b : Bool) → truth ≡ Some b → 8 ≡ size_where truth_bytes truth
truth_eight truth b e = sym (ap (size_where truth_bytes) e ∙ truth_size b)

there_is : {T : Type 0} (P : T → Type 0) (part : Option T) (value : T) → part ≡ Some value → P value → IfThere P part
there_is P part value e h = subst (IfThere P) (sym e) h

pub part_sized : {T : Type 0} (P : T → Type 0) (bytes_of : T → List ℕ) (part : Option T) (value : T) (n l : ℕ) (r : Option ℕ) → part ≡ Some value → P value
    → l ≡ length (bytes_of value) → n ≡ min l (2 ^ 64 - 1) → MatchOption r (MOST_BLOB < padded (4 + n)) (λ w. (w ≡ padded (4 + n)) × (w ≤ MOST_BLOB))
    → MatchOption r (FitsPart P bytes_of part → ⊥) (λ w. HasSize P bytes_of part w)
part_sized P bytes_of part value n l None p h e m g = λ fit.
    let s : size_where bytes_of part ≡ padded (4 + length (bytes_of value)) = ap (size_where bytes_of) p in
    let k : size_where bytes_of part ≤ MOST_BLOB = fit.size in
    let big : MOST_BLOB < padded (4 + n) = g in
    let q : 4 + n ≤ 4 + length (bytes_of value) = omega arith in
    absurd (omega (arith, padded_rises (4 + n) (4 + length (bytes_of value)) q))
part_sized P bytes_of part value n l (Some w) p h e m g =
    let v : w ≡ padded (4 + n) = g.0 in
    let k : w ≤ MOST_BLOB = g.1 in
    let q : n ≡ length (bytes_of value) = omega (arith, padded_least (4 + n)) in
    record { there = there_is P part value p h; size_is = v ∙ (ap (λ i. padded (4 + i)) q ∙ sym (ap (size_where bytes_of) p)); most = k }

pub text_length : (text : List ℕ) → length text + 1 ≡ length (text_bytes text)
text_length text = sym (length-append text (0 ∷ []))

pub numbers_length : (numbers : List ℕ) (n : ℕ) → n ≡ length numbers → n * 8 ≡ length (numbers_bytes numbers)
numbers_length numbers n e = let l : length (numbers_bytes numbers) ≡ 8 * length numbers = length-numbers numbers in omega arith
