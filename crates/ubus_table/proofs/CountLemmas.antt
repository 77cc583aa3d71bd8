-- Counts of what passes a test.
use Rattle.std.proofs.Common.{arith, ◌≡◌, ◌+◌, ◌≤◌, ℕ, List, [], ◌∷◌, ◌++◌, Bool, true, false, refl}
use Rattle.std.specs.Prelude.{Option, Some, None, if◌then◌else◌, ◌&&◌, filter, not}
use Rattle.std.specs.List.{find, list_any}
use Rattle.ubus_table.specs.Calls.{without_first}
use Rattle.ubus_table.specs.Table.{Call}
use Rattle.ubus_table.specs.Run.{count_of}

abbrev pub bit : Bool → ℕ
bit b = if b then 1 else 0

pub at_most_one : (b : Bool) → bit b ≤ 1
at_most_one true = omega arith
at_most_one false = omega arith

pub bit_zero : (b : Bool) → bit b ≡ 0 → b ≡ false
bit_zero true h = absurd (omega (arith, h))
bit_zero false h = refl

pub count_append : {X : Type 0} (q : X → Bool) (xs ys : List X) → count_of q (xs ++ ys) ≡ count_of q xs + count_of q ys
count_append q [] ys = omega arith
count_append q (x ∷ xs) ys = let h = count_append q xs ys in omega (arith, h)

pub count_split : {X : Type 0} (p q : X → Bool) (xs : List X) → count_of q (filter p xs) + count_of q (filter (λ x. not (p x)) xs) ≡ count_of q xs
count_split p q [] = omega arith
count_split p q (x ∷ xs) = let h = count_split p q xs in
    elim (p x) as (λ b. count_of q (if b then x ∷ filter p xs else filter p xs) + count_of q (if not b then x ∷ filter (λ x. not (p x)) xs else filter (λ x. not (p x)) xs) ≡ bit (q x) + count_of q xs) [
      | true ↦ omega (arith, h)
      | false ↦ omega (arith, h)
    ]

pub none_left : {X : Type 0} (p : X → Bool) (xs : List X) → count_of p (filter (λ x. not (p x)) xs) ≡ 0
none_left p [] = omega arith
none_left p (x ∷ xs) = let h = none_left p xs in grind (arith, h)

pub count_first : (p q : Call → Bool) (xs : List Call) (call : Call) → find p xs ≡ Some call → bit (q call) + count_of q (without_first p xs) ≡ count_of q xs
count_first p q [] call h = grind arith
count_first p q (x ∷ xs) call h = let more = count_first p q xs call in grind (arith, more)

pub first_passes : {X : Type 0} (p : X → Bool) (xs : List X) (x : X) → find p xs ≡ Some x → p x ≡ true
first_passes p [] x h = grind arith
first_passes p (y ∷ xs) x h = let more = first_passes p xs x in grind (arith, more)

pub none_passes : (p : Call → Bool) (xs : List Call) → find p xs ≡ None → count_of p xs ≡ 0
none_passes p [] h = omega arith
none_passes p (x ∷ xs) h = let more = none_passes p xs in grind (arith, more)

pub not_any : (p : Call → Bool) (xs : List Call) → list_any p xs ≡ false → count_of p xs ≡ 0
not_any p [] h = omega arith
not_any p (x ∷ xs) h = let more = not_any p xs in grind (arith, more)

pub some_any : (p : Call → Bool) (xs : List Call) → list_any p xs ≡ true → 1 ≤ count_of p xs
some_any p [] h = grind (arith, h)
some_any p (x ∷ xs) h = let more = some_any p xs in grind (arith, more)

pub count_under : {X : Type 0} (p q r : X → Bool) (each : (x : X) → bit (p x) ≤ bit (q x) + bit (r x)) (xs : List X) → count_of p xs ≤ count_of q xs + count_of r xs
count_under p q r each [] = omega arith
count_under p q r each (x ∷ xs) = let h = count_under p q r each xs in omega (arith, h, each x)

pub count_both : {X : Type 0} (q p : X → Bool) (xs : List X) → count_of q (filter p xs) ≡ count_of (λ x. q x && p x) xs
count_both q p [] = refl
count_both q p (x ∷ xs) = let h = count_both q p xs in grind (arith, h)

pub count_none : {X : Type 0} (p q : X → Bool) (each : (x : X) → bit (p x) ≤ bit (q x) + 0) (xs : List X) → count_of q xs ≡ 0 → count_of p xs ≡ 0
count_none p q each [] zero = refl
count_none p q each (x ∷ xs) zero = let h = count_none p q each xs (omega (arith, zero)) in let e = each x in omega (arith, h, e, zero)

pub count_same : (p q : Call → Bool) (each : (x : Call) → p x ≡ q x) (xs : List Call) → count_of p xs ≡ count_of q xs
count_same p q each [] = refl
count_same p q each (x ∷ xs) = let h = count_same p q each xs in let e = each x in rw e omega (arith, h)
