-- The fold of commands, by places.
use Rattle.std.proofs.Common.{ℕ, zero, suc, ◌≡◌, ◌+◌, ◌<◌, Bool, true, false, cond, nat_lt, List, [], ◌∷◌, length, get_or, set, Option, Some, None, position, refl, sym, ap, ◌∙◌, arith, not, ⊎_elim}
use Rattle.std.proofs.lemmas.Bool.{cases_lt}
use Rattle.std.specs.List.{position_or_len}
use Rattle.std.specs.Option.{option_map}
use Rattle.std.proofs.lemmas.Bool.Decides.{nat_tests}
use Rattle.uci_tree.specs.Fold.{changed_at}

mapped : (b c : Bool) (u v : ℕ) → b ≡ c → u ≡ suc v → cond b (Some u) None ≡ option_map (λ k. suc k) (cond c (Some v) None)
mapped true true u v e w = ap Some w
mapped true false u v e w = absurd (let f : true ≡ false = e in cc)
mapped false true u v e w = absurd (let f : false ≡ true = e in cc)
mapped false false u v e w = refl

one_less : (a n : ℕ) → nat_lt (1 + a) (suc n) ≡ nat_lt a n
one_less a n = ⊎_elim
    (λ h. let x : nat_lt a n ≡ true = grind (arith, nat_tests) in let y : nat_lt (1 + a) (suc n) ≡ true = grind (arith, nat_tests) in y ∙ sym x)
    (λ h. let x : nat_lt a n ≡ false = grind (arith, nat_tests) in let y : nat_lt (1 + a) (suc n) ≡ false = grind (arith, nat_tests) in y ∙ sym x)
    (cases_lt a n)

at_front : (b : Bool) → b ≡ true → cond {A = Option ℕ} b (Some 0) None ≡ Some 0
at_front true e = refl
at_front false e = absurd (let f : false ≡ true = e in cc)

by_test : (b : Bool) (a n : ℕ) → cond {A = Option ℕ} (nat_lt (cond {A = ℕ} (not b) (1 + a) 0) (suc n)) (Some (cond {A = ℕ} (not b) (1 + a) 0)) None ≡ cond {A = Option ℕ} b (Some 0) (option_map (λ k. suc k) (cond (nat_lt a n) (Some a) None))
by_test true a n = let x : nat_lt 0 (suc n) ≡ true = grind (arith, nat_tests) in at_front (nat_lt 0 (suc n)) x
by_test false a n = mapped (nat_lt (1 + a) (suc n)) (nat_lt a n) (1 + a) a (one_less a n) (omega arith)

-- the first place in a list with one more in front
pub position-cons : {X : Type 0} (p : X → Bool) (x : X) (xs : List X) → position p (x ∷ xs) ≡ cond {A = Option ℕ} (p x) (Some 0) (option_map (λ k. suc k) (position p xs))
position-cons p x xs = by_test (p x) (position_or_len p xs) (length xs)

-- a write of what the item at a place becomes
changed_set : {X : Type 0} (place : ℕ) (change : X → X) (xs : List X) (d : X) → place < length xs → changed_at place change xs ≡ set xs place (change (get_or xs place d))
changed_set place change [] d h = absurd (omega (arith, h))
changed_set zero change (x ∷ xs) d h = refl
changed_set (suc place) change (x ∷ xs) d h = ap (λ (z : List _). x ∷ z) (changed_set place change xs d (omega arith))

pub write_changed : {X : Type 0} (place : ℕ) (change : X → X) (xs : List X) (x : X) → place < length xs → x ≡ get_or xs place x → set xs place (change x) ≡ changed_at place change xs
write_changed place change xs x h e = ap (λ z. set xs place (change z)) e ∙ sym (changed_set place change xs x h)
