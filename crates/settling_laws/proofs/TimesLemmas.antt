-- How often something passes a test.
use Rattle.std.proofs.Common.{arith, ◌≡◌, ◌<◌, inl, inr, List, [], ◌∷◌, filter, length, Contains, Bool, true, false, cond, refl, subst}
use Rattle.kern_model.proofs.MemberLemmas.{here, there, first_or_later, none_in_nil}
use Rattle.kern_model.proofs.TestLemmas.{Passes}

some_by : {X : Type 0} (p : X → Bool) (y : X) (ys : List X) (x : X) (b : Bool) → p y ≡ b → (Contains ys x → 0 < length (filter p ys)) → p x ≡ true → Contains (y ∷ ys) x → 0 < length (cond b (y ∷ filter p ys) (filter p ys))
some_by p y ys x true is rest passes h = omega arith
some_by p y ys x false is rest passes h = elim (first_or_later y ys x h) as (λ _. 0 < length (filter p ys)) [
  | inl same ↦ let off : p x ≡ false = subst (λ z. p z ≡ false) same is in cc (passes, off)
  | inr later ↦ rest later
]

-- a member that passes is counted
pub some_counted : {X : Type 0} (p : X → Bool) (xs : List X) (x : X) → Contains xs x → p x ≡ true → 0 < length (filter p xs)
some_counted p [] x h passes = absurd (none_in_nil x h)
some_counted p (y ∷ ys) x h passes = some_by p y ys x (p y) refl (λ later. some_counted p ys x later passes) passes h

counted_by : {X : Type 0} (p : X → Bool) (y : X) (ys : List X) (b : Bool) → p y ≡ b → (0 < length (filter p ys) → Passes p ys) → 0 < length (cond b (y ∷ filter p ys) (filter p ys)) → Passes p (y ∷ ys)
counted_by p y ys true is rest more = record { passing = y; member = here y ys; passes = is }
counted_by p y ys false is rest more = let found = rest more in record { passing = found.passing; member = there y ys found.passing found.member; passes = found.passes }

-- and where something is counted a member passes
pub counted_some : {X : Type 0} (p : X → Bool) (xs : List X) → 0 < length (filter p xs) → Passes p xs
counted_some p [] more = absurd (omega (arith, more))
counted_some p (y ∷ ys) more = counted_by p y ys (p y) refl (counted_some p ys) more

none_by : {X : Type 0} (p : X → Bool) (y : X) (ys : List X) (b : Bool) → p y ≡ b → p y ≡ false → length (filter p ys) ≡ 0 → length (cond b (y ∷ filter p ys) (filter p ys)) ≡ 0
none_by p y ys true is off rest = cc (is, off)
none_by p y ys false is off rest = rest

pub none_counted : {X : Type 0} (p : X → Bool) (xs : List X) → ((x : X) → Contains xs x → p x ≡ false) → length (filter p xs) ≡ 0
none_counted p [] none = refl
none_counted p (y ∷ ys) none = none_by p y ys (p y) refl (none y (here y ys)) (none_counted p ys (λ x h. none x (there y ys x h)))
