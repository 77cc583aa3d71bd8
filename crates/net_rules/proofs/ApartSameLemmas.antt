-- Lists whose members are treated alike.
use Rattle.std.proofs.Common.{◌≡◌, ℕ, List, [], ◌∷◌, ◌++◌, Bool, true, false, cond, Contains, Option, Some, None, refl, ap, sym, ◌∙◌}
use Rattle.std.specs.Prelude.{filter}
use Rattle.std.specs.List.{flat_map}
use Rattle.kern_model.proofs.MemberLemmas.{here, there}

-- functions that agree on the members
pub join_same : {X Y : Type 0} (f g : X → List Y) → (xs : List X) → ((x : X) → Contains xs x → f x ≡ g x) → flat_map f xs ≡ flat_map g xs
join_same f g [] same = refl
join_same f g (x ∷ xs) same = ap (λ ys. ys ++ flat_map f xs) (same x (here x xs)) ∙ ap (λ ys. g x ++ ys) (join_same f g xs (λ y h. same y (there x xs y h)))

-- a choice by tests that agree, of values that agree
pub if_same : {X : Type 0} (b c : Bool) (x y : X) → b ≡ c → cond b x y ≡ cond c x y
if_same b c x y same = ap (λ d. cond d x y) same
