-- A test of some or of all parts is that of the tests of the parts.
use Rattle.std.proofs.Common.{◌≡◌, ℕ, List, [], ◌∷◌, Bool, map, ap, sym, refl, rules, ◌∙◌, ◌||◌, ◌&&◌}
use Rattle.std.specs.List.{list_any, list_all}
use Rattle.uci_types.specs.declared.datatype.Datatype.{Datatype, the_lemmas}
use Rattle.uci_types.specs.declared.datatype.Datatype.TheOpen.{Datatype-F}
use Rattle.uci_types.specs.declared.datatype.Datatype.TheVariants.{Or, And}
use Rattle.uci_types.specs.Values.{set_step, in_set, in_some, in_all}

any_mapped : {X Y : Type 0} (p : Y → Bool) (f : X → Y) (xs : List X) → list_any (λ x. p (f x)) xs ≡ list_any p (map f xs)
any_mapped p f [] = refl
any_mapped p f (x ∷ xs) = ap (λ b. p (f x) || b) (any_mapped p f xs)

all_mapped : {X Y : Type 0} (p : Y → Bool) (f : X → Y) (xs : List X) → list_all (λ x. p (f x)) xs ≡ list_all p (map f xs)
all_mapped p f [] = refl
all_mapped p f (x ∷ xs) = ap (λ b. p (f x) && b) (all_mapped p f xs)

-- one level of the fold
set-Or : (parts : List Datatype) → in_set (Or parts) ≡ set_step (Datatype-F.Or (map in_set parts))
set-Or parts = search (rules, the_lemmas)

set-And : (parts : List Datatype) → in_set (And parts) ≡ set_step (Datatype-F.And (map in_set parts))
set-And parts = search (rules, the_lemmas)

pub in_or : (parts : List Datatype) (value : List ℕ) → in_some parts value ≡ in_set (Or parts) value
in_or parts value =
    any_mapped (λ (test : List ℕ → Bool). test value) in_set parts ∙ sym (ap (λ (test : List ℕ → Bool). test value) (set-Or parts))

pub in_and : (parts : List Datatype) (value : List ℕ) → in_all parts value ≡ in_set (And parts) value
in_and parts value =
    all_mapped (λ (test : List ℕ → Bool). test value) in_set parts ∙ sym (ap (λ (test : List ℕ → Bool). test value) (set-And parts))
