-- The sections of one number more.
use Rattle.std.proofs.Common.{arith, ℕ, zero, suc, ◌≡◌, ◌+◌, List, [], ◌∷◌, ◌++◌, refl, ap, sym, subst, ◌∙◌, append-nil, append_assoc}
use Rattle.std.specs.List.{flat_map}
use Rattle.uci_tree.specs.declared.package.Section.{Section}
use Rattle.net_gen.specs.declared.packages.Standing.{Standing}
use Rattle.net_gen.specs.Packages.{up_to, sections_of, sections}

flat_more : {X Y : Type 0} (f : X → List Y) → (xs : List X) (x : X)
    → flat_map f (xs ++ x ∷ []) ≡ flat_map f xs ++ f x
flat_more f [] x = append-nil (f x)
flat_more f (y ∷ ys) x =
    ap (λ zs. f y ++ zs) (flat_more f ys x) ∙ sym (append_assoc (f y) (flat_map f ys) (f x))

next_suc : (n : ℕ) → suc n ≡ n + 1
next_suc n = omega arith

pub sections_more : (which : Standing) (n : ℕ)
    → sections which (n + 1) ≡ sections which n ++ sections_of which (n + 1)
sections_more which n =
    subst (λ m. sections which m ≡ sections which n ++ sections_of which m) (next_suc n)
    (flat_more (sections_of which) (up_to n) (suc n))
