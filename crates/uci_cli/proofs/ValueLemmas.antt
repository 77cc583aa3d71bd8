-- How the items of a list follow one another.
use Rattle.std.proofs.Common.{ℕ, ◌≡◌, ◌≤◌, List, ◌∷◌, ◌++◌, length, take, ap, sym, ◌∙◌, append_assoc}
use Rattle.std.specs.List.{flat_map}
use Rattle.std.proofs.lemmas.List.{take_all}
use Rattle.uci_cli.specs.Values.{joined}

-- the first item, and behind it the others, each behind the text between them
pub joined_from : (written : List ℕ → List ℕ) (between first old mid new : List ℕ) (items others : List (List ℕ)) (count : ℕ) → items ≡ first ∷ others → mid ≡ old ++ written first
    → new ≡ mid ++ flat_map (λ other. between ++ written other) (take count others) → length others ≤ count → new ≡ old ++ joined between written items
joined_from written between first old mid new items others count is begun grown end =
    let rest : List ℕ = flat_map (λ other. between ++ written other) others in
    grown
    ∙ ap (λ (z : List (List ℕ)). mid ++ flat_map (λ other. between ++ written other) z) (take_all count others end)
    ∙ ap (λ (z : List ℕ). z ++ rest) begun
    ∙ append_assoc old (written first) rest
    ∙ ap (λ (z : List (List ℕ)). old ++ joined between written z) (sym is)
