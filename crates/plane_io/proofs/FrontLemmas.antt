-- What a front of a list leaves.
use Rattle.std.proofs.Common.{ℕ, ◌≡◌, ◌≤◌, ◌+◌, List, ◌++◌, length, take, drop, sym, ap, ◌∙◌}
use Rattle.std.proofs.lemmas.List.{take_at, drop-drop, take-append-drop, length-take-le}

-- behind a copy of a front, the rest goes on
pub front_and_rest : (items copied behind : List ℕ) (at count : ℕ) → copied ≡ take count (drop at items) → count ≤ length (drop at items) → drop at items ≡ take count (copied ++ behind) ++ drop (at + count) items
front_and_rest items copied behind at count is fits =
    let copied_is : take count (copied ++ behind) ≡ take count (drop at items) = take_at copied behind count (ap length is ∙ length-take-le count (drop at items) fits) ∙ is in
    sym (ap (λ x. x ++ drop (at + count) items) copied_is ∙ ap (λ y. take count (drop at items) ++ y) (sym (drop-drop count at items)) ∙ take-append-drop count (drop at items))
