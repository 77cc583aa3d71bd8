-- The pairs of a hardware address, one behind the other.
use Rattle.std.proofs.Common.{arith, ℕ, ◌≡◌, ◌+◌, ◌-◌, ◌<◌, ◌≤◌, List, [], ◌∷◌, ◌++◌, length, get_or, take, drop, flat_map, codes, sym, ap, ◌∙◌, append_assoc}
use Rattle.std.proofs.lemmas.List.{take_all, take_more, flat_map_more}
use Rattle.net_addr.proofs.GroupLemmas.{take_rest}
use Rattle.kern_model.specs.Line.{hex_pair, pairs_text}

-- a pair behind its colon
abbrev pub after_colon : ℕ → List ℕ
after_colon b = codes ":" ++ hex_pair b

more_pairs : (xs : List ℕ) (i : ℕ) → i < length xs → flat_map after_colon (take i xs) ++ after_colon (get_or xs i 0) ≡ flat_map after_colon (take (i + 1) xs)
more_pairs xs i h = flat_map_more after_colon [] (take i xs) (get_or xs i 0) ∙ sym (ap (flat_map after_colon) (take_more xs i 0 h))

pub one_more_pair : (start before with_colon after pair xs : List ℕ) (i : ℕ) → before ≡ start ++ flat_map after_colon (take i xs) → with_colon ≡ before ++ 58 ∷ [] → after ≡ with_colon ++ pair → pair ≡ hex_pair (get_or xs i 0)
    → i < length xs → after ≡ start ++ flat_map after_colon (take (i + 1) xs)
one_more_pair start before with_colon after pair xs i so_far colon digits is inside =
    let so_far_pairs = flat_map after_colon (take i xs) in
    digits ∙ ap (λ (z : List ℕ). z ++ pair) (colon ∙ ap (λ (z : List ℕ). z ++ 58 ∷ []) so_far)
    ∙ append_assoc (start ++ so_far_pairs) (58 ∷ []) pair
    ∙ append_assoc start so_far_pairs (58 ∷ pair)
    ∙ ap (λ (z : List ℕ). start ++ (so_far_pairs ++ 58 ∷ z)) is
    ∙ ap (λ (z : List ℕ). start ++ z) (more_pairs xs i inside)

pub all_pairs : (start before after first xs : List ℕ) (i : ℕ) → after ≡ before ++ flat_map after_colon (take i (take (length xs - 1) (drop 1 xs))) → before ≡ start ++ first → first ≡ hex_pair (get_or xs 0 0) → 1 ≤ length xs
    → length (take (length xs - 1) (drop 1 xs)) ≤ i → after ≡ start ++ pairs_text xs
all_pairs start before after first [] i others one is some all = absurd (omega arith)
all_pairs start before after first (x ∷ xs) i others one is some all =
    let rest : take (length (x ∷ xs) - 1) (drop 1 (x ∷ xs)) ≡ xs = take_rest (x ∷ xs) 1 in
    let whole : take i (take (length (x ∷ xs) - 1) (drop 1 (x ∷ xs))) ≡ xs = take_all i _ all ∙ rest in
    others ∙ ap (λ (z : List ℕ). z ++ flat_map after_colon (take i (take (length (x ∷ xs) - 1) (drop 1 (x ∷ xs))))) (one ∙ ap (λ (z : List ℕ). start ++ z) is)
    ∙ append_assoc start (hex_pair x) _
    ∙ ap (λ (ys : List ℕ). start ++ (hex_pair x ++ flat_map after_colon ys)) whole
