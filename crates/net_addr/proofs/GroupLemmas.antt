-- The text of hex groups, in the pieces that are appended one after another.
use Rattle.std.proofs.Common.{◌≡◌, ℕ, ◌+◌, ◌-◌, ◌/◌, ◌%◌, ◌<◌, ◌≤◌, List, [], ◌∷◌, ◌++◌, length, get_or, take, drop, flat_map, sym, ap, ◌∙◌, arith, lt-ltb, le-ltb}
use Rattle.std.specs.Net.Addr.{segments_of}
use Rattle.std.specs.Char.{digit_char}
use Rattle.std.specs.Net.Text.{hex, leading_zero_digits, groups_text, longest_zero_run, hex_groups_text}
use Rattle.std.proofs.lemmas.List.{take_all, take_more, length-drop, flat_map_more}
use Rattle.net_addr.specs.Printed.{v6_text}

-- what is left from k on, as a slice with its end
pub take_rest : (xs : List ℕ) (k : ℕ) → take (length xs - k) (drop k xs) ≡ drop k xs
take_rest xs k = take_all (length xs - k) (drop k xs) (omega (arith, length-drop k xs))

-- one more group
pub more_groups : (xs : List ℕ) (i : ℕ) → i < length xs → flat_map (λ t. 58 ∷ hex t) (take i xs) ++ (58 ∷ hex (get_or xs i 0)) ≡ flat_map (λ t. 58 ∷ hex t) (take (i + 1) xs)
more_groups xs i h = flat_map_more (λ t. 58 ∷ hex t) [] (take i xs) (get_or xs i 0) ∙ sym (ap (flat_map (λ t. 58 ∷ hex t)) (take_more xs i 0 h))

-- the first group, and the others behind colons
pub groups_text_parts : (xs : List ℕ) (i : ℕ) → 1 ≤ length xs → length xs ≤ i + 1 → hex (get_or xs 0 0) ++ flat_map (λ t. 58 ∷ hex t) (take i (take (length xs - 1) (drop 1 xs))) ≡ groups_text xs
groups_text_parts [] i some all = absurd (omega arith)
groups_text_parts (x ∷ xs) i some all =
    let rest = take_rest (x ∷ xs) 1 in
    let whole : take i xs ≡ xs = take_all i xs (omega arith) in
    ap (λ ys. hex x ++ flat_map (λ t. 58 ∷ hex t) ys) (ap (take i) rest ∙ whole)

pub v6_text_short : (xs groups : List ℕ) → groups ≡ segments_of xs → (longest_zero_run groups).1 ≤ 1 → groups_text groups ≡ v6_text xs
unfolding hex_groups_text
v6_text_short xs groups same short = rw (← same, le-ltb 1 (longest_zero_run groups).1 short)

pub v6_text_long : (xs groups : List ℕ) → groups ≡ segments_of xs → 1 < (longest_zero_run groups).1 → (groups_text (take (longest_zero_run groups).0 groups) ++ (58 ∷ 58 ∷ []))
    ++ groups_text (take (length groups - ((longest_zero_run groups).0 + (longest_zero_run groups).1)) (drop ((longest_zero_run groups).0 + (longest_zero_run groups).1) groups)) ≡ v6_text xs
unfolding hex_groups_text
v6_text_long xs groups same long = rw (← same, lt-ltb 1 (longest_zero_run groups).1 long, take_rest groups ((longest_zero_run groups).0 + (longest_zero_run groups).1))

-- the digits of a group, from the first that is written
pub hex_digits : (n : ℕ) → take (4 - leading_zero_digits n) (drop (leading_zero_digits n) (digit_char (n / 0x1000) ∷ digit_char (n / 0x100 % 16) ∷ digit_char (n / 0x10 % 16) ∷ digit_char (n % 16) ∷ [])) ≡ hex n
unfolding hex
hex_digits n = take_rest (digit_char (n / 0x1000) ∷ digit_char (n / 0x100 % 16) ∷ digit_char (n / 0x10 % 16) ∷ digit_char (n % 16) ∷ []) (leading_zero_digits n)
