-- Bytes that are put over others.
use Rattle.std.proofs.Common.{ℕ, ◌≡◌, ◌+◌, ◌-◌, ◌≤◌, ◌<◌, List, ◌++◌, length, take, drop, get_or, sym, ap, ◌∙◌, arith, append_assoc}
use Rattle.std.proofs.lemmas.Grind.{common_steps}
use Rattle.std.proofs.lemmas.List.{take_at, drop_at, drop-drop, get_or_append_left, get_or-append_right}
use Rattle.plane_disk.specs.Files.{put_at}

pub put_nothing : (old : List ℕ) (at : ℕ) (bytes : List ℕ) → length bytes ≡ 0 → put_at old at bytes ≡ old
put_nothing old at bytes none = grind (arith, common_steps)

pub put_inside : (old : List ℕ) (at : ℕ) (bytes : List ℕ) (place : ℕ) → at ≤ length old → at ≤ place → place < at + length bytes → get_or (put_at old at bytes) place 0 ≡ get_or bytes (place - at) 0
put_inside old at bytes place fits from within = grind (arith, common_steps, get_or_append_left, get_or-append_right)

pub take-put : (old : List ℕ) (at : ℕ) (bytes : List ℕ) → at ≤ length old → take at (put_at old at bytes) ≡ take at old
take-put old at bytes fits = grind (arith, common_steps, take_at, append_assoc)

pub drop-put : (old : List ℕ) (at : ℕ) (bytes : List ℕ) (n : ℕ) → at + length bytes ≤ n → at + length bytes ≤ length old → drop n (put_at old at bytes) ≡ drop n old
drop-put old at bytes n behind within =
    let k = at + length bytes in
    let front : length (take at old ++ bytes) ≡ k = grind (arith, common_steps) in
    let here : drop k (put_at old at bytes) ≡ drop k old = drop_at (take at old ++ bytes) (drop k old) k front in
    let parts : k + (n - k) ≡ n = omega arith in
    ap (λ m. drop m (put_at old at bytes)) (sym parts) ∙ sym (drop-drop (n - k) k (put_at old at bytes)) ∙ ap (drop (n - k)) here ∙ drop-drop (n - k) k old ∙ ap (λ m. drop m old) parts
