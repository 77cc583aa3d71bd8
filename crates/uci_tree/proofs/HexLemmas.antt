-- A number in hex with zeros in front.
use Rattle.std.proofs.Common.{ℕ, ◌≡◌, ◌^◌, ◌-◌, List, [], ◌++◌, length, replicate, false}
use Rattle.std.proofs.lemmas.List.{append-nil}
use native.Mathlib.Nat.{sub-zero}
use Rattle.std.specs.Fmt.{padded_integral, format_spec, char_count}

pub padded_two : (shown : List ℕ) → padded_integral (format_spec 32 0 4 2 (2 ^ 64 - 1)) false [] shown ≡ replicate (2 - length shown) 48 ++ shown
unfolding padded_integral char_count
padded_two shown = simp (append-nil, sub-zero)

pub padded_four : (shown : List ℕ) → padded_integral (format_spec 32 0 4 4 (2 ^ 64 - 1)) false [] shown ≡ replicate (4 - length shown) 48 ++ shown
unfolding padded_integral char_count
padded_four shown = simp (append-nil, sub-zero)
