-- The length of a mask is the number of ones in front of its first zero.
use Rattle.std.proofs.Common.{◌≡◌, ℕ, zero, ◌-◌, ◌^◌, ◌<◌, ◌≤◌, List, length, slice_index, sym, ap, ◌∙◌, arith}
use Rattle.std.specs.Int.{w32, leading_ones, from_be_bytes}
use Rattle.std.specs.Int.Count.{leading_unique}
use Rattle.std.proofs.Math.Pow.{pow_mono}
use Rattle.std.proofs.lemmas.Nat.{pow_pos, be_bytes_4, from_be_bytes-to_be_bytes_4}
use Rattle.net_addr.specs.Mask.{mask_bits, mask_octets}

pub leading_ones-mask_bits : (n : ℕ) → n ≤ 32 → leading_ones w32 (mask_bits n) ≡ n
leading_ones-mask_bits n within =
    let some : zero < 2 ^ (32 - n) = pow_pos (32 - n) in
    let fits : 2 ^ (32 - n) ≤ 2 ^ 32 = pow_mono {i = 32 - n} {j = 32} (omega arith) in
    sym (leading_unique 32 (2 ^ 32 - 1 - mask_bits n) n (32 - n) (omega arith) (omega arith) (omega arith))

mask_bits_fits : (n : ℕ) → mask_bits n < 2 ^ 32
mask_bits_fits n =
    let some : zero < 2 ^ (32 - n) = pow_pos (32 - n) in
    omega arith

-- the octets of a mask have its value
pub from_be_bytes-mask_octets : (n : ℕ) → from_be_bytes w32 (mask_octets n) ≡ mask_bits n
from_be_bytes-mask_octets n = from_be_bytes-to_be_bytes_4 (mask_bits n) (mask_bits_fits n)

-- four octets that have the value of a mask are the octets of that mask
pub mask_octets_from_bits : (xs : List ℕ) (n : ℕ) → length xs ≡ 4 → ((k : ℕ) → slice_index xs k < 256) → from_be_bytes w32 xs ≡ mask_bits n → xs ≡ mask_octets n
mask_octets_from_bits xs n count fit value = sym (be_bytes_4 xs (mask_bits n) count fit (sym value))

-- the only length that the octets may be the mask of
pub mask_length_unique : (xs : List ℕ) (n : ℕ) → n ≤ 32 → xs ≡ mask_octets n → leading_ones w32 (from_be_bytes w32 xs) ≡ n
mask_length_unique xs n within same = ap (λ ys. leading_ones w32 (from_be_bytes w32 ys)) same ∙ ap (leading_ones w32) (from_be_bytes-mask_octets n) ∙ leading_ones-mask_bits n within
