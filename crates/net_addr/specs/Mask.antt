-- The mask of a prefix, as four octets (RFC 950, 2.1; RFC 4632, 3.1).
use Rattle.std.specs.Prelude.{ℕ, ◌-◌, ◌^◌, List}
use Rattle.std.specs.Int.{w32, to_be_bytes}

-- the mask of a length n of at most 32 as a number of 32 bits: n ones in front, and then zeros
abbrev pub mask_bits : ℕ → ℕ
mask_bits n = 2 ^ 32 - 2 ^ (32 - n)

-- the octets of that mask, the most significant first
abbrev pub mask_octets : ℕ → List ℕ
mask_octets n = to_be_bytes w32 (mask_bits n)
