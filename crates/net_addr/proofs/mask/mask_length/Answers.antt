use Rattle.std.proofs.Common.{◌≡◌, ℕ, ◌<◌, length, slice_index, Ok, sym, ap, ◌∙◌, refl, rules}
use Rattle.std.specs.Int.{w32, from_be_bytes}
use Rattle.net_addr.specs.Mask.{mask_bits}
use Rattle.net_addr.proofs.MaskLemmas.{from_be_bytes-mask_octets, mask_octets_from_bits, mask_length_unique}
use Rattle.net_addr.proofs.mask.mask_length.Goals as goal

pub returns-then-bits-mask_of-clause-found : goal.returns-then-bits-mask_of-clause-found
returns-then-bits-mask_of-clause-found c =
    let count : length c.args.mask.0 ≡ 4 = search rules in
    let fit : (k : ℕ) → slice_index c.args.mask.0 k < 256 = search rules in
    let value : from_be_bytes w32 c.args.mask.0 ≡ mask_bits c.leading_ones-length.result = sym c.from_be_bytes-bits.ensures ∙ c.if-bits-mask_of.true ∙ c.mask_of.ensures in
    (search rules, mask_octets_from_bits _ _ count fit value)

pub returns-then-bits-mask_of-clause-only : goal.returns-then-bits-mask_of-clause-only
returns-then-bits-mask_of-clause-only c = λ n within same.
    let unique = mask_length_unique c.args.mask.0 n within same in
    ap Ok (cc (c.from_be_bytes-bits.ensures, c.leading_ones-length.ensures, unique))

pub returns-else-bits-mask_of-clause-refused : goal.returns-else-bits-mask_of-clause-refused
returns-else-bits-mask_of-clause-refused c = (
  refl,
  λ n within same.
      let unique = mask_length_unique c.args.mask.0 n within same in
      let length_is : c.leading_ones-length.result ≡ n = cc in
      let value : from_be_bytes w32 c.args.mask.0 ≡ mask_bits n = ap (from_be_bytes w32) same ∙ from_be_bytes-mask_octets n in
      c.if-bits-mask_of.false (c.from_be_bytes-bits.ensures ∙ value ∙ ap mask_bits (sym length_is) ∙ sym c.mask_of.ensures),
)

pub returns-else-bits-mask_of-clause-only : goal.returns-else-bits-mask_of-clause-only
returns-else-bits-mask_of-clause-only c = λ n within same. absurd ((returns-else-bits-mask_of-clause-refused c).1 n within same)
