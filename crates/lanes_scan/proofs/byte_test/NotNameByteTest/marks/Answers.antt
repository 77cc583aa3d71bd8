use Rattle.std.proofs.Common.{ℕ, leb, bit_and, cond, not, refl, arith}
use Rattle.std.proofs.lemmas.Simd.{zip2_splat, zip2_of_maps, splat_is_map}
use Rattle.lanes_scan.specs.ByteTest.{is_name_byte}
use Rattle.lanes_scan.proofs.LaneLemmas.{mask_of_test}
use Rattle.lanes_scan.proofs.byte_test.NotNameByteTest.marks.Goals as goal

pub returns : goal.returns
returns c =
    let v = c.args.lanes in
    let long = c.fits-lanes.0 in
    mask_of_test (λ byte. not (is_name_byte byte)) _ v _ (omega arith) c.fits-lanes.1
    (zip2_of_maps bit_and _ _ v
    (zip2_of_maps bit_and _ _ v
    (zip2_of_maps (λ a b. cond (leb a b) 255 0) _ _ v (splat_is_map v 16 26 long) (zip2_of_maps _ _ _ v (zip2_splat {Y = ℕ} _ v 16 32 long) (splat_is_map v 16 97 long)))
    (zip2_of_maps (λ a b. cond (leb a b) 255 0) _ _ v (splat_is_map v 16 10 long) (zip2_splat {Y = ℕ} _ v 16 48 long)))
    (zip2_splat {Y = ℕ} _ v 16 95 long)) refl
