use Rattle.std.proofs.Common.{ℕ, ◌+◌, ◌-◌, not, take, length-take, ◌<◌, ◌≤◌, map, length, drop, sym, ap, ◌∙◌, arith, length-drop}
use Rattle.std.proofs.lemmas.Simd.{length-chunk, leading_from_mask_l, trailing_mask_l}
use Rattle.std.proofs.lemmas.List.Sums.{prefix_len-le-length}
use Rattle.std.specs.Simd.Lanes.{chunk, mask_l}
use lib.Count.{count_trailing_zeros}
use Rattle.lanes_scan.proofs.SearchLemmas.{search_behind, search_within, some_marked}
use Rattle.lanes_scan.proofs.search.first_place.Goals as goal

pub returns-then-marks-ne0 : goal.returns-then-marks-ne0
returns-then-marks-ne0 g c =
    let finds = g.T.ByteTest.finds c.args.test.now in
    let bytes = c.args.bytes.now in
    let load = chunk c.loop-at.at 16 bytes in
    let room : c.loop-at.at + 16 ≤ length bytes = omega arith in
    let long = length-chunk c.loop-at.at 16 bytes room in
    let some : 0 < mask_l (map finds load) = omega (arith, c.marks-marks.ensures, c.if-marks-ne0.true) in
    let place = ap (count_trailing_zeros 64) c.marks-marks.ensures ∙ trailing_mask_l finds 64 load (omega (arith, long)) some in
    let within : count_trailing_zeros 64 c.marks-marks.result < 16 = omega (arith, place, long, some_marked finds load some) in
    ap (λ (k : ℕ). c.loop-at.at + k) (sym (search_within finds bytes c.loop-at.at 16 _ room place within)) ∙ sym c.loop-at.invariant.behind

pub loop-at-preserved : goal.loop-at-preserved
loop-at-preserved g c =
    let finds = g.T.ByteTest.finds c.args.test.now in
    let bytes = c.args.bytes.now in
    let load = chunk c.loop-at.at 16 bytes in
    let room : c.loop-at.at + 16 ≤ length bytes = omega arith in
    let none = leading_from_mask_l finds load (sym c.marks-marks.ensures ∙ c.if-marks-ne0.false) ∙ length-chunk c.loop-at.at 16 bytes room in
    record {
      in_range = room;
      behind = omega (arith, c.loop-at.invariant.behind, search_behind finds bytes c.loop-at.at 16 room none);
    }

pub overflow_add-result-2 : goal.overflow_add-result-2
overflow_add-result-2 g c =
    let finds = g.T.ByteTest.finds c.args.test.now in
    let bytes = c.args.bytes.now in
    let rest = take (length bytes - c.loop-at.at) (drop c.loop-at.at bytes) in
    let fits = length-take (length bytes - c.loop-at.at) (drop c.loop-at.at bytes) in
    record { fits = omega (arith, c.first_by_one.ensures, prefix_len-le-length (λ x. not (finds x)) rest, fits, length-drop c.loop-at.at bytes) }
