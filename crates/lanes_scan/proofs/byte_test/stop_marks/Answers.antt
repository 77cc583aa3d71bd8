use Rattle.std.proofs.Common.{◌≡◌, ℕ, List, map, take, ap, ◌∙◌, arith}
use Rattle.std.proofs.lemmas.Simd.{splat_is_map}
use Rattle.std.proofs.lemmas.List.{take_all}
use Rattle.lanes_scan.specs.ByteTest.{is_stop}
use Rattle.lanes_scan.proofs.LaneLemmas.{lane_of, mask_of_answers, one_more_stop}
use Rattle.lanes_scan.proofs.byte_test.stop_marks.Goals as goal

pub loop-stop-init : goal.loop-stop-init
loop-stop-init c = splat_is_map c.args.lanes 16 0 c.fits-lanes.0

pub loop-stop-preserved : goal.loop-stop-preserved
loop-stop-preserved c =
    one_more_stop c.args.stops.now c.args.lanes c.loop-stop.found c.loop-stop.stop-index (omega arith) c.fits-lanes.0 c.loop-stop.invariant

pub returns : goal.returns
returns c =
    let stops = c.args.stops.now in
    let all : take c.loop-stop.stop-index stops ≡ stops = take_all _ _ (omega arith) in
    mask_of_answers (is_stop stops) c.args.lanes c.loop-stop.found (omega (arith, c.fits-lanes.0))
    (c.loop-stop.invariant ∙ ap (λ (seen : List ℕ). map (λ x. lane_of (is_stop seen x)) c.args.lanes) all)
