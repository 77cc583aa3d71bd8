use Rattle.std.proofs.Common.{ℕ, ◌≡◌, ◌-◌, ◌<◌, ◌≤◌, List, length, get_or, refl, arith}
use Rattle.std.proofs.lemmas.List.{get_or_default}
use Rattle.net_after.proofs.OrderLemmas.{drop_before}
use Rattle.net_after.proofs.NumberSetLemmas.{lost_more}
use Rattle.net_after.proofs.notices.lost_numbers.Goals as goal

pub loop-place-preserved : goal.loop-place-preserved
loop-place-preserved c numbers has =
    let before : List ℕ = c.args.before.now in
    let p : ℕ = c.loop-place.place in
    let number : ℕ = get_or before (p - 1) 0 in
    let within : p - 1 < length before = omega (arith, c.loop-place-test.true, c.loop-place.auto.place) in
    lost_more numbers before p number c.args.current.now _ c.loop-place.lost.keys c.note_lost.new.lost.keys has (drop_before before p number c.loop-place-test.true c.loop-place.auto.place (get_or_default before (p - 1) 0 number within))
    refl (c.loop-place.invariant numbers has) c.in_ok-note_lost.ensures
