use Rattle.std.proofs.Common.{ℕ, ◌-◌, ◌<◌, List, length, get_or, arith}
use Rattle.std.proofs.lemmas.List.{get_or_default}
use Rattle.ubus_state.proofs.OrderLemmas.{drop_before, number_more}
use Rattle.ubus_state.proofs.numbers.number_set.Goals as goal

pub loop-place-preserved : goal.loop-place-preserved
loop-place-preserved c =
    let numbers : List ℕ = c.args.numbers.now in
    let p : ℕ = c.loop-place.place in
    let number : ℕ = get_or numbers (p - 1) 0 in
    let within : p - 1 < length numbers = omega (arith, c.loop-place-test.true, c.loop-place.auto.place) in
    number_more numbers p number c.loop-place.set.keys c.insert.new.self.keys (drop_before numbers p number c.loop-place-test.true c.loop-place.auto.place (get_or_default numbers (p - 1) 0 number within)) c.loop-place.invariant
    c.in_ok-_added.ensures.keys
