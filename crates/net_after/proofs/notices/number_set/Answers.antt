use Rattle.std.proofs.Common.{ℕ, List, get_or}
use Rattle.std.proofs.lemmas.List.{get_or_default}
use Rattle.net_after.proofs.NumberSetLemmas.{number_more}
use Rattle.net_after.proofs.notices.number_set.Goals as goal

pub loop-number-preserved : goal.loop-number-preserved
loop-number-preserved c =
    let numbers : List ℕ = c.args.numbers.now in
    let i : ℕ = c.loop-number.number-index in
    let number : ℕ = get_or numbers i 0 in
    number_more numbers i number c.loop-number.set c.insert.new.self c.loop-number.invariant c.loop-number-test.true (get_or_default numbers i 0 number c.loop-number-test.true) c.in_ok-_added.ensures.updates.0
