use Rattle.std.proofs.Common.{arith, ℕ, List, take, get_or, sym, ap, ◌∙◌}
use Rattle.std.proofs.lemmas.List.{take_all, take_more}
use Rattle.net_reach.specs.Places.{Places, with_place, with_places}
use Rattle.net_reach.proofs.SetLemmas.{with_one_more}
use Rattle.net_reach.proofs.place_set.PlaceSet.add_all.Goals as goal

pub loop-place-preserved : goal.loop-place-preserved
loop-place-preserved c =
    let places : List ℕ = c.args.places.now in
    let place : ℕ = get_or places c.loop-place.place-index 0 in
    let front : List ℕ = take c.loop-place.place-index places in
    c.add.ensures
    ∙ ap (λ (s : Places). with_place s place) c.loop-place.invariant
    ∙ sym (ap (with_places c.args.self.now) (take_more places c.loop-place.place-index 0 c.loop-place-test.true)
    ∙ with_one_more c.args.self.now front place)

pub returns : goal.returns
returns c = c.loop-place.invariant ∙ ap (with_places c.args.self.now) (take_all c.loop-place.place-index c.args.places.now (omega (arith, c.loop-place-test.false)))
