use Rattle.std.proofs.Common.{List, ◌≡◌, length, take, subst, sym, arith}
use Rattle.std.proofs.lemmas.List.{length-take-le}
use Rattle.net_devices.specs.declared.said.Said.{Said}
use Rattle.net_devices.specs.Found.{HasPlaces}
use Rattle.net_devices.proofs.FoundLemmas.{places_more}
use Rattle.net_devices.proofs.KeyLemmas.{take_more}
use Rattle.net_devices.proofs.said_index.places_of.Goals as goal

pub loop-place-preserved : goal.loop-place-preserved
loop-place-preserved c =
    let saying = c.index-said-place.result in
    let said : List Said = c.args.said.now in
    let place : c.loop-place.place ≡ length (take c.loop-place.place said) = sym (length-take-le c.loop-place.place said (omega (arith, c.loop-place-test.true))) in
    subst (HasPlaces c.note_saying.new.places) (sym (take_more said c.loop-place.place saying c.loop-place-test.true c.index-said-place.is))
    (places_more c.loop-place.places c.note_saying.new.places (take c.loop-place.place said) saying c.loop-place.place place c.loop-place.invariant c.in_ok-note_saying.ensures)
