use Rattle.std.proofs.Common.{arith, ◌<◌, ℕ, List, Bool, false, length, set, subst, sym}
use Rattle.given_objects.specs.Places.{AreListed}
use Rattle.given_objects.proofs.PlacesLemmas.{at_flag, unlisted}
use Rattle.given_objects.proofs.places.unlist_place.Goals as goal

pub index_mut-requires : goal.index_mut-requires
index_mut-requires c =
    let list : List ℕ = c.args.places.now.list.items in
    let flags : List Bool = c.args.places.now.flags.items in
    let inside : c.args.index < length list = omega (arith, c.requires.within) in
    let within = at_flag list flags c.requires.places c.args.index c.swap_remove-place.result inside c.swap_remove-place.ensures.value in
    omega (arith, within)

pub returns-clause-places : goal.returns-clause-places
returns-clause-places c =
    let list : List ℕ = c.args.places.now.list.items in
    let flags : List Bool = c.args.places.now.flags.items in
    let place : ℕ = c.swap_remove-place.result in
    let inside : c.args.index < length list = omega (arith, c.requires.within) in
    subst (λ (xs : List ℕ). AreListed xs (set flags place false)) (sym c.swap_remove-place.ensures.items) (unlisted list flags c.requires.places c.args.index place inside c.swap_remove-place.ensures.value)
