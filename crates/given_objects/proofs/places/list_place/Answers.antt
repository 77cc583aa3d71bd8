use Rattle.std.proofs.Common.{arith, ◌≡◌, ℕ, List, Bool, true, false, get_or, set, subst, sym, ◌∙◌}
use Rattle.std.proofs.lemmas.List.{get_or_read}
use Rattle.given_objects.specs.Places.{AreListed}
use Rattle.given_objects.proofs.PlacesLemmas.{room_for_one, listed_more}
use Rattle.given_objects.proofs.places.list_place.Goals as goal

pub push_reserved-requires : goal.push_reserved-requires
push_reserved-requires c =
    let list : List ℕ = c.args.places.now.list.items in
    let flags : List Bool = c.args.places.now.flags.items in
    let off : get_or flags c.args.place false ≡ false = sym (get_or_read flags c.args.place c.index.result.now c.requires.within c.index.ensures false) ∙ c.if-index.false in
    let few = room_for_one list flags c.requires.places c.args.place c.requires.within off in
    omega (arith, few, c.requires.room)

pub returns-clause-places : goal.returns-clause-places
returns-clause-places c =
    let list : List ℕ = c.args.places.now.list.items in
    let flags : List Bool = c.args.places.now.flags.items in
    let off : get_or flags c.args.place false ≡ false = sym (get_or_read flags c.args.place c.index.result.now c.requires.within c.index.ensures false) ∙ c.if-index.false in
    subst (λ (xs : List ℕ). AreListed xs (set flags c.args.place true)) (sym c.push_reserved.ensures.items) (listed_more list flags c.requires.places c.args.place c.requires.within off)
