use Rattle.std.proofs.Common.{arith, ◌≡◌, ℕ, List, Bool, length, ◌++◌, ◌∷◌, [], ap, subst, sym, ◌∙◌}
use Rattle.given_objects.specs.Places.{AreListed}
use Rattle.given_objects.proofs.PlacesLemmas.{few_places, place_added}
use Rattle.given_objects.proofs.places.add_place.Goals as goal

pub push_reserved-requires : goal.push_reserved-requires
push_reserved-requires c = let few = few_places c.args.places.now.list.items c.args.places.now.flags.items c.requires.places in omega (arith, few, c.requires.list_room)

pub returns-clause-places : goal.returns-clause-places
returns-clause-places c =
    let list : List ℕ = c.args.places.now.list.items in
    let flags : List Bool = c.args.places.now.flags.items in
    let place : c.len.result ≡ length flags = omega (arith, c.len.ensures) in
    subst (λ (xs : List ℕ). AreListed xs c.push_reserved-2.new.self.items) (sym (c.push_reserved.ensures.items ∙ ap (λ (place : ℕ). list ++ place ∷ []) place))
    (subst (λ (bs : List Bool). AreListed (list ++ length flags ∷ []) bs) (sym c.push_reserved-2.ensures.items) (place_added list flags c.requires.places))
