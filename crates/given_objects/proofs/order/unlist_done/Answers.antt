use Rattle.std.proofs.Common.{arith, ◌≡◌, ◌<◌, ℕ, List, Bool, false, length, get_or, set, swap_remove, ap, subst, sym, ◌∙◌}
use Rattle.std.proofs.lemmas.List.{get_or_read}
use Rattle.given_objects.specs.Gifts.{Gifts}
use Rattle.given_objects.specs.Inside.{listed}
use Rattle.given_objects.specs.Places.{ComeFrom}
use Rattle.given_objects.proofs.OrderedLemmas.{as_many}
use Rattle.given_objects.proofs.PlacesLemmas.{at_flag, listed_less, listed_still, come_here, come_without}
use Rattle.given_objects.proofs.order.unlist_done.Goals as goal

pub gift_at-gift-requires : goal.gift_at-gift-requires
gift_at-gift-requires c =
    let list : List ℕ = c.args.places.now.list.items in
    let are = c.requires.places in
    let inside : c.args.index < length list = omega (arith, c.requires.within) in
    let within = at_flag list c.args.places.now.flags.items are.places c.args.index c.index.result.now inside c.index.ensures in
    omega (arith, within, are.size, as_many c.args.table.now.entries)

pub returns-then-not-comes-clause-places : goal.returns-then-not-comes-clause-places
returns-then-not-comes-clause-places c =
    let gs : Gifts = listed c.args.table.now.entries in
    let list : List ℕ = c.args.places.now.list.items in
    let flags : List Bool = c.args.places.now.flags.items in
    let index = c.args.index in
    let place : ℕ = c.index.result.now in
    let inside : index < length list = omega (arith, c.requires.within) in
    let same : place ≡ get_or list index 0 = get_or_read list index place inside c.index.ensures 0 in
    listed_still gs (swap_remove list index place) c.unlist_place.new.places.list.items (set flags place false) c.unlist_place.new.places.flags.items
    (c.unlist_place.ensures.list ∙ ap (λ (i : ℕ). swap_remove list index i) (sym same))
    (c.unlist_place.ensures.flags ∙ ap (λ (i : ℕ). set flags i false) (sym same))
    (listed_less gs list flags c.requires.places index place c.gift_at-gift.result inside c.index.ensures c.gift_at-gift.ensures (sym c.comes.ensures ∙ c.if-not-comes.true))

pub returns-then-not-comes-clause-done : goal.returns-then-not-comes-clause-done
returns-then-not-comes-clause-done c later =
    let gs : Gifts = listed c.args.table.now.entries in
    let list : List ℕ = c.args.places.now.list.items in
    let index = c.args.index in
    let inside : index < length list = omega (arith, c.requires.within) in
    subst (λ (xs : List ℕ). ComeFrom gs xs index) (sym c.unlist_place.ensures.list) (come_without gs list index inside later (get_or list index 0))

pub returns-else-not-comes-clause-done : goal.returns-else-not-comes-clause-done
returns-else-not-comes-clause-done c later =
    let gs : Gifts = listed c.args.table.now.entries in
    let list : List ℕ = c.args.places.now.list.items in
    let inside : c.args.index < length list = omega (arith, c.requires.within) in
    come_here gs list c.args.index inside later c.index.result.now c.gift_at-gift.result c.index.ensures c.gift_at-gift.ensures (sym c.comes.ensures ∙ c.if-not-comes.false)
