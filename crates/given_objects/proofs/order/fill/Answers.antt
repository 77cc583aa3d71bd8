use Rattle.std.proofs.Common.{arith, ◌+◌, ℕ, List, take, get_or, subst, ◌∙◌}
use Rattle.std.proofs.lemmas.List.{get_or_default, take_more, take_all}
use Rattle.given_objects.specs.Inside.{listed}
use Rattle.given_objects.specs.Ordered.{HasComing}
use Rattle.given_objects.proofs.OrderedLemmas.{has_none, has_more}
use Rattle.given_objects.proofs.order.fill.Goals as goal

pub loop-place-init : goal.loop-place-init
loop-place-init c = record {
  coming = has_none c.args.turn (listed c.args.table.now.entries) c.args.places.now c.clear.new.self.items c.clear.ensures.items;
  count = omega (arith, c.clear.ensures.len);
  capacity = c.clear.ensures.capacity;
}

pub gift_at-requires : goal.gift_at-requires
gift_at-requires c =
    let places : List ℕ = c.args.places.now in
    let index = c.loop-place.place-index in
    let place : ℕ = get_or places index 0 in
    c.requires.within place (index, c.loop-place-test.true, get_or_default places index place 0 c.loop-place-test.true)

pub add-requires : goal.add-requires
add-requires c = omega (arith, c.loop-place.invariant.count, c.loop-place.invariant.capacity, c.requires.room, c.loop-place-test.true)

pub loop-place-preserved : goal.loop-place-preserved
loop-place-preserved c =
    let places : List ℕ = c.args.places.now in
    let index = c.loop-place.place-index in
    let place : ℕ = get_or places index 0 in
    let front : List ℕ = take index places in
    record {
      coming = has_more c.args.turn (listed c.args.table.now.entries) front place c.loop-place.list.items c.gift_at.result c.gift_at.ensures c.loop-place.invariant.coming
          (take (index + 1) places) c.add.new.list.items (take_more places index 0 c.loop-place-test.true) c.add.ensures.items;
      count = omega (arith, c.add.ensures.size, c.loop-place.invariant.count);
      capacity = c.add.ensures.capacity ∙ c.loop-place.invariant.capacity;
    }

pub returns-clause-coming : goal.returns-clause-coming
returns-clause-coming c =
    subst (λ (xs : List ℕ). HasComing c.args.turn (listed c.args.table.now.entries) xs c.loop-place.list.items)
    (take_all c.loop-place.place-index c.args.places.now (omega (arith, c.loop-place-test.false))) c.loop-place.invariant.coming
