use Rattle.std.proofs.Common.{arith, ◌≡◌, ◌+◌, length, take, ap, sym, subst, ◌∙◌}
use Rattle.given_objects.specs.Gifts.{Gifts}
use Rattle.given_objects.specs.Turns.{sooner}
use Rattle.given_objects.proofs.FirstLemmas.{Finds, finds_none_at_first, finds_more, next_taken, taken_member, found_upper, taken_within, all_taken}
use Rattle.given_objects.proofs.first.first.Goals as goal

pub loop-place-init : goal.loop-place-init
loop-place-init c = record { found = finds_none_at_first c.args.turn c.args.gifts.now }

pub gift-requires : goal.gift-requires
gift-requires c = omega (arith, c.len-place-end.ensures.length)

pub sooner-best-requires-clause-best : goal.sooner-best-requires-clause-best
sooner-best-requires-clause-best c =
    let gs = c.args.gifts.now in
    found_upper c.args.turn (take c.loop-place.place gs) gs (taken_within gs c.loop-place.place) c.len-place-end.ensures.gifts c.loop-place.best c.loop-place.invariant.found

pub sooner-best-requires-clause-gift : goal.sooner-best-requires-clause-gift
sooner-best-requires-clause-gift c = c.len-place-end.ensures.gifts.upper c.gift.result (taken_member c.args.gifts.now c.loop-place.place c.gift.result c.gift.ensures)

pub loop-place-preserved : goal.loop-place-preserved
loop-place-preserved c =
    let gs = c.args.gifts.now in
    let i = c.loop-place.place in
    record {
      found = subst (Finds c.args.turn (take (i + 1) gs)) (sym c.sooner-best.ensures)
          (subst (λ (xs : Gifts). Finds c.args.turn xs (sooner c.args.turn c.loop-place.best c.gift.result)) (sym (next_taken gs i c.gift.result c.gift.ensures))
          (finds_more c.args.turn (take i gs) c.gift.result c.loop-place.best c.loop-place.invariant.found));
    }

pub returns-clause-some : goal.returns-clause-some
returns-clause-some c =
    let gs = c.args.gifts.now in
    let all : c.loop-place.place ≡ length gs = omega (arith, c.len-place-end.ensures.length) in
    let found = subst (λ (xs : Gifts). Finds c.args.turn xs c.loop-place.best) (ap (λ i. take i gs) all ∙ all_taken gs) c.loop-place.invariant.found in
    found.some

pub returns-clause-none : goal.returns-clause-none
returns-clause-none c =
    let gs = c.args.gifts.now in
    let all : c.loop-place.place ≡ length gs = omega (arith, c.len-place-end.ensures.length) in
    let found = subst (λ (xs : Gifts). Finds c.args.turn xs c.loop-place.best) (ap (λ i. take i gs) all ∙ all_taken gs) c.loop-place.invariant.found in
    found.none
