use Rattle.std.proofs.Common.{arith, ◌≡◌, length, take, ap, sym, ◌∙◌}
use Rattle.given_objects.proofs.FirstLemmas.{next_taken, all_taken}
use Rattle.given_objects.proofs.DueLemmas.{alone_in, alone_more, alone_few, at_most_one, none_alone, few_taken, due_of_gifts}
use Rattle.given_objects.proofs.given.GivenObjects.due.Goals as goal

pub loop-place-init : goal.loop-place-init
loop-place-init c = record { count = sym (none_alone c.args.self.now) }

pub loop-place-preserved : goal.loop-place-preserved
loop-place-preserved c =
    let gs = c.args.self.now in
    let i = c.loop-place.place in
    let more = ap alone_in (next_taken gs i c.gift.result c.gift.ensures) ∙ alone_more (take i gs) c.gift.result in
    record { count = omega (arith, more, c.alone-count.ensures, c.loop-place.invariant.count) }

pub returns : goal.returns
returns c =
    let gs = c.args.self.now in
    let all : c.loop-place.place ≡ length gs = omega (arith, c.len-place-end.ensures.length) in
    c.loop-place.invariant.count ∙ ap (λ i. alone_in (take i gs)) all ∙ ap alone_in (all_taken gs) ∙ sym (due_of_gifts gs c.len-place-end.ensures.gifts.once)

pub overflow_add-count : goal.overflow_add-count
overflow_add-count c =
    let gs = c.args.self.now in
    let i = c.loop-place.place in
    let few = alone_few (take i gs) in
    let fewer = few_taken gs i in
    let one = at_most_one c.gift.result in
    omega (arith, few, fewer, one, c.alone-count.ensures, c.loop-place.invariant.count, c.len-place-end.ensures.few)
