use Rattle.std.proofs.Common.{arith, ◌≡◌, length, take, ap, sym, ◌∙◌}
use Rattle.given_objects.specs.Gifts.{has_place}
use Rattle.given_objects.proofs.FirstLemmas.{taken_member, all_taken}
use Rattle.gift_places.specs.Expecting.{all_held_alone, with_held_alone}
use Rattle.gift_places.proofs.HeldLemmas.{none_held, held_more, no_held_before}
use Rattle.gift_places.proofs.held.held_alone.Goals as goal

pub loop-place-init : goal.loop-place-init
loop-place-init c = record { alone = c.new-alone.ensures ∙ sym (none_held c.args.gifts.now) }

pub keep_held-requires-clause-new : goal.keep_held-requires-clause-new
keep_held-requires-clause-new c =
    ap (λ gs. has_place gs c.gift.result.object) c.loop-place.invariant.alone
    ∙ no_held_before c.args.gifts.now c.loop-place.place c.gift.result c.len-place-end.ensures.gifts.once c.gift.ensures

pub keep_held-requires-clause-upper : goal.keep_held-requires-clause-upper
keep_held-requires-clause-upper c = c.len-place-end.ensures.gifts.upper c.gift.result (taken_member c.args.gifts.now c.loop-place.place c.gift.result c.gift.ensures)

pub loop-place-preserved : goal.loop-place-preserved
loop-place-preserved c = record {
  alone = c.in_ok-keep_held.ensures ∙ ap (λ gs. with_held_alone gs c.gift.result) c.loop-place.invariant.alone ∙ sym (held_more c.args.gifts.now c.loop-place.place c.gift.result c.gift.ensures);
}

pub returns : goal.returns
returns c =
    let gs = c.args.gifts.now in
    let all : c.loop-place.place ≡ length gs = omega (arith, c.len-place-end.ensures.length) in
    c.loop-place.invariant.alone ∙ ap (λ i. all_held_alone (take i gs)) all ∙ ap all_held_alone (all_taken gs)
