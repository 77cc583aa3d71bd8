use Rattle.std.proofs.Common.{arith, ◌≡◌, length, take, filter, ap, sym, ◌∙◌}
use Rattle.given_objects.specs.Gifts.{has_place}
use Rattle.given_objects.specs.Changes.{is_live, with_live}
use Rattle.given_objects.proofs.FirstLemmas.{taken_member, all_taken}
use Rattle.given_objects.proofs.KeptLemmas.{none_live, live_more, no_place_before}
use Rattle.given_objects.proofs.given.GivenObjects.live.Goals as goal

pub loop-place-init : goal.loop-place-init
loop-place-init c = record { live = c.new-live.ensures ∙ sym (none_live c.args.self.now) }

pub keep-requires-clause-new : goal.keep-requires-clause-new
keep-requires-clause-new c =
    ap (λ gs. has_place gs c.gift.result.object) c.loop-place.invariant.live
    ∙ no_place_before c.args.self.now c.loop-place.place c.gift.result c.len-place-end.ensures.gifts.once c.gift.ensures

pub keep-requires-clause-upper : goal.keep-requires-clause-upper
keep-requires-clause-upper c = c.len-place-end.ensures.gifts.upper c.gift.result (taken_member c.args.self.now c.loop-place.place c.gift.result c.gift.ensures)

pub loop-place-preserved : goal.loop-place-preserved
loop-place-preserved c = record {
  live = c.in_ok-keep.ensures ∙ ap (λ gs. with_live gs c.gift.result) c.loop-place.invariant.live ∙ sym (live_more c.args.self.now c.loop-place.place c.gift.result c.gift.ensures);
}

pub returns : goal.returns
returns c =
    let gs = c.args.self.now in
    let all : c.loop-place.place ≡ length gs = omega (arith, c.len-place-end.ensures.length) in
    c.loop-place.invariant.live ∙ ap (λ i. filter is_live (take i gs)) all ∙ ap (filter is_live) (all_taken gs)
