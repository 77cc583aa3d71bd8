use Rattle.std.proofs.Common.{arith, ◌<◌, ◌++◌, length, get_or, ap, subst, sym, ◌∙◌, vec_capacity}
use Rattle.net_rows.specs.declared.rows.Conf.{Conf}
use Rattle.known_inputs.specs.Known.{Known}
use Rattle.asked_places.specs.Opening.{told_of_all}
use Rattle.state_requests.proofs.ListLemmas.{nth_below, has_nth}
use Rattle.state_requests.proofs.StepLemmas.{conf_opened, next_opened, opened_step, told_step}
use Rattle.state_requests.proofs.opening.open_requests.Goals as goal

pub open_request-requires-clause-place : goal.open_request-requires-clause-place
open_request-requires-clause-place c =
    let below = nth_below (length c.args.inputs.now.inputs.conf.interfaces) c.args.places.now c.loop-place.place-index c.requires.places c.loop-place-test.true in
    subst (λ (conf : Conf). get_or c.args.places.now c.loop-place.place-index 0 < length conf.interfaces) (sym c.loop-place.invariant.conf) below

pub loop-place-preserved : goal.loop-place-preserved
loop-place-preserved c =
    let places = c.args.places.now in
    let i = c.loop-place.place-index in
    let p = get_or places i 0 in
    let first = c.args.inputs.now in
    let old = c.loop-place.inputs in
    let new = c.open_request.new.inputs in
    let step = c.open_request.ensures.inputs in
    record {
      inputs = opened_step first old new places i c.loop-place-test.true c.loop-place.invariant.inputs step;
      most = ap (λ (k : Known). k.most_devices) step ∙ c.loop-place.invariant.most;
      conf = ap (λ (k : Known). k.inputs.conf) step ∙ conf_opened old.inputs p ∙ c.loop-place.invariant.conf;
      next =
          let same = ap (λ (k : Known). k.inputs.next) step in
          let more = next_opened old.inputs p in
          let was = c.loop-place.invariant.next in
          omega (arith, same, more, was);
      between = c.open_request.ensures.between places (has_nth places i c.loop-place-test.true) c.loop-place.invariant.between;
      told = told_step old new c.loop-place.notices.items c.open_request.new.notices.items (c.args.notices.now.items ++ told_of_all first.inputs places) places i c.loop-place-test.true c.loop-place.invariant.told step
          c.open_request.ensures.told;
      len = let more = c.open_request.ensures.len in let was = c.loop-place.invariant.len in omega (arith, more, was);
      capacity = c.open_request.ensures.capacity ∙ c.loop-place.invariant.capacity;
      room = ap (λ v. vec_capacity v) c.open_request.ensures.lost ∙ c.loop-place.invariant.room;
    }
