use Rattle.std.proofs.Common.{arith, ◌≡◌, ◌<◌, ◌++◌, ℕ, List, length, get_or, take, refl, ap, subst, sym, ◌∙◌, option_to_list, vec_capacity}
use Rattle.std.proofs.lemmas.List.{length-take-le, take_all}
use Rattle.known_inputs.specs.Known.{Known}
use Rattle.asked_places.specs.Losing.{lost_at, lost_at_places, left_at}
use Rattle.asked_places.proofs.LeftLemmas.{left_none}
use Rattle.state_requests.proofs.ListLemmas.{nth_below, has_nth, few_places, few_given}
use Rattle.state_requests.proofs.StepLemmas.{between_noted, left_step, lost_step}
use Rattle.state_requests.proofs.losing.lose_requests.Goals as goal

pub loop-place-init : goal.loop-place-init
loop-place-init c = record {
  inputs = ap (λ i. let k : Known = record c.args.inputs.now { inputs = i } in k) (sym (left_none c.args.inputs.now.inputs));
  between = between_noted c.args.inputs.now.inputs c.args.places.now c.args.states.now (record c.args.states.now { lost = c.clear.new.self }) c.args.settling.now refl c.clear.ensures.capacity c.requires.between;
  lost = c.clear.ensures.items;
  room = c.clear.ensures.capacity;
}

pub lose_request-lost-requires-clause-place : goal.lose_request-lost-requires-clause-place
lose_request-lost-requires-clause-place c =
    let below = nth_below (length c.args.inputs.now.inputs.conf.interfaces) c.args.places.now c.loop-place.place-index c.requires.places c.loop-place-test.true in
    subst (λ (k : Known). get_or c.args.places.now c.loop-place.place-index 0 < length k.inputs.conf.interfaces) (sym c.loop-place.invariant.inputs) below

pub note_lost-requires : goal.note_lost-requires
note_lost-requires c =
    let places = c.args.places.now in
    let i = c.loop-place.place-index in
    let lost = c.lose_request-lost.new.states.lost in
    let same : lost ≡ c.loop-place.states.lost = c.lose_request-lost.ensures.lost in
    let items = ap (λ v. length v.items) same ∙ ap (λ (xs : List ℕ). length xs) c.loop-place.invariant.lost in
    let given = few_given (lost_at c.args.inputs.now.inputs) (take i places) in
    let taken = length-take-le i places (omega (arith, c.loop-place-test.true)) in
    let places_few = few_places (length c.args.inputs.now.inputs.conf.interfaces) places c.requires.places in
    let room = c.requires.between.tied.room in
    let kept = ap (λ v. vec_capacity v) same ∙ c.loop-place.invariant.room in
    let size = lost.ok.0 in
    omega (arith, items, given, taken, places_few, room, kept, size, c.loop-place-test.true)

pub loop-place-preserved : goal.loop-place-preserved
loop-place-preserved c =
    let places = c.args.places.now in
    let i = c.loop-place.place-index in
    let first = c.args.inputs.now in
    let lost = c.lose_request-lost.ensures.lost in
    record {
      inputs = left_step first c.loop-place.inputs c.lose_request-lost.new.inputs places i c.loop-place-test.true c.loop-place.invariant.inputs c.lose_request-lost.ensures.inputs;
      between = between_noted c.lose_request-lost.new.inputs.inputs places c.lose_request-lost.new.states c.note_lost.new.states c.args.settling.now c.note_lost.ensures.others c.note_lost.ensures.room
          (c.lose_request-lost.ensures.between places (has_nth places i c.loop-place-test.true) c.loop-place.invariant.between);
      lost = c.note_lost.ensures.items
          ∙ ap (λ v. v.items ++ option_to_list c.lose_request-lost.result) lost
          ∙ ap (λ (ns : List ℕ). ns ++ option_to_list c.lose_request-lost.result) c.loop-place.invariant.lost
          ∙ lost_step first c.loop-place.inputs places i (length first.inputs.conf.interfaces) c.lose_request-lost.result c.requires.places c.loop-place-test.true c.loop-place.invariant.inputs c.lose_request-lost.ensures.number;
      room = c.note_lost.ensures.room ∙ ap (λ v. vec_capacity v) lost ∙ c.loop-place.invariant.room;
    }

pub returns-clause-inputs : goal.returns-clause-inputs
returns-clause-inputs c =
    c.loop-place.invariant.inputs
    ∙ ap (λ (ps : List ℕ). let k : Known = record c.args.inputs.now { inputs = left_at c.args.inputs.now.inputs ps } in k) (take_all c.loop-place.place-index c.args.places.now (omega (arith, c.loop-place-test.false)))

pub returns-clause-lost : goal.returns-clause-lost
returns-clause-lost c = c.loop-place.invariant.lost ∙ ap (lost_at_places c.args.inputs.now.inputs) (take_all c.loop-place.place-index c.args.places.now (omega (arith, c.loop-place-test.false)))
