use Rattle.std.proofs.Common.{◌≡◌, ◌≤◌, ◌*◌, List, length, ap, subst, ◌∙◌, vec_capacity}
use Rattle.std.specs.VecDeque.{deque_capacity}
use Rattle.net_rows.specs.declared.rows.InterfaceRow.{InterfaceRow}
use Rattle.net_rules.specs.declared.inputs.Inputs.{Inputs}
use Rattle.net_rules.specs.After.{after}
use Rattle.net_rules.specs.Notices.{numbers_of}
use Rattle.net_rules.specs.Moment.{Moment}
use Rattle.net_follow.specs.SettlingState.{held_of}
use Rattle.net_follow.specs.InStep.{inputs_of}
use Rattle.net_rebuild.specs.declared.rebuild.Rebuild.{Rebuild}
use Rattle.net_rebuild.proofs.RebuildLemmas.{own_now, few_now, once_now, is_rebuild}
use Rattle.net_rebuild.proofs.rebuild.Rebuild.of.Goals as goal

pub of-requires-2-clause-own : goal.of-requires-2-clause-own
of-requires-2-clause-own c =
    let f = c.args.follower.now in
    let moment : Moment = record { inputs = inputs_of f; held = held_of f.settling } in
    let is : c.in_ok-now.now ≡ after (inputs_of f) c.args.event = c.in_ok-now.ensures.after ∙ ap (λ (i : Inputs). after i c.args.event) c.in_ok-before.ensures in
    own_now moment c.args.event c.in_ok-now.now c.requires.step.history is

pub expected-requires-clause-few : goal.expected-requires-clause-few
expected-requires-clause-few c =
    let f = c.args.follower.now in
    let moment : Moment = record { inputs = inputs_of f; held = held_of f.settling } in
    let is : c.in_ok-now.now ≡ after (inputs_of f) c.args.event = c.in_ok-now.ensures.after ∙ ap (λ (i : Inputs). after i c.args.event) c.in_ok-before.ensures in
    few_now moment c.args.event c.in_ok-now.now c.requires.step.history is c.requires.few

pub from-requires : goal.from-requires
from-requires c =
    let f = c.args.follower.now in
    let moment : Moment = record { inputs = inputs_of f; held = held_of f.settling } in
    let is : c.in_ok-now.now ≡ after (inputs_of f) c.args.event = c.in_ok-now.ensures.after ∙ ap (λ (i : Inputs). after i c.args.event) c.in_ok-before.ensures in
    once_now moment c.args.event c.in_ok-now.now c.requires.step.history is c.conf-once.ensures.once c.requires.free

pub returns : goal.returns
returns c =
    let f = c.args.follower.now in
    let moment : Moment = record { inputs = inputs_of f; held = held_of f.settling } in
    let is : c.in_ok-now.now ≡ after (inputs_of f) c.args.event = c.in_ok-now.ensures.after ∙ ap (λ (i : Inputs). after i c.args.event) c.in_ok-before.ensures in
    let made : Rebuild = record {
      inputs = c.in_ok-inputs.inputs;
      states = c.in_ok-states.states;
      gifts = c.in_ok-gifts.gifts;
      notices = c.in_ok-notices.notices;
      touched = c.in_ok-touched.touched;
      plain = c.in_ok-plain.plain;
      ports = c.in_ok-ports.ports;
    } in
    let told = c.in_ok-told.ensures (inputs_of f) (c.as_slice.ensures ∙ c.in_ok-numbers.ensures ∙ ap numbers_of c.in_ok-before.ensures) (ap (λ (i : Inputs). i.next) c.in_ok-before.ensures) in
    is_rebuild f c.args.event made c.in_ok-now.now c.in_ok-inputs.ensures is
    (c.in_ok-notices.ensures.told ∙ told) c.in_ok-states.ensures.tied c.in_ok-states.ensures.idle c.in_ok-gifts.ensures.held c.in_ok-gifts.ensures.none c.in_ok-gifts.ensures.room
    c.in_ok-plain.ensures (c.in_ok-ports.ensures ∙ c.in_ok-levels.ensures.ports.joined) c.in_ok-now.ensures.next
    (subst (λ (rows : List InterfaceRow). length rows ≤ vec_capacity c.in_ok-touched.touched) c.as_slice-rows.ensures c.in_ok-touched.ensures.capacity)
    (subst (λ (rows : List InterfaceRow). 2 * length rows ≤ deque_capacity c.in_ok-notices.notices) c.as_slice-rows.ensures c.in_ok-notices.ensures.room)
    (few_now moment c.args.event c.in_ok-now.now c.requires.step.history is c.requires.few)
