use Rattle.std.proofs.Common.{◌≤◌, length, slice_get, ap, sym, subst, ◌∙◌}
use Rattle.net_rules.specs.declared.event.Event.TheVariants as event
use Rattle.net_rules.specs.After.{changed}
use Rattle.known_inputs.specs.Known.{Known, StandOnce}
use Rattle.known_inputs.specs.Steps.{has_number}
use Rattle.known_inputs.specs.Places.{OnlyAt, is_request_of}
use Rattle.known_inputs.specs.Inside.{inputs_in, known_in}
use Rattle.known_inputs.proofs.StandLemmas.{stands_answered}
use Rattle.known_inputs.proofs.RequestLemmas.{not_answered, is_answered, of_another}
use Rattle.known_inputs.proofs.known.KnownInputs.answer.Goals as goal

pub returns-in_default : goal.returns-in_default
returns-in_default c =
    let known = c.args.self.now in
    ap (λ os. record known { inputs = record known.inputs { interfaces = os } }) (sym (not_answered c.args.interface.now c.args.number c.args.answer known.inputs.interfaces c.in_default.ensures.none))

pub returns-then-is_request_of : goal.returns-then-is_request_of
returns-then-is_request_of c =
    let k = c.self.inside in
    let only = subst (λ known. OnlyAt (has_number c.args.number) known.inputs.interfaces c.in-Some.place) (sym c.self.view_is) c.in-Some.ensures.found in
    let is = ap (λ os. is_request_of c.args.interface.now (slice_get os c.in-Some.place)) (sym c.deref.ensures.value) ∙ sym c.is_request_of.ensures ∙ c.if-is_request_of.true in
    let items = c.tell.ensures.items ∙ is_answered c.args.interface.now c.args.number c.args.answer k.interfaces.items c.in-Some.place only is in
    ap (λ os. record (known_in k) { inputs = record (inputs_in k) { interfaces = os } }) items
    ∙ ap (λ (known : Known). record known { inputs = changed known.inputs (event.Answer c.args.interface.now c.args.number c.args.answer) }) c.self.view_is

pub invariant_of-self : goal.invariant_of-self
invariant_of-self c =
    let k = c.self.inside in
    let only = subst (λ known. OnlyAt (has_number c.args.number) known.inputs.interfaces c.in-Some.place) (sym c.self.view_is) c.in-Some.ensures.found in
    let is = ap (λ os. is_request_of c.args.interface.now (slice_get os c.in-Some.place)) (sym c.deref.ensures.value) ∙ sym c.is_request_of.ensures ∙ c.if-is_request_of.true in
    let items = c.tell.ensures.items ∙ is_answered c.args.interface.now c.args.number c.args.answer k.interfaces.items c.in-Some.place only is in
    record {
      once = subst (λ os. StandOnce (record (inputs_in k) { interfaces = os })) (sym items) (stands_answered c.args.interface.now c.args.number c.args.answer (inputs_in k) c.self.invariant.once);
      operator_states = c.self.invariant.operator_states;
      requests = subst (λ n. length k.conf.interfaces ≤ n) (sym c.tell.ensures.room) c.self.invariant.requests;
    }

pub returns-else-is_request_of : goal.returns-else-is_request_of
returns-else-is_request_of c =
    let known = c.args.self.now in
    let is = ap (λ os. is_request_of c.args.interface.now (slice_get os c.in-Some.place)) (sym (c.deref.ensures.value ∙ ap (λ k. k.inputs.interfaces) c.self.view_is)) ∙ sym c.is_request_of.ensures ∙ c.if-is_request_of.false in
    ap (λ os. record known { inputs = record known.inputs { interfaces = os } }) (of_another c.args.interface.now c.args.number c.args.answer known.inputs.interfaces c.in-Some.place c.in-Some.ensures.found is)
