use Rattle.std.proofs.Common.{rules, ◌≡◌, IfOk, IfErr, map, ap, sym, subst, ◌∙◌}
use Rattle.std.proofs.lemmas.List.Sorted.{answers_always}
use Rattle.net_rules.specs.Numbers.{AreRising}
use Rattle.known_inputs.specs.Steps.{has_number}
use Rattle.known_inputs.specs.Places.{NonePass, OnlyAt}
use Rattle.known_inputs.proofs.PlaceLemmas.{only_within}
use Rattle.known_inputs.proofs.RisingLemmas.{searched}
use Rattle.known_inputs.proofs.known.KnownInputs.request_place.Goals as goal

pub returns-in-Ok-clause-found : goal.returns-in-Ok-clause-found
returns-in-Ok-clause-found c =
    let same : c.deref.result.now ≡ c.args.self.now.inputs.interfaces = c.deref.ensures.value ∙ ap (λ known. known.inputs.interfaces) c.self.view_is in
    let rising = subst (λ os. AreRising 1 c.self.inside.next (map (λ o. o.number) os)) (sym c.deref.ensures.value) c.self.invariant.once.numbers in
    let facts = c.binary_search_by_key.ensures in
    let by_key = facts.position (λ request. request.number) (answers_always _ _ _ (λ f a r g called. search rules)) in
    subst (λ os. OnlyAt (has_number c.args.number) os c.in-Ok.place) same
    (subst (λ r. IfOk r (OnlyAt (has_number c.args.number) c.deref.result.now)) c.in-Ok.is (searched c.args.number c.deref.result.now 1 c.self.inside.next rising _ facts.bound by_key).found)

pub returns-in-Ok-clause-within : goal.returns-in-Ok-clause-within
returns-in-Ok-clause-within c = only_within (has_number c.args.number) c.args.self.now.inputs.interfaces c.in-Ok.place (returns-in-Ok-clause-found c)

pub returns-in-Err-clause-none : goal.returns-in-Err-clause-none
returns-in-Err-clause-none c =
    let same : c.deref.result.now ≡ c.args.self.now.inputs.interfaces = c.deref.ensures.value ∙ ap (λ known. known.inputs.interfaces) c.self.view_is in
    let rising = subst (λ os. AreRising 1 c.self.inside.next (map (λ o. o.number) os)) (sym c.deref.ensures.value) c.self.invariant.once.numbers in
    let facts = c.binary_search_by_key.ensures in
    let by_key = facts.position (λ request. request.number) (answers_always _ _ _ (λ f a r g called. search rules)) in
    subst (λ os. NonePass (has_number c.args.number) os) same
    (subst (λ r. IfErr r (λ gap. NonePass (has_number c.args.number) c.deref.result.now)) c.in-Err.is (searched c.args.number c.deref.result.now 1 c.self.inside.next rising _ facts.bound by_key).absent)
