-- The last three steps by the lists of needs.
use Rattle.std.proofs.Common.{◌≡◌, ℕ, ◌<◌, ◌^◌, List, [], ◌∷◌, Bool, cond, refl, sym, ap, ◌∙◌, subst}
use Rattle.std.specs.Prelude.{filter, not, is_some, is_none, Option, None, Some, Result, IfOk}
use Rattle.std.specs.List.{filter_map}
use Rattle.net_rules.specs.declared.request.InterfaceRequest.{InterfaceRequest}
use Rattle.net_rules.specs.declared.request.RadioRequest.{RadioRequest}
use Rattle.net_rules.specs.declared.inputs.Inputs.{Inputs}
use Rattle.net_rules.specs.declared.inputs.OpenInterface.{OpenInterface}
use Rattle.net_rules.specs.declared.inputs.OpenRadio.{OpenRadio}
use Rattle.net_rules.specs.declared.event.Event.{Event}
use Rattle.net_rules.specs.declared.event.Event.TheVariants as event
use Rattle.net_rules.specs.Rows.{interfaces_of, radios_of}
use Rattle.net_rules.specs.Need.{interface_need, radio_need, same_interface_request, same_radio_request}
use Rattle.net_rules.specs.Available.{available, link}
use Rattle.net_rules.specs.Inputs.{facts_of}
use Rattle.net_rules.specs.After.{changed, is_same_need, interface_need_of, radio_need_of, radios_dropped, interfaces_dropped, requests_opened, asked, after}
use Rattle.net_rules.specs.Numbers.{AreCountable}
use Rattle.net_rules.proofs.NeedLemmas.{interface_needs_found, radio_needs_found}
use Rattle.net_view.specs.Places.{named}

-- a filter by a test that answers the same
same_filter : {X : Type 0} (p q : X → Bool) → ((x : X) → p x ≡ q x) → (xs : List X) → filter p xs ≡ filter q xs
same_filter p q same [] = refl
same_filter p q same (x ∷ xs) = λ i. cond (same x i) (x ∷ same_filter p q same xs i) (same_filter p q same xs i)

pub radios_left : (inputs : Inputs) (needs : List RadioRequest) (kept : List OpenRadio) → needs ≡ filter_map radio_need (radios_of inputs.conf) → kept
    ≡ filter (λ o. is_same_need same_radio_request (named (λ request. request.name) needs o.request.name) o.request) inputs.radios → record inputs { radios = kept } ≡ radios_dropped inputs
radios_left inputs needs kept are is =
    let found : (name : List ℕ) → named (λ request. request.name) needs name ≡ radio_need_of inputs.conf name = λ name. ap (λ (z : List RadioRequest). named (λ request. request.name) z name) are ∙ radio_needs_found inputs.conf name in
    ap (λ (z : List OpenRadio). record inputs { radios = z })
    (is ∙ same_filter (λ o. is_same_need same_radio_request (named (λ request. request.name) needs o.request.name) o.request) (λ o. is_same_need same_radio_request (radio_need_of inputs.conf o.request.name) o.request)
    (λ o. ap (λ need. is_same_need same_radio_request need o.request) (found o.request.name)) inputs.radios)

pub interfaces_left : (inputs : Inputs) (needs : List InterfaceRequest) (kept : List OpenInterface) → needs ≡ filter_map (interface_need (facts_of inputs)) (interfaces_of inputs.conf) → kept
    ≡ filter (λ o. is_same_need same_interface_request (named (λ request. request.name) needs o.request.name) o.request) inputs.interfaces → record inputs { interfaces = kept } ≡ interfaces_dropped inputs
interfaces_left inputs needs kept are is =
    let found : (name : List ℕ) → named (λ request. request.name) needs name ≡ interface_need_of (facts_of inputs) name = λ name. ap (λ (z : List InterfaceRequest). named (λ request. request.name) z name) are
    ∙ interface_needs_found (facts_of inputs) name in
    ap (λ (z : List OpenInterface). record inputs { interfaces = z })
    (is ∙ same_filter (λ o. is_same_need same_interface_request (named (λ request. request.name) needs o.request.name) o.request) (λ o. is_same_need same_interface_request (interface_need_of (facts_of inputs) o.request.name) o.request)
    (λ o. ap (λ need. is_same_need same_interface_request need o.request) (found o.request.name)) inputs.interfaces)

-- dropping requests of interfaces changes no need
pub needs_stay : (inputs : Inputs) → filter_map (interface_need (facts_of inputs)) (interfaces_of inputs.conf) ≡ filter_map (interface_need (facts_of (interfaces_dropped inputs))) (interfaces_of (interfaces_dropped inputs).conf)
unfolding available link
needs_stay inputs = refl

-- an event's first step gives no number
pub number_stays : (inputs : Inputs) (event : Event) → (changed inputs event).next ≡ inputs.next
number_stays inputs (event.Load conf) = refl
number_stays inputs (event.Device what) = refl
number_stays inputs (event.Operator interface up) = refl
number_stays inputs (event.Answer interface number answer) = refl
number_stays inputs (event.Radio radio number ports) = refl

-- what holds of the inputs from step to step
pub still_countable : (inputs now : Inputs) → now.next ≡ inputs.next → AreCountable inputs → AreCountable now
still_countable inputs now same countable = record { below = subst (λ (n : ℕ). n < 2 ^ 63) (sym same) countable.below }

pub needs_now : (dropped now : Inputs) (needs : List InterfaceRequest) → now ≡ interfaces_dropped dropped → needs ≡ filter_map (interface_need (facts_of dropped)) (interfaces_of dropped.conf) → needs
    ≡ filter_map (interface_need (facts_of now)) (interfaces_of now.conf)
needs_now dropped now needs is are = are ∙ needs_stay dropped ∙ sym (ap (λ (z : Inputs). filter_map (interface_need (facts_of z)) (interfaces_of z.conf)) is)

pub conf_now : (inputs dropped now : Inputs) → dropped ≡ radios_dropped inputs → now ≡ interfaces_dropped dropped → now.conf ≡ inputs.conf
conf_now inputs dropped now is then_is = ap (λ (z : Inputs). z.conf) then_is ∙ ap (λ (z : Inputs). z.conf) is

pub next_now : (inputs dropped now : Inputs) → dropped ≡ radios_dropped inputs → now ≡ interfaces_dropped dropped → now.next ≡ inputs.next
next_now inputs dropped now is then_is = ap (λ (z : Inputs). z.next) then_is ∙ ap (λ (z : Inputs). z.next) is

pub asked_ok : {E : Type 0} (inputs dropped left : Inputs) (r : Result Inputs E) → dropped ≡ radios_dropped inputs → left ≡ interfaces_dropped dropped → IfOk r (λ now. now ≡ requests_opened left) → IfOk r (λ now. now ≡ asked inputs)
asked_ok inputs dropped left r first second done = subst (λ (z : Inputs). IfOk r (λ now. now ≡ requests_opened z)) (second ∙ ap interfaces_dropped first) done

pub after_ok : {E : Type 0} (inputs : Inputs) (event : Event) (between : Inputs) (r : Result Inputs E) → between ≡ changed inputs event → IfOk r (λ now. now ≡ asked between) → IfOk r (λ now. now ≡ after inputs event)
unfolding after
after_ok inputs event between r is done = subst (λ (z : Inputs). IfOk r (λ now. now ≡ asked z)) is done

pub none_is_not_some : {X : Type 0} (o : Option X) → not (is_some o) ≡ is_none o
none_is_not_some None = refl
none_is_not_some (Some x) = refl
