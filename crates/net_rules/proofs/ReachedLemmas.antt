-- What events keep of the inputs that they lead to.
use Rattle.std.proofs.Common.{◌≡◌, ℕ, List, [], ◌∷◌, ◌++◌, map, Bool, true, false, cond, Contains, Option, Some, None, refl, ap, sym, subst, ◌∙◌}
use Rattle.std.specs.Prelude.{bytes_eq, filter, not, ◌&&◌, ◌==◌}
use Rattle.std.specs.Option.{option_map}
use Rattle.std.proofs.lemmas.Bool.Decides.{Decides-eqb}
use Rattle.kern_model.specs.declared.object.Device.{Device}
use Rattle.kern_model.specs.declared.object.DevEvent.{DevEvent}
use Rattle.kern_model.specs.declared.object.DevEvent.TheVariants as device
use Rattle.kern_model.specs.Kernel.{with_carrier}
use Rattle.kern_model.proofs.MemberLemmas.{here, there}
use Rattle.kern_model.proofs.TestLemmas.{both, bytes_same}
use Rattle.net_rules.specs.declared.answer.Answer.{Answer}
use Rattle.net_rules.specs.declared.inputs.Inputs.{Inputs}
use Rattle.net_rules.specs.declared.inputs.OperatorState.{OperatorState}
use Rattle.net_rules.specs.declared.inputs.OpenInterface.{OpenInterface}
use Rattle.net_rules.specs.declared.inputs.OpenRadio.{OpenRadio}
use Rattle.net_rules.specs.declared.event.Event.{Event}
use Rattle.net_rules.specs.declared.event.Event.TheVariants as event
use Rattle.net_rules.specs.Inputs.{facts_of, open_interface, open_radio}
use Rattle.net_rules.specs.After.{carrier_set, devices_after, answered_interface, answered_radio, changed, asked, after}
use Rattle.net_rules.specs.Fresh.{IsReached, AreAsked}
use Rattle.net_rules.proofs.TableLemmas.{found_in, found_without, found_mapped}
use Rattle.net_rules.proofs.OnceLemmas.{AreOnce, once_filter, once_map, once_behind, found_once}
use Rattle.net_rules.proofs.NeedLemmas.{same_need_of}
use Rattle.net_rules.proofs.AfterLemmas.{AreSingle, asked_single, asked_requests, idle}

-- answers keep what they answer
answered_keeps : (interface : List ℕ) (number : ℕ) (answer : Answer) (o : OpenInterface) → (answered_interface interface number answer o).request ≡ o.request
answered_keeps interface number answer o = by_test (bytes_eq o.request.name interface && (o.number == number))
  where
    by_test : (b : Bool) → (cond b (record o { answer = Some answer }) o).request ≡ o.request
    by_test true = refl
    by_test false = refl

pub radio_keeps : (radio : List ℕ) (number : ℕ) (ports : List (Option (List ℕ))) (o : OpenRadio) → (answered_radio radio number ports o).request ≡ o.request
radio_keeps radio number ports o = by_test (bytes_eq o.request.name radio && (o.number == number))
  where
    by_test : (b : Bool) → (cond b (record o { ports = Some ports }) o).request ≡ o.request
    by_test true = refl
    by_test false = refl

pub interface_found : (interface : List ℕ) (number : ℕ) (answer : Answer) (xs : List OpenInterface) (q : List ℕ) → open_interface (map (answered_interface interface number answer) xs) q
    ≡ option_map (answered_interface interface number answer) (open_interface xs q)
interface_found interface number answer xs q = found_mapped (λ o. o.request.name) (answered_interface interface number answer) (λ o. ap (λ a. a.name) (answered_keeps interface number answer o)) xs q

pub radio_found : (radio : List ℕ) (number : ℕ) (ports : List (Option (List ℕ))) (xs : List OpenRadio) (q : List ℕ) → open_radio (map (answered_radio radio number ports) xs) q
    ≡ option_map (answered_radio radio number ports) (open_radio xs q)
radio_found radio number ports xs q = found_mapped (λ o. o.request.name) (answered_radio radio number ports) (λ o. ap (λ a. a.name) (radio_keeps radio number ports o)) xs q

-- the first step keeps the requests single
pub changed_single : (inputs : Inputs) (event : Event) → AreSingle inputs → AreSingle (changed inputs event)
changed_single inputs (event.Load conf) single = record { interfaces = single.interfaces; radios = single.radios }
changed_single inputs (event.Device what) single = record { interfaces = single.interfaces; radios = single.radios }
changed_single inputs (event.Operator interface up) single = record { interfaces = single.interfaces; radios = single.radios }
changed_single inputs (event.Answer interface number answer) single = record {
  interfaces = once_map (λ o. o.request.name) (answered_interface interface number answer) (λ o. ap (λ a. a.name) (answered_keeps interface number answer o)) (interface_found interface number answer) inputs.interfaces single.interfaces;
  radios = single.radios;
}
changed_single inputs (event.Radio radio number ports) single = record {
  interfaces = single.interfaces;
  radios = once_map (λ o. o.request.name) (answered_radio radio number ports) (λ o. ap (λ a. a.name) (radio_keeps radio number ports o)) (radio_found radio number ports) inputs.radios single.radios;
}

-- a list without a key, and with one value of it more, has each key once
one_more : {X : Type 0} (key : X → List ℕ) (x : X) (xs : List X) → AreOnce key xs → AreOnce key (filter (λ y. not (bytes_eq (key y) (key x))) xs ++ x ∷ [])
one_more {X} key x xs once = once_behind key (filter (λ y. not (bytes_eq (key y) (key x))) xs) (x ∷ []) (once_filter key (λ y. not (bytes_eq (key y) (key x))) xs once) (refl, tt)
    (λ q y h. by_key q (bytes_eq (key x) q) refl y (sym (found_without key (key x) xs q) ∙ h))
  where
    by_key : (q : List ℕ) (b : Bool) → bytes_eq (key x) q ≡ b → (y : X) → cond (bytes_eq (key x) q) None (found_in key xs q) ≡ Some y → cond (bytes_eq (key x) q) (Some x) None ≡ None
    by_key q true at y h = cc (sym (ap (λ c. cond c None (found_in key xs q)) at) ∙ h)
    by_key q false at y h = ap (λ c. cond c (Some x) None) at

carrier_keeps : (name : List ℕ) (on : Bool) (e : List ℕ × Device) → (carrier_set name on e).0 ≡ e.0
carrier_keeps name on e = by_test (bytes_eq e.0 name)
  where
    by_test : (b : Bool) → (cond b (e.0, with_carrier on e.1) e).0 ≡ e.0
    by_test true = refl
    by_test false = refl

devices_once : (es : List (List ℕ × Device)) (what : DevEvent) → AreOnce (λ e. e.0) es → AreOnce (λ e. e.0) (devices_after es what)
devices_once es (device.Add name carrier mtu mac) once = one_more (λ (e : List ℕ × Device). e.0) (name, record { carrier = carrier; mtu = mtu; mac = mac }) es once
devices_once es (device.Remove name) once = once_filter (λ e. e.0) (λ e. not (bytes_eq e.0 name)) es once
devices_once es (device.Carrier name on) once = once_map (λ e. e.0) (carrier_set name on) (carrier_keeps name on) (found_mapped (λ e. e.0) (carrier_set name on) (carrier_keeps name on)) es once

-- what is kept of inputs
pub record IsKept (inputs : Inputs) : Type 0 where
  pub single : AreSingle inputs
  pub are : AreAsked inputs
  pub devices : AreOnce (λ e. e.0) inputs.devices
  pub operator_states : AreOnce (λ c. c.interface) inputs.operator_states

devices_kept : (inputs : Inputs) (event : Event) → AreOnce (λ e. e.0) inputs.devices → AreOnce (λ e. e.0) (changed inputs event).devices
devices_kept inputs (event.Load conf) once = once
devices_kept inputs (event.Device what) once = devices_once inputs.devices what once
devices_kept inputs (event.Operator interface up) once = once
devices_kept inputs (event.Answer interface number answer) once = once
devices_kept inputs (event.Radio radio number ports) once = once

operator_states_kept : (inputs : Inputs) (event : Event) → AreOnce (λ c. c.interface) inputs.operator_states → AreOnce (λ c. c.interface) (changed inputs event).operator_states
operator_states_kept inputs (event.Load conf) once = once_filter (λ c. c.interface) _ inputs.operator_states once
operator_states_kept inputs (event.Device what) once = once
operator_states_kept inputs (event.Operator interface up) once = one_more (λ (c : OperatorState). c.interface) (record { interface = interface; up = up }) inputs.operator_states once
operator_states_kept inputs (event.Answer interface number answer) once = once
operator_states_kept inputs (event.Radio radio number ports) once = once

pub kept_after : (inputs : Inputs) (event : Event) → IsKept inputs → IsKept (after inputs event)
unfolding after
kept_after inputs event kept =
    let single = changed_single inputs event kept.single in
    record {
      single = asked_single (changed inputs event) single;
      are = asked_requests (changed inputs event) single;
      devices = devices_kept inputs event kept.devices;
      operator_states = operator_states_kept inputs event kept.operator_states;
    }

pub reached_kept : (inputs : Inputs) → IsReached inputs → IsKept inputs
reached_kept inputs IsReached.nothing = record { single = record { interfaces = tt; radios = tt }; are = record { interfaces = λ name. refl; radios = λ name. refl }; devices = tt; operator_states = tt }
reached_kept inputs (IsReached.behind before event reached) = kept_after before event (reached_kept before reached)

-- an answer changes no request of an interface
answered_requests : (interface : List ℕ) (number : ℕ) (answer : Answer) (o : Option OpenInterface) → option_map (λ x. x.request) (option_map (answered_interface interface number answer) o) ≡ option_map (λ x. x.request) o
answered_requests interface number answer None = refl
answered_requests interface number answer (Some o) = ap Some (answered_keeps interface number answer o)

pub answered_are : (inputs : Inputs) (interface : List ℕ) (number : ℕ) (answer : Answer) → AreAsked inputs → AreAsked (changed inputs (event.Answer interface number answer))
answered_are inputs interface number answer are = record {
  interfaces = λ q. ap (option_map (λ o. o.request)) (interface_found interface number answer inputs.interfaces q) ∙ answered_requests interface number answer (open_interface inputs.interfaces q) ∙ are.interfaces q
      ∙ sym (same_need_of (facts_of inputs) (facts_of (changed inputs (event.Answer interface number answer))).answer q);
  radios = are.radios;
}

pub after_answer : (inputs : Inputs) (interface : List ℕ) (number : ℕ) (answer : Answer) → AreSingle inputs → AreAsked inputs → after inputs (event.Answer interface number answer) ≡ changed inputs (event.Answer interface number answer)
unfolding after
after_answer inputs interface number answer single are =
    let now = answered_are inputs interface number answer are in
    idle (changed inputs (event.Answer interface number answer)) (changed_single inputs (event.Answer interface number answer) single) now.radios now.interfaces

-- answers to other numbers
mapped_alike : {X : Type 0} (f : X → X) → (xs : List X) → ((x : X) → Contains xs x → f x ≡ x) → map f xs ≡ xs
mapped_alike f [] same = refl
mapped_alike f (x ∷ xs) same = ap (λ y. y ∷ map f xs) (same x (here x xs)) ∙ ap (λ ys. x ∷ ys) (mapped_alike f xs (λ y h. same y (there x xs y h)))

other_number : (a b : List ℕ) (n m : ℕ) → (a ≡ b → n ≡ m → ⊥) → (bytes_eq a b && (n == m)) ≡ true → ⊥
other_number a b n m other h = let parts = both (bytes_eq a b) (n == m) h in other (bytes_same a b parts.0) ((Decides-eqb n m).0 parts.1)

left_alone : {X : Type 0} (b : Bool) (x y : X) → (b ≡ true → ⊥) → cond b x y ≡ y
left_alone true x y h = absurd (h refl)
left_alone false x y h = refl

pub stale_interface : (inputs : Inputs) → IsReached inputs → (interface : List ℕ) (number : ℕ) (answer : Answer) → ((o : OpenInterface) → open_interface inputs.interfaces interface ≡ Some o → o.number ≡ number → ⊥)
    → after inputs (event.Answer interface number answer) ≡ inputs
stale_interface inputs reached interface number answer stale =
    let kept = reached_kept inputs reached in
    let alike : map (answered_interface interface number answer) inputs.interfaces ≡ inputs.interfaces = mapped_alike (answered_interface interface number answer) inputs.interfaces (λ o member.
    left_alone (bytes_eq o.request.name interface && (o.number == number)) (record o { answer = Some answer }) o (other_number o.request.name interface o.number number (λ named same.
    stale o (subst (λ n. open_interface inputs.interfaces n ≡ Some o) named (found_once (λ x. x.request.name) inputs.interfaces kept.single.interfaces o member)) same))) in
    after_answer inputs interface number answer kept.single kept.are ∙ ap (λ xs. record inputs { interfaces = xs }) alike

pub stale_radio : (inputs : Inputs) → IsReached inputs → (radio : List ℕ) (number : ℕ) (ports : List (Option (List ℕ))) → ((o : OpenRadio) → open_radio inputs.radios radio ≡ Some o → o.number ≡ number → ⊥)
    → after inputs (event.Radio radio number ports) ≡ inputs
unfolding after
stale_radio inputs reached radio number ports stale =
    let kept = reached_kept inputs reached in
    let alike : map (answered_radio radio number ports) inputs.radios ≡ inputs.radios = mapped_alike (answered_radio radio number ports) inputs.radios (λ o member.
    left_alone (bytes_eq o.request.name radio && (o.number == number)) (record o { ports = Some ports }) o (other_number o.request.name radio o.number number (λ named same.
    stale o (subst (λ n. open_radio inputs.radios n ≡ Some o) named (found_once (λ x. x.request.name) inputs.radios kept.single.radios o member)) same))) in
    let now : changed inputs (event.Radio radio number ports) ≡ inputs = ap (λ xs. record inputs { radios = xs }) alike in
    ap asked now ∙ idle inputs kept.single kept.are.radios kept.are.interfaces
