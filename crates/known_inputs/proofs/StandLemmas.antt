-- What stands once still does behind each step.
use Rattle.std.proofs.Common.{arith, ℕ, ◌≡◌, ◌+◌, List, [], ◌∷◌, map, Bool, true, false, cond, Some, None, refl, ap, sym, subst, ◌∙◌}
use Rattle.std.specs.Prelude.{not, filter, bytes_eq, ◌&&◌, ◌==◌}
use Rattle.plane_words.specs.Distinct.{AreDistinct}
use Rattle.kern_model.specs.declared.object.Device.{Device}
use Rattle.kern_model.specs.declared.object.DevEvent.{DevEvent}
use Rattle.kern_model.specs.declared.object.DevEvent.TheVariants as device
use Rattle.kern_model.specs.Kernel.{with_carrier}
use Rattle.net_rows.specs.declared.rows.Conf.{Conf}
use Rattle.net_rules.specs.declared.answer.Answer.{Answer}
use Rattle.net_rules.specs.declared.request.InterfaceRequest.{InterfaceRequest}
use Rattle.net_rules.specs.declared.inputs.Inputs.{Inputs}
use Rattle.net_rules.specs.declared.inputs.OperatorState.{OperatorState}
use Rattle.net_rules.specs.declared.inputs.OpenInterface.{OpenInterface}
use Rattle.net_rules.specs.declared.event.Event.TheVariants as event
use Rattle.net_rules.specs.Inputs.{open_interface}
use Rattle.net_rules.specs.After.{without_device, carrier_set, devices_after, operator_states_after, answered_interface, changed}
use Rattle.net_rules.specs.Numbers.{AreRising}
use Rattle.known_inputs.specs.Known.{AreOfRows, IsNamed, StandOnce}
use Rattle.known_inputs.specs.Steps.{has_number, without_request, with_request}
use Rattle.known_inputs.proofs.NameLemmas.{distinct_kept, distinct_pushed, map_pushed, left_out, no_member, of_rows_kept, of_rows_pushed}
use Rattle.known_inputs.proofs.RisingLemmas.{rising_filtered, rising_pushed}

-- devices
carrier_named : (name : List ℕ) (on : Bool) (es : List (List ℕ × Device)) → map (λ e. e.0) (map (carrier_set name on) es) ≡ map (λ e. e.0) es
carrier_named name on [] = refl
carrier_named name on (e ∷ es) = ap (λ n. n ∷ map (λ (x : List ℕ × Device). x.0) (map (carrier_set name on) es)) (by (bytes_eq e.0 name)) ∙ ap (λ ns. e.0 ∷ ns) (carrier_named name on es)
  where
    by : (b : Bool) → (cond b (e.0, with_carrier on e.1) e).0 ≡ e.0
    by true = refl
    by false = refl

devices_distinct : (es : List (List ℕ × Device)) (what : DevEvent) → AreDistinct (map (λ e. e.0) es) → AreDistinct (map (λ e. e.0) (devices_after es what))
devices_distinct es (device.Add name carrier mtu mac) distinct =
    let key : List ℕ × Device → List ℕ = λ e. e.0 in
    let new : List ℕ × Device = (name, record { carrier = carrier; mtu = mtu; mac = mac }) in
    subst AreDistinct (sym (map_pushed key (without_device name es) new))
    (distinct_pushed (map key (without_device name es)) name (distinct_kept key (λ e. not (bytes_eq e.0 name)) es distinct) (left_out key name es))
devices_distinct es (device.Remove name) distinct = distinct_kept (λ e. e.0) (λ e. not (bytes_eq e.0 name)) es distinct
devices_distinct es (device.Carrier name on) distinct = subst AreDistinct (sym (carrier_named name on es)) distinct

pub stands_happened : (inputs : Inputs) (what : DevEvent) → StandOnce inputs → StandOnce (changed inputs (event.Device what))
stands_happened inputs what stand = record {
  devices = devices_distinct inputs.devices what stand.devices;
  operator_states = stand.operator_states;
  requests = stand.requests;
  numbers = stand.numbers;
  next = stand.next;
}

-- operator states
pub operator_states_of_rows : (conf : Conf) (operator_states : List OperatorState) (interface : List ℕ) (up : Bool) → AreOfRows conf (map (λ c. c.interface) operator_states) → IsNamed conf interface
    → AreOfRows conf (map (λ c. c.interface) (operator_states_after operator_states interface up))
operator_states_of_rows conf operator_states interface up are named =
    let key : OperatorState → List ℕ = λ c. c.interface in
    of_rows_pushed conf key (filter (λ c. not (bytes_eq c.interface interface)) operator_states) (record { interface = interface; up = up })
    (of_rows_kept conf key (λ c. not (bytes_eq c.interface interface)) operator_states are) (left_out key interface operator_states) named

pub stands_commanded : (inputs : Inputs) (interface : List ℕ) (up : Bool) → IsNamed inputs.conf interface → StandOnce inputs → StandOnce (changed inputs (event.Operator interface up))
stands_commanded inputs interface up named stand = record {
  devices = stand.devices;
  operator_states = operator_states_of_rows inputs.conf inputs.operator_states interface up stand.operator_states named;
  requests = stand.requests;
  numbers = stand.numbers;
  next = stand.next;
}

-- answers
module _ (interface : List ℕ) (number : ℕ) (answer : Answer) where
  abbrev told : OpenInterface → OpenInterface
  told = answered_interface interface number answer

  answered_keeps : {Y : Type 0} (f : OpenInterface → Y) → ((o : OpenInterface) → f (record o { answer = Some answer }) ≡ f o) → (os : List OpenInterface) → map f (map told os) ≡ map f os
  answered_keeps f keeps [] = refl
  answered_keeps f keeps (o ∷ os) = ap (λ y. y ∷ map f (map told os)) (by (bytes_eq o.request.name interface && (o.number == number))) ∙ ap (λ ys. f o ∷ ys) (answered_keeps f keeps os)
    where
      by : (b : Bool) → f (cond b (record o { answer = Some answer }) o) ≡ f o
      by true = keeps o
      by false = refl

  pub stands_answered : (inputs : Inputs) → StandOnce inputs → StandOnce (changed inputs (event.Answer interface number answer))
  stands_answered inputs stand = record {
    devices = stand.devices;
    operator_states = stand.operator_states;
    requests = subst (AreOfRows inputs.conf) (sym (answered_keeps (λ o. o.request.name) (λ o. refl) inputs.interfaces)) stand.requests;
    numbers = subst (AreRising 1 inputs.next) (sym (answered_keeps (λ o. o.number) (λ o. refl) inputs.interfaces)) stand.numbers;
    next = stand.next;
  }

-- requests that are closed and opened
pub stands_closed : (inputs : Inputs) (number : ℕ) → StandOnce inputs → StandOnce (without_request inputs number)
stands_closed inputs number stand = record {
  devices = stand.devices;
  operator_states = stand.operator_states;
  requests = of_rows_kept inputs.conf (λ o. o.request.name) (λ o. not (has_number number o)) inputs.interfaces stand.requests;
  numbers = rising_filtered (λ o. not (has_number number o)) inputs.interfaces 1 inputs.next stand.numbers;
  next = stand.next;
}

pub stands_opened : (inputs : Inputs) (request : InterfaceRequest) → open_interface inputs.interfaces request.name ≡ None → IsNamed inputs.conf request.name → StandOnce inputs → StandOnce (with_request inputs request)
stands_opened inputs request new named stand =
    let opened : OpenInterface = record { number = inputs.next; request = request; answer = None } in
    let first = stand.next in
    record {
      devices = stand.devices;
      operator_states = stand.operator_states;
      requests = of_rows_pushed inputs.conf (λ o. o.request.name) inputs.interfaces opened stand.requests (no_member (λ (o : OpenInterface). o.request.name) inputs.interfaces request.name new) named;
      numbers = subst (AreRising 1 (inputs.next + 1)) (sym (map_pushed (λ (o : OpenInterface). o.number) inputs.interfaces opened)) (rising_pushed 1 inputs.next (map (λ o. o.number) inputs.interfaces) first stand.numbers);
      next = omega (arith, first);
    }
