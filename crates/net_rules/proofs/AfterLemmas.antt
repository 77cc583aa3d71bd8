-- What the last three steps of an event make of the requests.
use Rattle.std.proofs.Common.{◌≡◌, ℕ, ◌+◌, List, [], ◌∷◌, ◌++◌, length, Bool, true, false, cond, Option, Some, None, refl, ap, sym, ◌∙◌, arith}
use Rattle.std.specs.Prelude.{bytes_eq, is_none}
use Rattle.std.specs.List.{filter_map}
use Rattle.std.specs.Option.{option_map, option_and_then}
use Rattle.net_rules.specs.declared.request.InterfaceRequest.{InterfaceRequest}
use Rattle.net_rules.specs.declared.request.RadioRequest.{RadioRequest}
use Rattle.net_rules.specs.declared.inputs.Inputs.{Inputs}
use Rattle.net_rules.specs.declared.inputs.OpenInterface.{OpenInterface}
use Rattle.net_rules.specs.declared.inputs.OpenRadio.{OpenRadio}
use Rattle.net_rules.specs.Facts.{Facts}
use Rattle.net_rules.specs.Rows.{interfaces_of, radios_of}
use Rattle.net_rules.specs.Need.{interface_need, radio_need, same_interface_request, same_radio_request}
use Rattle.net_rules.specs.Inputs.{facts_of, open_interface, open_radio}
use Rattle.net_rules.specs.After.{interface_need_of, radio_need_of, radios_dropped, interfaces_dropped, is_same_need, new_interface_requests, new_radio_requests, opened_interfaces, opened_radios, asked}
use Rattle.net_rules.specs.Fresh.{AreAsked}
use Rattle.net_rules.proofs.TableLemmas.{found_in}
use Rattle.net_rules.proofs.OnceLemmas.{AreOnce, kept_if, once_filter}
use Rattle.net_rules.proofs.SameLemmas.{interface_requests, radio_requests}
use Rattle.net_rules.proofs.NeedLemmas.{same_need_of, interface_need_named, radio_need_named, interface_needs_found, interface_needs_once, radio_needs_found, radio_needs_once}
use Rattle.net_rules.proofs.RequestLemmas.{left_found, renewed_once, renewed, renewed_value, nothing_dropped, nothing_opened}

abbrev pub interface_key : OpenInterface → List ℕ
interface_key o = o.request.name

abbrev pub radio_key : OpenRadio → List ℕ
radio_key o = o.request.name

-- each interface and each radio has one request at most
pub record AreSingle (inputs : Inputs) : Type 0 where
  pub interfaces : AreOnce (λ o. o.request.name) inputs.interfaces
  pub radios : AreOnce (λ o. o.request.name) inputs.radios

-- what is opened
asked_step : {O A : Type 0} (request : O → A) (b : Bool) (o : O) (x : Option O) (y : Option A) → option_map request x ≡ y → option_map request (cond b (Some o) x) ≡ cond b (Some (request o)) y
asked_step request true o x y h = refl
asked_step request false o x y h = h

interfaces_open : (next : ℕ) (requests : List InterfaceRequest) (q : List ℕ) → option_map (λ o. o.request) (found_in (λ o. o.request.name) (opened_interfaces next requests) q) ≡ found_in (λ a. a.name) requests q
interfaces_open next [] q = refl
interfaces_open next (a ∷ others) q = asked_step (λ o. o.request) (bytes_eq a.name q) (record { number = next; request = a; answer = None }) (found_in (λ o. o.request.name) (opened_interfaces (next + 1) others) q)
    (found_in (λ b. b.name) others q)
    (interfaces_open (next + 1) others q)

none_of_map : {O A : Type 0} (request : O → A) (x : Option O) → option_map request x ≡ None → x ≡ None
none_of_map request None h = refl
none_of_map request (Some o) h = cc h

interfaces_open_once : (next : ℕ) (requests : List InterfaceRequest) → AreOnce (λ a. a.name) requests → AreOnce (λ o. o.request.name) (opened_interfaces next requests)
interfaces_open_once next [] once = tt
interfaces_open_once next (a ∷ others) once = (
  none_of_map (λ o. o.request) (found_in (λ o. o.request.name) (opened_interfaces (next + 1) others) a.name) (interfaces_open (next + 1) others a.name ∙ once.0),
  interfaces_open_once (next + 1) others once.1,
)

bare_interface : (next : ℕ) (requests : List InterfaceRequest) (q : List ℕ) (o : OpenInterface) → found_in (λ x. x.request.name) (opened_interfaces next requests) q ≡ Some o → o.answer ≡ None
bare_interface next [] q o h = cc h
bare_interface next (a ∷ others) q o h = by_name (bytes_eq a.name q) h (bare_interface (next + 1) others q o)
  where
    by_name : (b : Bool) → cond b (Some (record { number = next; request = a; answer = None })) (found_in (λ x. x.request.name) (opened_interfaces (next + 1) others) q) ≡ Some o
        → (found_in (λ x. x.request.name) (opened_interfaces (next + 1) others) q ≡ Some o → o.answer ≡ None) → o.answer ≡ None
    by_name true e later = let same : record { number = next; request = a; answer = None } ≡ o = cc e in ap (λ x. x.answer) (sym same)
    by_name false e later = later e

radios_open : (next : ℕ) (requests : List RadioRequest) (q : List ℕ) → option_map (λ o. o.request) (found_in (λ o. o.request.name) (opened_radios next requests) q) ≡ found_in (λ a. a.name) requests q
radios_open next [] q = refl
radios_open next (a ∷ others) q = asked_step (λ o. o.request) (bytes_eq a.name q) (record { number = next; request = a; ports = None }) (found_in (λ o. o.request.name) (opened_radios (next + 1) others) q) (found_in (λ b. b.name) others q)
    (radios_open (next + 1) others q)

radios_open_once : (next : ℕ) (requests : List RadioRequest) → AreOnce (λ a. a.name) requests → AreOnce (λ o. o.request.name) (opened_radios next requests)
radios_open_once next [] once = tt
radios_open_once next (a ∷ others) once = (none_of_map (λ o. o.request) (found_in (λ o. o.request.name) (opened_radios (next + 1) others) a.name) (radios_open (next + 1) others a.name ∙ once.0), radios_open_once (next + 1) others once.1)

bare_radio : (next : ℕ) (requests : List RadioRequest) (q : List ℕ) (o : OpenRadio) → found_in (λ x. x.request.name) (opened_radios next requests) q ≡ Some o → o.ports ≡ None
bare_radio next [] q o h = cc h
bare_radio next (a ∷ others) q o h = by_name (bytes_eq a.name q) h (bare_radio (next + 1) others q o)
  where
    by_name : (b : Bool) → cond b (Some (record { number = next; request = a; ports = None })) (found_in (λ x. x.request.name) (opened_radios (next + 1) others) q) ≡ Some o
        → (found_in (λ x. x.request.name) (opened_radios (next + 1) others) q ≡ Some o → o.ports ≡ None) → o.ports ≡ None
    by_name true e later = let same : record { number = next; request = a; ports = None } ≡ o = cc e in ap (λ x. x.ports) (sym same)
    by_name false e later = later e

append_none : {X : Type 0} → (xs : List X) → xs ++ [] ≡ xs
append_none [] = refl
append_none (x ∷ xs) = ap (λ ys. x ∷ ys) (append_none xs)

none_kept_of : {X V : Type 0} (p : X → Bool) (value : X → Option V) (o : Option X) → option_and_then value o ≡ None → option_and_then value (kept_if p o) ≡ None
none_kept_of p value None h = refl
none_kept_of p value (Some x) h = by_test (p x)
  where
    by_test : (b : Bool) → option_and_then value (cond b (Some x) None) ≡ None
    by_test true = h
    by_test false = refl

module _ (inputs : Inputs) (single : AreSingle inputs) where
  abbrev behind_radios : Inputs
  behind_radios = radios_dropped inputs

  abbrev behind_interfaces : Inputs
  behind_interfaces = interfaces_dropped (radios_dropped inputs)

  abbrev the_facts : Facts
  the_facts = facts_of (radios_dropped inputs)

  abbrev interface_list : List InterfaceRequest
  interface_list = filter_map (interface_need (facts_of (interfaces_dropped (radios_dropped inputs)))) (interfaces_of inputs.conf)

  abbrev radio_list : List RadioRequest
  radio_list = filter_map radio_need (radios_of inputs.conf)

  -- the needs of interfaces are those with the radio answers that are left
  interfaces_all : (q : List ℕ) → found_in (λ a. a.name) interface_list q ≡ interface_need_of the_facts q
  interfaces_all q = interface_needs_found (facts_of behind_interfaces) q ∙ same_need_of the_facts (facts_of behind_interfaces).answer q

  pub radios_single : AreOnce (λ o. o.request.name) (asked inputs).radios
  radios_single =
      renewed_once (λ o. o.request) (λ a. a.name) same_radio_request radio_requests (radio_need_of inputs.conf) (radio_need_named inputs.conf) inputs.radios single.radios radio_list (radio_needs_once inputs.conf)
      (radio_needs_found inputs.conf)
      (opened_radios (inputs.next + length (new_interface_requests behind_interfaces)) (new_radio_requests behind_interfaces))
      (radios_open_once (inputs.next + length (new_interface_requests behind_interfaces)) (new_radio_requests behind_interfaces)
      (once_filter (λ a. a.name) (λ a. is_none (open_radio behind_interfaces.radios a.name)) radio_list (radio_needs_once inputs.conf)))
      (radios_open (inputs.next + length (new_interface_requests behind_interfaces)) (new_radio_requests behind_interfaces))

  pub interfaces_single : AreOnce (λ o. o.request.name) (asked inputs).interfaces
  interfaces_single =
      renewed_once (λ o. o.request) (λ a. a.name) same_interface_request interface_requests (interface_need_of the_facts) (interface_need_named the_facts) inputs.interfaces single.interfaces interface_list
      (interface_needs_once (facts_of behind_interfaces)) interfaces_all
      (opened_interfaces inputs.next (new_interface_requests behind_interfaces))
      (interfaces_open_once inputs.next (new_interface_requests behind_interfaces)
      (once_filter (λ a. a.name) (λ a. is_none (open_interface behind_interfaces.interfaces a.name)) interface_list (interface_needs_once (facts_of behind_interfaces))))
      (interfaces_open inputs.next (new_interface_requests behind_interfaces))

  pub asked_single : AreSingle (asked inputs)
  asked_single = record { interfaces = interfaces_single; radios = radios_single }

  radios_asked : (q : List ℕ) → option_map (λ o. o.request) (open_radio (asked inputs).radios q) ≡ radio_need_of inputs.conf q
  radios_asked =
      renewed (λ o. o.request) (λ a. a.name) same_radio_request radio_requests (radio_need_of inputs.conf) (radio_need_named inputs.conf) inputs.radios single.radios radio_list (radio_needs_once inputs.conf) (radio_needs_found inputs.conf)
      (opened_radios (inputs.next + length (new_interface_requests behind_interfaces)) (new_radio_requests behind_interfaces))
      (radios_open_once (inputs.next + length (new_interface_requests behind_interfaces)) (new_radio_requests behind_interfaces)
      (once_filter (λ a. a.name) (λ a. is_none (open_radio behind_interfaces.radios a.name)) radio_list (radio_needs_once inputs.conf)))
      (radios_open (inputs.next + length (new_interface_requests behind_interfaces)) (new_radio_requests behind_interfaces))

  interfaces_asked : (q : List ℕ) → option_map (λ o. o.request) (open_interface (asked inputs).interfaces q) ≡ interface_need_of the_facts q
  interfaces_asked =
      renewed (λ o. o.request) (λ a. a.name) same_interface_request interface_requests (interface_need_of the_facts) (interface_need_named the_facts) inputs.interfaces single.interfaces interface_list
      (interface_needs_once (facts_of behind_interfaces))
      interfaces_all
      (opened_interfaces inputs.next (new_interface_requests behind_interfaces))
      (interfaces_open_once inputs.next (new_interface_requests behind_interfaces)
      (once_filter (λ a. a.name) (λ a. is_none (open_interface behind_interfaces.interfaces a.name)) interface_list (interface_needs_once (facts_of behind_interfaces))))
      (interfaces_open inputs.next (new_interface_requests behind_interfaces))

  -- the radio answers are those that are left
  pub ports_left : (q : List ℕ) → (facts_of (asked inputs)).ports q ≡ the_facts.ports q
  ports_left =
      renewed_value (λ o. o.request) (λ a. a.name) same_radio_request radio_requests (radio_need_of inputs.conf) (radio_need_named inputs.conf) inputs.radios single.radios radio_list (radio_needs_once inputs.conf)
      (radio_needs_found inputs.conf)
      (opened_radios (inputs.next + length (new_interface_requests behind_interfaces)) (new_radio_requests behind_interfaces))
      (radios_open_once (inputs.next + length (new_interface_requests behind_interfaces)) (new_radio_requests behind_interfaces)
      (once_filter (λ a. a.name) (λ a. is_none (open_radio behind_interfaces.radios a.name)) radio_list (radio_needs_once inputs.conf)))
      (radios_open (inputs.next + length (new_interface_requests behind_interfaces)) (new_radio_requests behind_interfaces))
      (λ o. o.ports) (bare_radio (inputs.next + length (new_interface_requests behind_interfaces)) (new_radio_requests behind_interfaces))

  facts_left : facts_of (asked inputs) ≡ record the_facts { answer = (facts_of (asked inputs)).answer }
  facts_left = λ i. record (facts_of (asked inputs)) { ports = λ q. ports_left q i }

  pub asked_requests : AreAsked (asked inputs)
  asked_requests = record {
    interfaces = λ q. interfaces_asked q ∙ sym (ap (λ f. interface_need_of f q) facts_left ∙ same_need_of the_facts (facts_of (asked inputs)).answer q);
    radios = radios_asked;
  }

  -- no interface that had no answer has one
  pub no_answer_left : (q : List ℕ) → (facts_of inputs).answer q ≡ None → (facts_of (asked inputs)).answer q ≡ None
  no_answer_left q none =
      renewed_value (λ o. o.request) (λ a. a.name) same_interface_request interface_requests (interface_need_of the_facts) (interface_need_named the_facts) inputs.interfaces single.interfaces interface_list
      (interface_needs_once (facts_of behind_interfaces)) interfaces_all
      (opened_interfaces inputs.next (new_interface_requests behind_interfaces))
      (interfaces_open_once inputs.next (new_interface_requests behind_interfaces)
      (once_filter (λ a. a.name) (λ a. is_none (open_interface behind_interfaces.interfaces a.name)) interface_list (interface_needs_once (facts_of behind_interfaces))))
      (interfaces_open inputs.next (new_interface_requests behind_interfaces))
      (λ o. o.answer) (bare_interface inputs.next (new_interface_requests behind_interfaces)) q
      ∙ ap (option_and_then (λ o. o.answer)) (left_found (λ o. o.request) (λ a. a.name) same_interface_request interface_requests (interface_need_of the_facts) (interface_need_named the_facts) inputs.interfaces single.interfaces
      interface_list
      (interface_needs_once (facts_of behind_interfaces)) interfaces_all q)
      ∙ none_kept_of (λ o. is_same_need same_interface_request (interface_need_of the_facts o.request.name) o.request) (λ o. o.answer) (open_interface inputs.interfaces q) none

  -- where the requests of radios are the needs already, they stay
  module _ (are : (q : List ℕ) → option_map (λ o. o.request) (open_radio inputs.radios q) ≡ radio_need_of inputs.conf q) where
    radios_kept : (radios_dropped inputs).radios ≡ inputs.radios
    radios_kept = nothing_dropped (λ o. o.request) (λ a. a.name) same_radio_request radio_requests (radio_need_of inputs.conf) (radio_need_named inputs.conf) inputs.radios single.radios radio_list (radio_needs_once inputs.conf)
        (radio_needs_found inputs.conf) are

    no_new_radios : new_radio_requests behind_interfaces ≡ []
    no_new_radios = nothing_opened (λ o. o.request) (λ a. a.name) same_radio_request radio_requests (radio_need_of inputs.conf) (radio_need_named inputs.conf) inputs.radios single.radios radio_list (radio_needs_once inputs.conf)
        (radio_needs_found inputs.conf) are

    pub radios_stay : (asked inputs).radios ≡ inputs.radios
    radios_stay = ap (λ requests. (radios_dropped inputs).radios ++ opened_radios (inputs.next + length (new_interface_requests behind_interfaces)) requests) no_new_radios ∙ append_none (radios_dropped inputs).radios ∙ radios_kept

    -- where those of interfaces are too, nothing changes
    module _ (too : (q : List ℕ) → option_map (λ o. o.request) (open_interface inputs.interfaces q) ≡ interface_need_of (facts_of inputs) q) where
      same_inputs : radios_dropped inputs ≡ inputs
      same_inputs = λ i. record inputs { radios = radios_kept i }

      needed : (q : List ℕ) → option_map (λ o. o.request) (found_in (λ o. o.request.name) inputs.interfaces q) ≡ interface_need_of the_facts q
      needed q = too q ∙ sym (ap (λ s. interface_need_of (facts_of s) q) same_inputs)

      interfaces_kept : (interfaces_dropped (radios_dropped inputs)).interfaces ≡ inputs.interfaces
      interfaces_kept = nothing_dropped (λ o. o.request) (λ a. a.name) same_interface_request interface_requests (interface_need_of the_facts) (interface_need_named the_facts) inputs.interfaces single.interfaces interface_list
          (interface_needs_once (facts_of behind_interfaces)) interfaces_all needed

      no_new_interfaces : new_interface_requests behind_interfaces ≡ []
      no_new_interfaces = nothing_opened (λ o. o.request) (λ a. a.name) same_interface_request interface_requests (interface_need_of the_facts) (interface_need_named the_facts) inputs.interfaces single.interfaces interface_list
          (interface_needs_once (facts_of behind_interfaces)) interfaces_all needed

      interfaces_stay : (asked inputs).interfaces ≡ inputs.interfaces
      interfaces_stay = ap (λ requests. behind_interfaces.interfaces ++ opened_interfaces inputs.next requests) no_new_interfaces ∙ append_none behind_interfaces.interfaces ∙ interfaces_kept

      next_stays : (asked inputs).next ≡ inputs.next
      next_stays = ap (λ requests. inputs.next + length requests + length (new_radio_requests behind_interfaces)) no_new_interfaces ∙ ap (λ requests. inputs.next + 0 + length requests) no_new_radios ∙ omega arith

      pub idle : asked inputs ≡ inputs
      idle = λ i. record inputs { interfaces = interfaces_stay i; radios = radios_stay i; next = next_stays i }
