-- A fresh start on the present devices, the rows, the last operator states and the latest answers comes to the same facts.
use Rattle.std.proofs.Common.{◌≡◌, ℕ, List, [], ◌∷◌, ◌++◌, map, Bool, true, false, cond, Contains, Option, Some, None, refl, ap, sym, subst, ◌∙◌}
use Rattle.std.specs.Prelude.{bytes_eq, filter, not, ◌&&◌, ◌==◌, ⊤}
use Rattle.std.specs.List.{fold}
use Rattle.std.specs.Option.{option_map, option_and_then}
use Rattle.std.proofs.lemmas.Bool.Decides.{Decides-eqb}
use Rattle.kern_model.specs.declared.object.Device.{Device}
use Rattle.kern_model.proofs.MemberLemmas.{here, there}
use Rattle.kern_model.proofs.TestLemmas.{of_both, bytes_same, same_bytes}
use Rattle.net_rows.specs.declared.rows.Conf.{Conf}
use Rattle.net_rules.specs.declared.answer.Answer.{Answer}
use Rattle.net_rules.specs.declared.inputs.Inputs.{Inputs}
use Rattle.net_rules.specs.declared.inputs.OperatorState.{OperatorState}
use Rattle.net_rules.specs.declared.inputs.OpenInterface.{OpenInterface}
use Rattle.net_rules.specs.declared.inputs.OpenRadio.{OpenRadio}
use Rattle.net_rules.specs.declared.event.Event.TheVariants as event
use Rattle.net_rules.specs.Facts.{Facts}
use Rattle.net_rules.specs.Inputs.{device_in, operator_state_in, facts_of, open_interface, open_radio, no_inputs}
use Rattle.net_rules.specs.After.{operator_states_after, answered_interface, answered_radio, changed, interface_need_of, radio_need_of, after}
use Rattle.net_rules.specs.Fresh.{IsReached, AreAsked, device_given, operator_state_given, ports_given, radio_given, answer_given, interface_given, fresh_with_devices, fresh_loaded, fresh_commanded, fresh_with_radios, fresh_start}
use Rattle.net_rules.proofs.TableLemmas.{found_in, first_some, found_behind, found_without, found_member}
use Rattle.net_rules.proofs.OnceLemmas.{AreOnce, found_once}
use Rattle.net_rules.proofs.NeedLemmas.{same_need_of}
use Rattle.net_rules.proofs.MomentLemmas.{come_in}
use Rattle.net_rules.proofs.AfterLemmas.{AreSingle, asked_single, asked_requests, ports_left, no_answer_left, radios_stay}
use Rattle.net_rules.proofs.ReachedLemmas.{IsKept, reached_kept, changed_single, interface_found, radio_found, radio_keeps, answered_are, after_answer}

-- Values that are given one by one, each under its key.
module _ {X V : Type 0} (give : Inputs → X → Inputs) (key : X → List ℕ) (value : X → Option V) (at : Inputs → List ℕ → Option V) (Fits : Inputs → Type 0) (May : X → Type 0)
    (keeps : (s : Inputs) (x : X) → Fits s → May x → Fits (give s x))
    (gives : (s : Inputs) (x : X) (q : List ℕ) → Fits s → May x → at (give s x) q ≡ cond (bytes_eq (key x) q) (first_some (value x) (at s q)) (at s q)) where
  pub fits_all : (xs : List X) → ((x : X) → Contains xs x → May x) → (s : Inputs) → Fits s → Fits (fold give s xs)
  fits_all [] may s fits = fits
  fits_all (x ∷ xs) may s fits = fits_all xs (λ y h. may y (there x xs y h)) (give s x) (keeps s x fits (may x (here x xs)))

  one_step : (x : X) (xs : List X) (q : List ℕ) (b : Bool) → bytes_eq (key x) q ≡ b → found_in key xs (key x) ≡ None → (before : Option V)
      → first_some (option_and_then value (found_in key xs q)) (cond b (first_some (value x) before) before) ≡ first_some (option_and_then value (cond b (Some x) (found_in key xs q))) before
  one_step x xs q true is none before = ap (λ o. first_some (option_and_then value o) (first_some (value x) before)) (subst (λ k. found_in key xs k ≡ None) (bytes_same (key x) q is) none)
  one_step x xs q false is none before = refl

  pub given_all : (xs : List X) → AreOnce key xs → ((x : X) → Contains xs x → May x) → (s : Inputs) → Fits s → (q : List ℕ) → at (fold give s xs) q ≡ first_some (option_and_then value (found_in key xs q)) (at s q)
  given_all [] once may s fits q = refl
  given_all (x ∷ xs) once may s fits q =
      let mine = may x (here x xs) in
      given_all xs once.1 (λ y h. may y (there x xs y h)) (give s x) (keeps s x fits mine) q
      ∙ ap (first_some (option_and_then value (found_in key xs q))) (gives s x q fits mine)
      ∙ one_step x xs q (bytes_eq (key x) q) refl once.0 (at s q)

some_first : {V : Type 0} (o : Option V) → first_some o None ≡ o
some_first None = refl
some_first (Some v) = refl

-- the devices
abbrev bare : List (List ℕ × Device) → Inputs
bare es = record no_inputs { devices = es }

abbrev IsBare : Inputs → Type 0
IsBare s = s ≡ bare s.devices

abbrev with_device : List ℕ × Device → List (List ℕ × Device) → List (List ℕ × Device)
with_device e es = filter (λ x. not (bytes_eq x.0 e.0)) es ++ e ∷ []

bare_given : (e : List ℕ × Device) (es : List (List ℕ × Device)) → device_given (bare es) e ≡ bare (with_device e es)
unfolding after
bare_given e es = refl

given_bare : (s : Inputs) (e : List ℕ × Device) → IsBare s → device_given s e ≡ bare (with_device e s.devices)
given_bare s e is = ap (λ i. device_given i e) is ∙ bare_given e s.devices

bare_keeps : (s : Inputs) (e : List ℕ × Device) → IsBare s → ⊤ → IsBare (device_given s e)
bare_keeps s e is may = given_bare s e is ∙ ap bare (sym (ap (λ i. i.devices) (given_bare s e is)))

device_gives : (s : Inputs) (e : List ℕ × Device) (q : List ℕ) → IsBare s → ⊤ → device_in (device_given s e).devices q ≡ cond (bytes_eq e.0 q) (first_some (Some e.1) (device_in s.devices q)) (device_in s.devices q)
device_gives s e q is may = ap (λ i. device_in i.devices q) (given_bare s e is) ∙ come_in e.0 e.1 s.devices q

some_of_map : {X V : Type 0} (f : X → V) (o : Option X) → option_and_then (λ x. Some (f x)) o ≡ option_map f o
some_of_map f None = refl
some_of_map f (Some x) = refl

-- the operator states
operator_state_gives_in : (cs : List OperatorState) (interface : List ℕ) (up : Bool) (q : List ℕ) → operator_state_in (operator_states_after cs interface up) q ≡ cond (bytes_eq interface q) (Some up) (operator_state_in cs q)
operator_state_gives_in cs interface up q =
    let one : OperatorState = record { interface = interface; up = up } in
    ap (option_map (λ c. c.up)) (found_behind (λ c. c.interface) (filter (λ c. not (bytes_eq c.interface interface)) cs) (one ∷ []) q
    ∙ ap (λ o. first_some o (found_in (λ c. c.interface) (one ∷ []) q)) (found_without (λ c. c.interface) interface cs q))
    ∙ by_test (bytes_eq interface q) (found_in (λ c. c.interface) cs q)
  where
    by_test : (b : Bool) (o : Option OperatorState) → option_map (λ c. c.up) (first_some (cond b None o) (cond b (Some (record { interface = interface; up = up })) None)) ≡ cond b (Some up) (option_map (λ c. c.up) o)
    by_test true o = refl
    by_test false None = refl
    by_test false (Some c) = refl

-- the inputs while the operator states are given: no handler has answered
record IsAsking (conf : Conf) (devices : List (List ℕ × Device)) (s : Inputs) : Type 0 where
  single : AreSingle s
  are : AreAsked s
  conf_is : s.conf ≡ conf
  devices_is : s.devices ≡ devices
  no_ports : (q : List ℕ) → (facts_of s).ports q ≡ None
  no_answer : (q : List ℕ) → (facts_of s).answer q ≡ None

loaded_requests : (conf : Conf) (es : List (List ℕ × Device)) → IsAsking conf es (after (bare es) (event.Load conf))
unfolding after
loaded_requests conf es =
    let now = changed (bare es) (event.Load conf) in
    let single : AreSingle now = record { interfaces = tt; radios = tt } in
    record {
      single = asked_single now single;
      are = asked_requests now single;
      conf_is = refl;
      devices_is = refl;
      no_ports = ports_left now single;
      no_answer = λ q. no_answer_left now single q refl;
    }

loaded_operator_states : (conf : Conf) (es : List (List ℕ × Device)) → (after (bare es) (event.Load conf)).operator_states ≡ []
unfolding after
loaded_operator_states conf es = refl

module _ (conf : Conf) (devices : List (List ℕ × Device)) where
  operator_state_keeps : (s : Inputs) (c : OperatorState) → IsAsking conf devices s → ⊤ → IsAsking conf devices (operator_state_given s c)
  unfolding after
  operator_state_keeps s c fits may =
      let now = changed s (event.Operator c.interface c.up) in
      let single = changed_single s (event.Operator c.interface c.up) fits.single in
      record {
        single = asked_single now single;
        are = asked_requests now single;
        conf_is = fits.conf_is;
        devices_is = fits.devices_is;
        no_ports = λ q. ap (λ rs. option_and_then (λ o. o.ports) (open_radio rs q)) (radios_stay now single fits.are.radios) ∙ fits.no_ports q;
        no_answer = λ q. no_answer_left now single q (fits.no_answer q);
      }

  operator_state_gives : (s : Inputs) (c : OperatorState) (q : List ℕ) → IsAsking conf devices s → ⊤ → operator_state_in (operator_state_given s c).operator_states q
      ≡ cond (bytes_eq c.interface q) (first_some (Some c.up) (operator_state_in s.operator_states q)) (operator_state_in s.operator_states q)
  unfolding after
  operator_state_gives s c q fits may = operator_state_gives_in s.operator_states c.interface c.up q

  -- while radio answers are given
  record IsTelling (operator_states : List OperatorState) (s : Inputs) : Type 0 where
    single : AreSingle s
    are : AreAsked s
    conf_is : s.conf ≡ conf
    devices_is : s.devices ≡ devices
    operator_states_is : s.operator_states ≡ operator_states
    no_answer : (q : List ℕ) → (facts_of s).answer q ≡ None

  module _ (operator_states : List OperatorState) where
    radio_event_keeps : (s : Inputs) (radio : List ℕ) (number : ℕ) (ports : List (Option (List ℕ))) → IsTelling operator_states s → IsTelling operator_states (after s (event.Radio radio number ports))
    unfolding after
    radio_event_keeps s radio number ports fits =
        let now = changed s (event.Radio radio number ports) in
        let single = changed_single s (event.Radio radio number ports) fits.single in
        record {
          single = asked_single now single;
          are = asked_requests now single;
          conf_is = fits.conf_is;
          devices_is = fits.devices_is;
          operator_states_is = fits.operator_states_is;
          no_answer = λ q. no_answer_left now single q (fits.no_answer q);
        }

    answered_requests : (radio : List ℕ) (number : ℕ) (ports : List (Option (List ℕ))) (o : Option OpenRadio) → option_map (λ x. x.request) (option_map (answered_radio radio number ports) o) ≡ option_map (λ x. x.request) o
    answered_requests radio number ports None = refl
    answered_requests radio number ports (Some o) = ap Some (radio_keeps radio number ports o)

    radios_after : (s : Inputs) (radio : List ℕ) (number : ℕ) (ports : List (Option (List ℕ))) → IsTelling operator_states s → (after s (event.Radio radio number ports)).radios ≡ map (answered_radio radio number ports) s.radios
    unfolding after
    radios_after s radio number ports fits =
        radios_stay (changed s (event.Radio radio number ports)) (changed_single s (event.Radio radio number ports) fits.single)
        (λ q. ap (option_map (λ o. o.request)) (radio_found radio number ports s.radios q) ∙ answered_requests radio number ports (open_radio s.radios q) ∙ fits.are.radios q)

    ports_at : (s : Inputs) (radio : List ℕ) (now : OpenRadio) (ports : List (Option (List ℕ))) → open_radio s.radios radio ≡ Some now → (q : List ℕ) (b : Bool) → bytes_eq radio q ≡ b → (x : Option OpenRadio) → open_radio s.radios q ≡ x
        → option_and_then (λ o. o.ports) (option_map (answered_radio radio now.number ports) x) ≡ cond b (Some ports) (option_and_then (λ o. o.ports) x)
    ports_at s radio now ports open_is q true is None found = cc (open_is, found, bytes_same radio q is)
    ports_at s radio now ports open_is q true is (Some p) found =
        let same_name : radio ≡ q = bytes_same radio q is in
        let same : p ≡ now = cc (open_is, found, same_name) in
        let named : p.request.name ≡ radio = (found_member (λ o. o.request.name) s.radios q p found).same ∙ sym same_name in
        let passes : (bytes_eq p.request.name radio && (p.number == now.number)) ≡ true =
        of_both (bytes_eq p.request.name radio) (p.number == now.number) (same_bytes p.request.name radio named) ((Decides-eqb p.number now.number).1 (ap (λ o. o.number) same)) in
        ap (λ b. (cond b (record p { ports = Some ports }) p).ports) passes
    ports_at s radio now ports open_is q false is None found = refl
    ports_at s radio now ports open_is q false is (Some p) found =
        let named : p.request.name ≡ q = (found_member (λ o. o.request.name) s.radios q p found).same in
        ap (λ b. (cond (b && (p.number == now.number)) (record p { ports = Some ports }) p).ports) (other p.request.name named (bytes_eq p.request.name radio) refl)
      where
        other : (n : List ℕ) → n ≡ q → (d : Bool) → bytes_eq n radio ≡ d → d ≡ false
        other n at true h = cc (is, same_bytes radio q (sym (bytes_same n radio h) ∙ at))
        other n at false h = refl

    pub May : OpenRadio → Type 0
    May o = radio_need_of conf o.request.name ≡ Some o.request

    there_is : {O A : Type 0} (request : O → A) (x : Option O) (a : A) → option_map request x ≡ Some a → x ≡ None → ⊥
    there_is request None a h none = cc h
    there_is request (Some o) a h none = cc none

    radio_keeps_by : (s : Inputs) (radio : List ℕ) (now : Option OpenRadio) (ports : Option (List (Option (List ℕ)))) → IsTelling operator_states s → IsTelling operator_states (ports_given s radio now ports)
    radio_keeps_by s radio None ports fits = fits
    radio_keeps_by s radio (Some now) None fits = fits
    radio_keeps_by s radio (Some now) (Some ports) fits = radio_event_keeps s radio now.number ports fits

    radio_given_keeps : (s : Inputs) (o : OpenRadio) → IsTelling operator_states s → May o → IsTelling operator_states (radio_given s o)
    radio_given_keeps s o fits may = radio_keeps_by s o.request.name (open_radio s.radios o.request.name) o.ports fits

    nothing_new : {V : Type 0} (b : Bool) (v : Option V) → v ≡ cond b (first_some None v) v
    nothing_new true v = refl
    nothing_new false v = refl

    radio_gives_by : (s : Inputs) (radio : List ℕ) (now : Option OpenRadio) (ports : Option (List (Option (List ℕ)))) (q : List ℕ) → IsTelling operator_states s → open_radio s.radios radio ≡ now → (now ≡ None → ⊥)
        → (facts_of (ports_given s radio now ports)).ports q ≡ cond (bytes_eq radio q) (first_some ports ((facts_of s).ports q)) ((facts_of s).ports q)
    radio_gives_by s radio None ports q fits is some = absurd (some refl)
    radio_gives_by s radio (Some now) None q fits is some = nothing_new (bytes_eq radio q) ((facts_of s).ports q)
    radio_gives_by s radio (Some now) (Some ports) q fits is some =
        ap (λ rs. option_and_then (λ o. o.ports) (open_radio rs q)) (radios_after s radio now.number ports fits)
        ∙ ap (option_and_then (λ o. o.ports)) (radio_found radio now.number ports s.radios q)
        ∙ ports_at s radio now ports is q (bytes_eq radio q) refl (open_radio s.radios q) refl

    radio_gives : (s : Inputs) (o : OpenRadio) (q : List ℕ) → IsTelling operator_states s → May o → (facts_of (radio_given s o)).ports q ≡ cond (bytes_eq o.request.name q) (first_some o.ports ((facts_of s).ports q)) ((facts_of s).ports q)
    unfolding May
    radio_gives s o q fits may = radio_gives_by s o.request.name (open_radio s.radios o.request.name) o.ports q fits refl
        (there_is (λ x. x.request) (open_radio s.radios o.request.name) o.request (fits.are.radios o.request.name ∙ ap (λ c. radio_need_of c o.request.name) fits.conf_is ∙ may))

-- while answers of interfaces are given, all else is as in the end
record IsAnswering (facts : Facts) (s : Inputs) : Type 0 where
  single : AreSingle s
  are : AreAsked s
  same : facts_of s ≡ record facts { answer = (facts_of s).answer }

module _ (facts : Facts) where
  answer_event_keeps : (s : Inputs) (interface : List ℕ) (number : ℕ) (answer : Answer) → IsAnswering facts s → IsAnswering facts (after s (event.Answer interface number answer))
  answer_event_keeps s interface number answer fits =
      let now = changed s (event.Answer interface number answer) in
      subst (IsAnswering facts) (sym (after_answer s interface number answer fits.single fits.are)) (record {
        single = changed_single s (event.Answer interface number answer) fits.single;
        are = answered_are s interface number answer fits.are;
        same = ap (λ (f : Facts). record f { answer = (facts_of now).answer }) fits.same;
      })

  answer_at : (s : Inputs) (interface : List ℕ) (now : OpenInterface) (answer : Answer) → open_interface s.interfaces interface ≡ Some now → (q : List ℕ) (b : Bool) → bytes_eq interface q ≡ b → (x : Option OpenInterface)
      → open_interface s.interfaces q ≡ x → option_and_then (λ o. o.answer) (option_map (answered_interface interface now.number answer) x) ≡ cond b (Some answer) (option_and_then (λ o. o.answer) x)
  answer_at s interface now answer open_is q true is None found = cc (open_is, found, bytes_same interface q is)
  answer_at s interface now answer open_is q true is (Some p) found =
      let same_name : interface ≡ q = bytes_same interface q is in
      let same : p ≡ now = cc (open_is, found, same_name) in
      let named : p.request.name ≡ interface = (found_member (λ o. o.request.name) s.interfaces q p found).same ∙ sym same_name in
      let passes : (bytes_eq p.request.name interface && (p.number == now.number)) ≡ true =
      of_both (bytes_eq p.request.name interface) (p.number == now.number) (same_bytes p.request.name interface named) ((Decides-eqb p.number now.number).1 (ap (λ o. o.number) same)) in
      ap (λ b. (cond b (record p { answer = Some answer }) p).answer) passes
  answer_at s interface now answer open_is q false is None found = refl
  answer_at s interface now answer open_is q false is (Some p) found =
      let named : p.request.name ≡ q = (found_member (λ o. o.request.name) s.interfaces q p found).same in
      ap (λ b. (cond (b && (p.number == now.number)) (record p { answer = Some answer }) p).answer) (other p.request.name named (bytes_eq p.request.name interface) refl)
    where
      other : (n : List ℕ) → n ≡ q → (d : Bool) → bytes_eq n interface ≡ d → d ≡ false
      other n at true h = cc (is, same_bytes interface q (sym (bytes_same n interface h) ∙ at))
      other n at false h = refl

  pub MayAnswer : OpenInterface → Type 0
  MayAnswer o = interface_need_of facts o.request.name ≡ Some o.request

  interface_keeps_by : (s : Inputs) (interface : List ℕ) (now : Option OpenInterface) (answer : Option Answer) → IsAnswering facts s → IsAnswering facts (answer_given s interface now answer)
  interface_keeps_by s interface None answer fits = fits
  interface_keeps_by s interface (Some now) None fits = fits
  interface_keeps_by s interface (Some now) (Some answer) fits = answer_event_keeps s interface now.number answer fits

  interface_given_keeps : (s : Inputs) (o : OpenInterface) → IsAnswering facts s → MayAnswer o → IsAnswering facts (interface_given s o)
  interface_given_keeps s o fits may = interface_keeps_by s o.request.name (open_interface s.interfaces o.request.name) o.answer fits

  unchanged : {V : Type 0} (b : Bool) (v : Option V) → v ≡ cond b (first_some None v) v
  unchanged true v = refl
  unchanged false v = refl

  is_there : {O A : Type 0} (request : O → A) (x : Option O) (a : A) → option_map request x ≡ Some a → x ≡ None → ⊥
  is_there request None a h none = cc h
  is_there request (Some o) a h none = cc none

  interface_gives_by : (s : Inputs) (interface : List ℕ) (now : Option OpenInterface) (answer : Option Answer) (q : List ℕ) → IsAnswering facts s → open_interface s.interfaces interface ≡ now → (now ≡ None → ⊥)
      → (facts_of (answer_given s interface now answer)).answer q ≡ cond (bytes_eq interface q) (first_some answer ((facts_of s).answer q)) ((facts_of s).answer q)
  interface_gives_by s interface None answer q fits is some = absurd (some refl)
  interface_gives_by s interface (Some now) None q fits is some = unchanged (bytes_eq interface q) ((facts_of s).answer q)
  interface_gives_by s interface (Some now) (Some answer) q fits is some =
      ap (λ i. (facts_of i).answer q) (after_answer s interface now.number answer fits.single fits.are)
      ∙ ap (option_and_then (λ o. o.answer)) (interface_found interface now.number answer s.interfaces q)
      ∙ answer_at s interface now answer is q (bytes_eq interface q) refl (open_interface s.interfaces q) refl

  interface_gives : (s : Inputs) (o : OpenInterface) (q : List ℕ) → IsAnswering facts s → MayAnswer o → (facts_of (interface_given s o)).answer q
      ≡ cond (bytes_eq o.request.name q) (first_some o.answer ((facts_of s).answer q)) ((facts_of s).answer q)
  unfolding MayAnswer
  interface_gives s o q fits may = interface_gives_by s o.request.name (open_interface s.interfaces o.request.name) o.answer q fits refl
      (is_there (λ x. x.request) (open_interface s.interfaces o.request.name) o.request
      (fits.are.interfaces o.request.name ∙ ap (λ f. interface_need_of f o.request.name) fits.same ∙ same_need_of facts (facts_of s).answer o.request.name ∙ may))

module _ (inputs : Inputs) (kept : IsKept inputs) where
  abbrev goal_facts : Facts
  goal_facts = facts_of inputs

  abbrev first : Inputs
  first = fresh_with_devices inputs

  first_bare : IsBare (fresh_with_devices inputs)
  first_bare = fits_all device_given (λ e. e.0) (λ e. Some e.1) (λ s. device_in s.devices) IsBare (λ e. ⊤) bare_keeps device_gives inputs.devices (λ e h. tt) no_inputs refl

  devices_same : (q : List ℕ) → device_in (fresh_with_devices inputs).devices q ≡ device_in inputs.devices q
  devices_same q =
      given_all device_given (λ e. e.0) (λ e. Some e.1) (λ s. device_in s.devices) IsBare (λ e. ⊤) bare_keeps device_gives inputs.devices kept.devices (λ e h. tt) no_inputs refl q
      ∙ some_first (option_and_then (λ e. Some e.1) (found_in (λ e. e.0) inputs.devices q)) ∙ some_of_map (λ e. e.1) (found_in (λ e. e.0) inputs.devices q)

  loads_bare : fresh_loaded inputs ≡ after (bare first.devices) (event.Load inputs.conf)
  loads_bare = ap (λ s. after s (event.Load inputs.conf)) first_bare

  loaded : IsAsking inputs.conf first.devices (fresh_loaded inputs)
  loaded = subst (IsAsking inputs.conf first.devices) (sym loads_bare) (loaded_requests inputs.conf first.devices)

  commanded : IsAsking inputs.conf first.devices (fresh_commanded inputs)
  commanded = fits_all operator_state_given (λ c. c.interface) (λ c. Some c.up) (λ s. operator_state_in s.operator_states) (IsAsking inputs.conf first.devices) (λ c. ⊤) (operator_state_keeps inputs.conf first.devices)
      (operator_state_gives inputs.conf first.devices)
      inputs.operator_states (λ c h. tt) (fresh_loaded inputs) loaded

  operator_states_same : (q : List ℕ) → operator_state_in (fresh_commanded inputs).operator_states q ≡ operator_state_in inputs.operator_states q
  operator_states_same q =
      given_all operator_state_given (λ c. c.interface) (λ c. Some c.up) (λ s. operator_state_in s.operator_states) (IsAsking inputs.conf first.devices) (λ c. ⊤) (operator_state_keeps inputs.conf first.devices)
      (operator_state_gives inputs.conf first.devices) inputs.operator_states
      kept.operator_states (λ c h. tt) (fresh_loaded inputs) loaded q
      ∙ ap (λ cs. first_some (option_and_then (λ c. Some c.up) (found_in (λ c. c.interface) inputs.operator_states q)) (operator_state_in cs q)) (ap (λ s. s.operator_states) loads_bare ∙ loaded_operator_states inputs.conf first.devices)
      ∙ some_first (option_and_then (λ c. Some c.up) (found_in (λ c. c.interface) inputs.operator_states q)) ∙ some_of_map (λ c. c.up) (found_in (λ c. c.interface) inputs.operator_states q)

  abbrev the_operator_states : List OperatorState
  the_operator_states = (fresh_commanded inputs).operator_states

  telling : IsTelling inputs.conf first.devices the_operator_states (fresh_commanded inputs)
  telling = record { single = commanded.single; are = commanded.are; conf_is = commanded.conf_is; devices_is = commanded.devices_is; operator_states_is = refl; no_answer = commanded.no_answer }

  radio_may : (o : OpenRadio) → Contains inputs.radios o → May inputs.conf first.devices the_operator_states o
  unfolding May
  radio_may o h = sym (kept.are.radios o.request.name) ∙ ap (option_map (λ x. x.request)) (found_once (λ x. x.request.name) inputs.radios kept.single.radios o h)

  told : IsTelling inputs.conf first.devices the_operator_states (fresh_with_radios inputs)
  told = fits_all radio_given (λ o. o.request.name) (λ o. o.ports) (λ s. (facts_of s).ports) (IsTelling inputs.conf first.devices the_operator_states) (May inputs.conf first.devices the_operator_states)
      (radio_given_keeps inputs.conf first.devices the_operator_states) (radio_gives inputs.conf first.devices the_operator_states) inputs.radios radio_may (fresh_commanded inputs) telling

  ports_same : (q : List ℕ) → (facts_of (fresh_with_radios inputs)).ports q ≡ goal_facts.ports q
  ports_same q =
      given_all radio_given (λ o. o.request.name) (λ o. o.ports) (λ s. (facts_of s).ports) (IsTelling inputs.conf first.devices the_operator_states) (May inputs.conf first.devices the_operator_states)
      (radio_given_keeps inputs.conf first.devices the_operator_states) (radio_gives inputs.conf first.devices the_operator_states) inputs.radios kept.single.radios radio_may (fresh_commanded inputs) telling q
      ∙ ap (first_some (option_and_then (λ o. o.ports) (open_radio inputs.radios q))) (commanded.no_ports q)
      ∙ some_first (option_and_then (λ o. o.ports) (open_radio inputs.radios q))

  devices_now : (q : List ℕ) → device_in (fresh_with_radios inputs).devices q ≡ device_in inputs.devices q
  devices_now q = ap (λ es. device_in es q) told.devices_is ∙ devices_same q

  operator_states_now : (q : List ℕ) → operator_state_in (fresh_with_radios inputs).operator_states q ≡ operator_state_in inputs.operator_states q
  operator_states_now q = ap (λ cs. operator_state_in cs q) told.operator_states_is ∙ operator_states_same q

  all_but_answers : facts_of (fresh_with_radios inputs) ≡ record goal_facts { answer = (facts_of (fresh_with_radios inputs)).answer }
  all_but_answers = λ i. record {
    conf = told.conf_is i;
    device = λ q. devices_now q i;
    operator_state = λ q. operator_states_now q i;
    answer = (facts_of (fresh_with_radios inputs)).answer;
    ports = λ q. ports_same q i;
  }

  answering : IsAnswering goal_facts (fresh_with_radios inputs)
  answering = record { single = told.single; are = told.are; same = all_but_answers }

  interface_may : (o : OpenInterface) → Contains inputs.interfaces o → MayAnswer goal_facts o
  unfolding MayAnswer
  interface_may o h = sym (kept.are.interfaces o.request.name) ∙ ap (option_map (λ x. x.request)) (found_once (λ x. x.request.name) inputs.interfaces kept.single.interfaces o h)

  answered : IsAnswering goal_facts (fresh_start inputs)
  answered = fits_all interface_given (λ o. o.request.name) (λ o. o.answer) (λ s. (facts_of s).answer) (IsAnswering goal_facts) (MayAnswer goal_facts) (interface_given_keeps goal_facts) (interface_gives goal_facts) inputs.interfaces
      interface_may (fresh_with_radios inputs) answering

  answers_same : (q : List ℕ) → (facts_of (fresh_start inputs)).answer q ≡ goal_facts.answer q
  answers_same q =
      given_all interface_given (λ o. o.request.name) (λ o. o.answer) (λ s. (facts_of s).answer) (IsAnswering goal_facts) (MayAnswer goal_facts) (interface_given_keeps goal_facts) (interface_gives goal_facts) inputs.interfaces
      kept.single.interfaces interface_may (fresh_with_radios inputs) answering q
      ∙ ap (first_some (option_and_then (λ o. o.answer) (open_interface inputs.interfaces q))) (told.no_answer q)
      ∙ some_first (option_and_then (λ o. o.answer) (open_interface inputs.interfaces q))

  fresh_facts_by : facts_of (fresh_start inputs) ≡ facts_of inputs
  fresh_facts_by = answered.same ∙ (λ i. record goal_facts { answer = λ q. answers_same q i })

pub fresh_facts : (inputs : Inputs) → IsReached inputs → facts_of (fresh_start inputs) ≡ facts_of inputs
fresh_facts inputs reached = fresh_facts_by inputs (reached_kept inputs reached)
