-- What an answer leaves and moves.
use Rattle.std.proofs.Common.{arith, inl, inr, ℕ, zero, suc, ◌≡◌, ◌⊎◌, ◌≤◌, ◌+◌, ◌^◌, List, [], ◌∷◌, ◌++◌, length, map, Bool, true, false, cond, Contains, Option, Some, None, refl, ap, sym, subst, ◌∙◌}
use Rattle.std.specs.Prelude.{◌&&◌, ◌||◌, ◌==◌, not, bytes_eq, filter, find, is_some, is_none, nat_lt, slice_get, slice_set}
use Rattle.std.specs.Option.{option_map, option_and_then}
use Rattle.std.proofs.lemmas.Bool.Decides.{Decides-eqb, nat_tests}
use Rattle.std.proofs.lemmas.List.{length-append, length-map}
use Rattle.kern_model.specs.declared.object.Object.{Object}
use Rattle.kern_model.specs.declared.object.Object.TheVariants as object
use Rattle.kern_model.specs.ObjectOrder.{Objects}
use Rattle.kern_model.proofs.MemberLemmas.{here, there, member_of_map}
use Rattle.kern_model.proofs.TestLemmas.{bytes_same, false_of_not}
use Rattle.net_rows.specs.declared.rows.InterfaceRow.{InterfaceRow}
use Rattle.net_rows.specs.declared.rows.RouteRow.{RouteRow}
use Rattle.net_rules.specs.declared.answer.Answer.{Answer}
use Rattle.net_rules.specs.declared.request.InterfaceRequest.{InterfaceRequest}
use Rattle.net_rules.specs.declared.inputs.Inputs.{Inputs}
use Rattle.net_rules.specs.declared.inputs.OpenInterface.{OpenInterface}
use Rattle.net_rules.specs.declared.event.Event.TheVariants as event
use Rattle.net_rules.specs.declared.refusal.Refusal.{Refusal}
use Rattle.net_rules.specs.declared.refusal.Refusal.TheVariants as refused
use Rattle.net_rules.specs.declared.refusal.TheConstants.{MOST_IN_ANSWER}
use Rattle.net_rules.specs.Rows.{interface_named, asks_nothing, is_static}
use Rattle.net_rules.specs.RadioPorts.{device_of}
use Rattle.net_rules.specs.Interfaces.{answer_of, device_or_own, l3_device_of}
use Rattle.net_rules.specs.Want.{of_options, of_answer, is_route_of, of_sections, given_by}
use Rattle.net_rules.specs.Inputs.{facts_of, open_interface}
use Rattle.net_rules.specs.After.{answered_interface, changed}
use Rattle.net_rules.specs.Refusal.{or_else, refused_if, is_too_long, number_of_interface, stale_number, refusal}
use Rattle.net_rules.proofs.ReachedLemmas.{interface_found}
use Rattle.net_wants.specs.Given.{answer_route, route_on}
use Rattle.known_inputs.specs.Known.{StandOnce}
use Rattle.known_inputs.specs.Steps.{place_of, request_of}
use Rattle.known_inputs.proofs.FoundLemmas.{found_numbered}
use Rattle.given_objects.specs.Gifts.{Gifts}
use Rattle.state_requests.specs.SettlingState.{SettlingState}
use Rattle.net_rules.specs.declared.state.InterfaceState.{InterfaceState}
use Rattle.net_rules.specs.States.{is_first, IsStateAs}
use Rattle.net_rules.proofs.AnswerLemmas.{state_same}
use Rattle.net_rules.proofs.MoveLemmas.{some_is, count_few}
use Rattle.net_gifts.specs.Giving.{times_in, gives, HasGivers, HavePlaces}
use Rattle.net_gifts.proofs.TimesLemmas.{gives_agree}
use Rattle.net_reach.specs.declared.reach.Reach.{Reach}
use Rattle.net_reach.specs.Reach.{IsReachOf, told_l3_device, interface_place}
use Rattle.net_reach.specs.L3Devices.{TellsL3Device}
use Rattle.net_reach.proofs.AlikeLemmas.{answer_tells}
use Rattle.asked_places.specs.Touched.{has, names_of_rows}
use Rattle.asked_places.proofs.PlaceLemmas.{place_of_first}
use Rattle.state_requests.specs.States.{States}
use Rattle.state_requests.specs.Kept.{number_of, IsNotedAs, AreOwnRequests, IsTied, FollowBut}
use Rattle.state_requests.specs.Counted.{needs_no_answer, HasGiftRoom, IsCountedBy}
use Rattle.net_follow.specs.Answering.{heard, l3_device_by, given_hearing}
use Rattle.net_follow.proofs.KeptLemmas.{has_member}
use Rattle.net_follow.proofs.StepLemmas.{moment_of}

-- ---- lists

found_passes : {X : Type 0} (p : X → Bool) (xs : List X) (x : X) → find p xs ≡ Some x → p x ≡ true
found_passes p [] x is = cc is
found_passes {X} p (y ∷ ys) x is = by (p y) refl is (found_passes p ys x)
  where
    by : (b : Bool) → p y ≡ b → cond {A = Option X} b (Some y) (find p ys) ≡ Some x → (find p ys ≡ Some x → p x ≡ true) → p x ≡ true
    by true passes e rest = subst (λ z. p z ≡ true) (some_is y x e) passes
    by false passes e rest = rest e

found_inside : {X : Type 0} (p : X → Bool) (xs : List X) (x : X) → find p xs ≡ Some x → Contains xs x
found_inside p [] x is = cc is
found_inside {X} p (y ∷ ys) x is = by (p y) is (found_inside p ys x)
  where
    by : (b : Bool) → cond {A = Option X} b (Some y) (find p ys) ≡ Some x → (find p ys ≡ Some x → Contains ys x) → Contains (y ∷ ys) x
    by true e rest = subst (Contains (y ∷ ys)) (some_is y x e) (here y ys)
    by false e rest = there y ys x (rest e)

pub set_other : {X : Type 0} (xs : List X) (p q : ℕ) (x : X) → (q ≡ p → ⊥) → slice_get (slice_set xs p x) q ≡ slice_get xs q
set_other [] p q x apart = refl
set_other (y ∷ ys) zero zero x apart = absurd (apart refl)
set_other (y ∷ ys) zero (suc q) x apart = refl
set_other (y ∷ ys) (suc p) zero x apart = refl
set_other (y ∷ ys) (suc p) (suc q) x apart = set_other ys p q x (λ e. apart (ap suc e))

pub set_here : {X : Type 0} (xs : List X) (p : ℕ) (old x : X) → slice_get xs p ≡ Some old → slice_get (slice_set xs p x) p ≡ Some x
set_here [] p old x at = cc at
set_here (y ∷ ys) zero old x at = refl
set_here (y ∷ ys) (suc p) old x at = set_here ys p old x at

-- ---- what is not refused

left_off : (b : Bool) (why : Refusal) (rest : Option Refusal) → or_else (refused_if b why) rest ≡ None → (b ≡ false) × (rest ≡ None)
left_off true why rest none = cc none
left_off false why rest none = (refl, none)

same_by : (b : Bool) (why : Refusal) → refused_if (not b) why ≡ None → b ≡ true
same_by true why none = refl
same_by false why none = cc none

not_long : (a b : Bool) → (a || b) ≡ false → (a ≡ false) × (b ≡ false)
not_long true b off = cc off
not_long false b off = (refl, off)

few_of : (n : ℕ) → nat_lt 64 n ≡ false → n ≤ 64
few_of n off = grind (arith, nat_tests, off)

module _ (inputs : Inputs) (interface : List ℕ) (number : ℕ) (answer : Answer) where
  abbrev told : OpenInterface → OpenInterface
  told = answered_interface interface number answer

  abbrev pub now : Inputs
  now = changed inputs (event.Answer interface number answer)

  -- the request is open
  pub record IsOpen (o : OpenInterface) : Type 0 where
    pub found : open_interface inputs.interfaces interface ≡ Some o
    pub number_is : o.number ≡ number

  open_by : (o : Option OpenInterface) → open_interface inputs.interfaces interface ≡ o → stale_number number (number_of_interface o) ≡ None → (x : OpenInterface) × IsOpen x
  open_by None is none = cc none
  open_by (Some x) is none = (x, record { found = is; number_is = sym ((Decides-eqb number x.number).0 (same_by (number == x.number) (refused.Stale number x.number) none)) })

  module _ (held : Objects) (free : refusal (moment_of inputs held) (event.Answer interface number answer) ≡ None) where
    rest_free : or_else (refused_if (is_none (interface_named inputs.conf interface)) refused.NoInterface) (stale_number number (number_of_interface (open_interface inputs.interfaces interface))) ≡ None
    rest_free = (left_off (is_too_long answer) (refused.Limit MOST_IN_ANSWER) _ free).1

    pub is_open : (x : OpenInterface) × IsOpen x
    is_open = open_by (open_interface inputs.interfaces interface) refl (left_off (is_none (interface_named inputs.conf interface)) refused.NoInterface _ rest_free).1

    -- the answer is short
    pub is_short : (length answer.addresses ≤ 64) × (length answer.routes ≤ 64)
    is_short =
        let off = not_long (nat_lt 64 (length answer.addresses)) (nat_lt 64 (length answer.routes)) (left_off (is_too_long answer) (refused.Limit MOST_IN_ANSWER) _ free).0 in
        (few_of (length answer.addresses) off.0, few_of (length answer.routes) off.1)

  -- ---- asks with an answer

  request_told : (o : OpenInterface) → (told o).request ≡ o.request
  request_told o = by (bytes_eq o.request.name interface && (o.number == number))
    where
      by : (b : Bool) → (cond b (record o { answer = Some answer }) o).request ≡ o.request
      by true = refl
      by false = refl

  number_told : (o : OpenInterface) → (told o).number ≡ o.number
  number_told o = by (bytes_eq o.request.name interface && (o.number == number))
    where
      by : (b : Bool) → (cond b (record o { answer = Some answer }) o).number ≡ o.number
      by true = refl
      by false = refl

  other_found : (q : List ℕ) → bytes_eq q interface ≡ false → (o : Option OpenInterface) → open_interface inputs.interfaces q ≡ o → option_map told o ≡ o
  other_found q other None is = refl
  other_found q other (Some o) is =
      let same : o.request.name ≡ q = bytes_same o.request.name q (found_passes (λ (x : OpenInterface). bytes_eq x.request.name q) inputs.interfaces o is) in
      ap (λ b. Some (cond (b && (o.number == number)) (record o { answer = Some answer }) o)) (ap (λ n. bytes_eq n interface) same ∙ other)

  answer_other : (q : List ℕ) → bytes_eq q interface ≡ false → (facts_of now).answer q ≡ (facts_of inputs).answer q
  answer_other q other =
      ap (λ (o : Option OpenInterface). option_and_then (λ (x : OpenInterface). x.answer) o)
      (interface_found interface number answer inputs.interfaces q ∙ other_found q other (open_interface inputs.interfaces q) refl)

  answer_here : (o : OpenInterface) → IsOpen o → (facts_of now).answer interface ≡ Some answer
  answer_here o open_is =
      let same : bytes_eq o.request.name interface ≡ true = found_passes (λ (x : OpenInterface). bytes_eq x.request.name interface) inputs.interfaces o open_is.found in
      ap (λ (x : Option OpenInterface). option_and_then (λ (y : OpenInterface). y.answer) x) (interface_found interface number answer inputs.interfaces interface ∙ ap (option_map told) open_is.found)
      ∙ ap (λ b. (cond (b && (o.number == number)) (record o { answer = Some answer }) o).answer) same
      ∙ ap (λ b. (cond b (record o { answer = Some answer }) o).answer) ((Decides-eqb o.number number).1 open_is.number_is)

  number_by : (o : Option OpenInterface) → option_map (λ (x : OpenInterface). x.number) (option_map told o) ≡ option_map (λ (x : OpenInterface). x.number) o
  number_by None = refl
  number_by (Some o) = ap Some (number_told o)

  number_same : (q : List ℕ) → number_of now q ≡ number_of inputs q
  number_same q =
      ap (option_map (λ (x : OpenInterface). x.number)) (interface_found interface number answer inputs.interfaces q)
      ∙ number_by (open_interface inputs.interfaces q)

  own_told : AreOwnRequests inputs → AreOwnRequests now
  own_told own = λ o row member named.
      let from = member_of_map told inputs.interfaces o member in
      let same : from.source.request ≡ o.request = sym (request_told from.source) ∙ ap (λ (x : OpenInterface). x.request) from.same in
      sym same ∙ own from.source row from.member (ap (λ (a : InterfaceRequest). interface_named inputs.conf a.name) same ∙ named)

  noted_as : (first : Bool) (row : InterfaceRow) (st : InterfaceState) → IsNotedAs first inputs row st → IsNotedAs first now row st
  noted_as true row st noted = record { device = noted.device; number = noted.number ∙ sym (number_same row.name) }
  noted_as false row st noted = noted

  pub tied_told : (states : States) (reach : Reach) → IsReachOf now reach → IsTied inputs states → IsTied now (record states { reach = reach })
  tied_told states reach reaches tied = record {
    reach = reaches;
    own = own_told tied.own;
    noted = record {
      size = tied.noted.size;
      spare_size = tied.noted.spare_size;
      first = tied.noted.first;
      each = λ place row st at here_is. noted_as st.is_first row st (tied.noted.each place row st at here_is);
      at_hand = tied.noted.at_hand;
    };
    room = tied.room;
  }

  -- the layer-3 device that it tells
  pub l3_device_tells : StandOnce inputs → (o : OpenInterface) → IsOpen o → (was : Option (List ℕ)) → was ≡ option_and_then (λ (x : OpenInterface). option_and_then (λ (a : Answer). a.device) x.answer) (request_of inputs number)
      → TellsL3Device inputs now interface was answer.device
  l3_device_tells once o open_is was is =
      let by_number : request_of inputs number ≡ Some o = ap (request_of inputs) (sym open_is.number_is)
      ∙ found_numbered inputs o once (found_inside (λ (x : OpenInterface). bytes_eq x.request.name interface) inputs.interfaces o open_is.found) in
      let same : was ≡ told_l3_device inputs interface = is ∙ ap (λ (x : Option OpenInterface). option_and_then (λ (y : OpenInterface). option_and_then (λ (a : Answer). a.device) y.answer) x) (by_number ∙ sym open_is.found) in
      subst (λ (w : Option (List ℕ)). TellsL3Device inputs now interface w answer.device) (sym same)
      (subst (λ n. TellsL3Device inputs (changed inputs (event.Answer interface n answer)) interface (told_l3_device inputs interface) answer.device) open_is.number_is
      (answer_tells inputs interface o answer open_is.found))

  -- ---- an interface with the same answer gives the same

  module _ (r : InterfaceRow) (same : answer_of (facts_of now) r ≡ answer_of (facts_of inputs) r) where
    needs_same : needs_no_answer (facts_of now) r ≡ needs_no_answer (facts_of inputs) r
    needs_same = ap (λ (a : Option Answer). asks_nothing r.proto || is_some a) same

    l3_device_same : l3_device_of (facts_of now) r ≡ l3_device_of (facts_of inputs) r
    l3_device_same = ap (λ (a : Option Answer). device_or_own (option_and_then (λ (x : Answer). x.device) a) (device_of (facts_of inputs) r)) same

    given_same : (l3_device : Option (List ℕ)) → given_by (facts_of now) r l3_device ≡ given_by (facts_of inputs) r l3_device
    given_same None = refl
    given_same (Some dev) = ap (λ (a : Option Answer). cond {A = List Object} (is_static r.proto) (of_options r dev) (of_answer dev a) ++ of_sections (facts_of inputs) r dev) same

  other_answer : (r : InterfaceRow) → bytes_eq r.name interface ≡ false → answer_of (facts_of now) r ≡ answer_of (facts_of inputs) r
  other_answer r other = ap (λ (a : Option Answer). cond {A = Option Answer} (asks_nothing r.proto) None a) (answer_other r.name other)

  -- what the row of the interface gives is what it gives as it hears the answer
  module _ (o : OpenInterface) (open_is : IsOpen o) (r : InterfaceRow) (named : r.name ≡ interface) where
    hears : answer_of (facts_of now) r ≡ heard r answer
    hears = ap (λ (a : Option Answer). cond {A = Option Answer} (asks_nothing r.proto) None a) (ap (facts_of now).answer named ∙ answer_here o open_is)

    l3_device_hearing : l3_device_of (facts_of now) r ≡ l3_device_by (facts_of inputs) r answer
    l3_device_hearing = ap (λ (a : Option Answer). device_or_own (option_and_then (λ (x : Answer). x.device) a) (device_of (facts_of inputs) r)) hears

    gives_hearing : (l3_device : Option (List ℕ)) → given_by (facts_of now) r l3_device ≡ given_hearing (facts_of inputs) r answer l3_device
    gives_hearing None = refl
    gives_hearing (Some dev) = ap (λ (a : Option Answer). cond {A = List Object} (is_static r.proto) (of_options r dev) (of_answer dev a) ++ of_sections (facts_of inputs) r dev) hears

    pub places_hearing : (gs : Gifts) → HavePlaces gs (given_hearing (facts_of inputs) r answer (l3_device_by (facts_of inputs) r answer)) → HavePlaces gs (given_by (facts_of now) r (l3_device_of (facts_of now) r))
    places_hearing gs has = subst (HavePlaces gs) (sym (ap (given_by (facts_of now) r) l3_device_hearing ∙ gives_hearing (l3_device_by (facts_of inputs) r answer))) has

  -- ---- what one interface gives with the answer is little

  module _ (short : (length answer.addresses ≤ 64) × (length answer.routes ≤ 64)) (routes : length inputs.conf.routes ≤ 2 ^ 49) (o : OpenInterface) (open_is : IsOpen o) where
    answer_few : (dev : List ℕ) → length (of_answer dev (Some answer)) ≤ 128
    answer_few dev =
        let addresses : List Object = map (object.Address dev) answer.addresses in
        let gateways : List Object = map (answer_route dev) answer.routes in
        let sum : length (addresses ++ gateways) ≡ length addresses + length gateways = length-append addresses gateways in
        let first : length addresses ≡ length answer.addresses = length-map answer.addresses (object.Address dev) in
        let second : length gateways ≡ length answer.routes = length-map answer.routes (answer_route dev) in
        let low : length answer.addresses ≤ 64 = short.0 in
        let high : length answer.routes ≤ 64 = short.1 in
        omega (arith, sum, first, second, low, high)

    told_few : (r : InterfaceRow) (dev : List ℕ) → r.name ≡ interface → length (of_answer dev (answer_of (facts_of now) r)) ≤ 128
    told_few r dev named =
        let has_answer : (facts_of now).answer r.name ≡ Some answer = ap (facts_of now).answer named ∙ answer_here o open_is in
        subst (λ (a : Option Answer). length (of_answer dev (cond {A = Option Answer} (asks_nothing r.proto) None a)) ≤ 128) (sym has_answer) (by (asks_nothing r.proto))
      where
        by : (b : Bool) → length (of_answer dev (cond {A = Option Answer} b None (Some answer))) ≤ 128
        by true = omega arith
        by false = answer_few dev

    sections_few : (r : InterfaceRow) (dev : List ℕ) → length (of_sections (facts_of inputs) r dev) ≤ 2 ^ 49
    sections_few r dev =
        let some : List RouteRow = filter (is_route_of (facts_of inputs) r) inputs.conf.routes in
        let all : length (map (route_on dev) some) ≡ length some = length-map some (route_on dev) in
        let few : length some ≤ length inputs.conf.routes = count_few (is_route_of (facts_of inputs) r) inputs.conf.routes in
        omega (arith, all, few, routes)

    fewer : (b : Bool) (xs ys zs ws : List Object) → length (cond b xs ys ++ ws) ≤ 2 ^ 50 → length zs ≤ 128 → length ws ≤ 2 ^ 49 → length (cond b xs zs ++ ws) ≤ 2 ^ 50
    fewer true xs ys zs ws h few rest = h
    fewer false xs ys zs ws h few rest =
        let sum : length (zs ++ ws) ≡ length zs + length ws = length-append zs ws in
        omega (arith, sum, few, rest)

    few_told : (r : InterfaceRow) (l3_device : Option (List ℕ)) (b : Bool) → bytes_eq r.name interface ≡ b → length (given_by (facts_of inputs) r l3_device) ≤ 2 ^ 50 → length (given_by (facts_of now) r l3_device) ≤ 2 ^ 50
    few_told r l3_device false is h = subst (λ (os : List Object). length os ≤ 2 ^ 50) (sym (given_same r (other_answer r is) l3_device)) h
    few_told r None true is h = h
    few_told r (Some dev) true is h =
        fewer (is_static r.proto) (of_options r dev) (of_answer dev (answer_of (facts_of inputs) r)) (of_answer dev (answer_of (facts_of now) r)) (of_sections (facts_of inputs) r dev) h
        (told_few r dev (bytes_same r.name interface is)) (sections_few r dev)

    module _ (place : ℕ) (own : interface_place inputs.conf interface ≡ Some place) where
      -- the first row of another place has another name
      other_name : (q : ℕ) (r : InterfaceRow) → slice_get inputs.conf.interfaces q ≡ Some r → is_first inputs.conf.interfaces q r.name ≡ true → (q ≡ place → ⊥) → bytes_eq r.name interface ≡ false
      other_name q r at first apart = false_of_not (bytes_eq r.name interface) (λ h.
          apart (some_is q place (sym (place_of_first inputs.conf.interfaces q r at first) ∙ ap (place_of (names_of_rows inputs.conf.interfaces)) (bytes_same r.name interface h) ∙ own)))

      state_by : (q : ℕ) (r : InterfaceRow) (st : InterfaceState) → slice_get inputs.conf.interfaces q ≡ Some r → (q ≡ place → ⊥) → (b : Bool) → is_first inputs.conf.interfaces q r.name ≡ b → IsStateAs b (facts_of inputs) r st
          → IsStateAs b (facts_of now) r st
      state_by q r st at apart true is state = state_same (facts_of inputs) (facts_of now).answer r (answer_other r.name (other_name q r at is apart)) st state
      state_by q r st at apart false is state = state

      pub follow_told : (before list : List InterfaceState) → ((q : ℕ) → (q ≡ place → ⊥) → slice_get list q ≡ slice_get before q)
          → ((q : ℕ) (r : InterfaceRow) (st : InterfaceState) → slice_get inputs.conf.interfaces q ≡ Some r → slice_get before q ≡ Some st → IsStateAs (is_first inputs.conf.interfaces q r.name) (facts_of inputs) r st)
          → FollowBut now (place ∷ []) list
      follow_told before list same each = λ q r st at here_is untouched.
          let apart : q ≡ place → ⊥ = λ e. let yes : has (place ∷ []) q ≡ true = ap (has (place ∷ [])) e ∙ has_member (place ∷ []) place (here place []) in cc (yes, untouched) in
          state_by q r st at apart (is_first inputs.conf.interfaces q r.name) refl (each q r st at (sym (same q apart) ∙ here_is))

      module _ (states : States) (tied : IsTied inputs states) (idle : (st : InterfaceState) → slice_get states.list.items place ≡ Some st → st.is_up ≡ false) where
        -- an interface is not up, or has another name
        abbrev IsQuiet : InterfaceRow → InterfaceState → Type 0
        IsQuiet r s = (s.is_up ≡ false) ⊎ (bytes_eq r.name interface ≡ false)

        quiet : (q : ℕ) (r : InterfaceRow) (s : InterfaceState) → slice_get inputs.conf.interfaces q ≡ Some r → slice_get states.list.items q ≡ Some s → IsQuiet r s
        quiet q r s r_at s_at = by (q == place) refl
          where
            first_by : (q ≡ place → ⊥) → (b : Bool) → s.is_first ≡ b → IsNotedAs b inputs r s → IsQuiet r s
            first_by apart true is noted = inr (other_name q r r_at (sym (tied.noted.first q r s r_at s_at) ∙ is) apart)
            first_by apart false is noted = inl noted.idle.up

            by : (b : Bool) → (q == place) ≡ b → IsQuiet r s
            by true is = inl (idle s (ap (slice_get states.list.items) (sym ((Decides-eqb q place).0 is)) ∙ s_at))
            by false is = first_by (λ e. let yes = (Decides-eqb q place).1 e in cc (is, yes)) s.is_first refl (tied.noted.each q r s r_at s_at)

        gives_same : (r : InterfaceRow) (s : InterfaceState) → IsQuiet r s → gives (facts_of now) r s ≡ gives (facts_of inputs) r s
        gives_same r s is_quiet = elim is_quiet as (λ _. gives (facts_of now) r s ≡ gives (facts_of inputs) r s) [
          | inl down ↦ ap (λ b. cond {A = List Object} b (given_by (facts_of now) r s.l3_device) []) down ∙ sym (ap (λ b. cond {A = List Object} b (given_by (facts_of inputs) r s.l3_device) []) down)
          | inr other ↦ ap (λ os. cond {A = List Object} s.is_up os []) (given_same r (other_answer r other) s.l3_device)
        ]

        givers_told : (gs : Gifts) → HasGivers (facts_of inputs) inputs.conf.interfaces states.list.items gs → HasGivers (facts_of now) inputs.conf.interfaces states.list.items gs
        givers_told gs was = λ ob.
            was ob
            ∙ sym (ap (times_in ob) (gives_agree (λ (e : InterfaceRow × InterfaceState). gives (facts_of now) e.0 e.1) (λ (e : InterfaceRow × InterfaceState). gives (facts_of inputs) e.0 e.1) inputs.conf.interfaces states.list.items
            (λ q r s r_at s_at. gives_same r s (quiet q r s r_at s_at))))

        module _ (gs : Gifts) (answered : (r : InterfaceRow) → slice_get inputs.conf.interfaces place ≡ Some r → HavePlaces gs (given_by (facts_of now) r (l3_device_of (facts_of now) r))) (room : HasGiftRoom inputs gs) where
          places_told : (q : ℕ) (r : InterfaceRow) → slice_get inputs.conf.interfaces q ≡ Some r → is_first inputs.conf.interfaces q r.name ≡ true → needs_no_answer (facts_of now) r ≡ true → (b : Bool) → (q == place) ≡ b
              → HavePlaces gs (given_by (facts_of now) r (l3_device_of (facts_of now) r))
          places_told q r at first needs true is = answered r (ap (slice_get inputs.conf.interfaces) (sym ((Decides-eqb q place).0 is)) ∙ at)
          places_told q r at first needs false is =
              let other : bytes_eq r.name interface ≡ false = other_name q r at first (λ e. let yes = (Decides-eqb q place).1 e in cc (is, yes)) in
              let same : answer_of (facts_of now) r ≡ answer_of (facts_of inputs) r = other_answer r other in
              subst (HavePlaces gs) (sym (ap (given_by (facts_of now) r) (l3_device_same r same) ∙ given_same r same (l3_device_of (facts_of inputs) r))) (room.places q r at first (sym (needs_same r same) ∙ needs))

          room_told : HasGiftRoom now gs
          room_told = record {
            places = λ q r at first needs. places_told q r at first needs (q == place) refl;
            few = λ r l3_device member. few_told r l3_device (bytes_eq r.name interface) refl (room.few r l3_device member);
            rows = room.rows;
          }

        pub counted_told : (c : SettlingState) → ((r : InterfaceRow) → slice_get inputs.conf.interfaces place ≡ Some r → HavePlaces c.gifts (given_by (facts_of now) r (l3_device_of (facts_of now) r)))
            → IsCountedBy inputs states.list.items c
            → IsCountedBy now states.list.items c
        counted_told c answered counted = record {
          agrees = record {
            below = record { rows = counted.agrees.below.rows; vlans = counted.agrees.below.vlans; radio = counted.agrees.below.radio; devices = counted.agrees.below.devices };
            knows = counted.agrees.knows;
          };
          counted = record { claims = counted.counted.claims; givers = givers_told c.gifts counted.counted.givers };
          room = room_told c.gifts answered counted.room;
        }
