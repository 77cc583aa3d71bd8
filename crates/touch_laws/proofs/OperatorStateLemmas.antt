-- An operator state touches one interface.
use Rattle.std.proofs.Common.{ℕ, ◌≡◌, List, [], ◌∷◌, ◌++◌, map, Bool, true, false, cond, Option, Some, None, refl, ap, sym, ◌∙◌}
use Rattle.std.specs.Prelude.{bytes_eq, not, filter, ◌&&◌, ◌||◌, unwrap_or}
use Rattle.std.specs.Option.{option_map}
use Rattle.kern_model.proofs.MemberLemmas.{here}
use Rattle.kern_model.proofs.TestLemmas.{bytes_same, false_of_not}
use Rattle.net_rows.specs.declared.rows.InterfaceRow.{InterfaceRow}
use Rattle.net_rules.specs.declared.inputs.Inputs.{Inputs}
use Rattle.net_rules.specs.declared.inputs.OperatorState.{OperatorState}
use Rattle.net_rules.specs.declared.event.Event.TheVariants as event
use Rattle.net_rules.specs.Rows.{is_faultless, asks_nothing}
use Rattle.net_rules.specs.RadioPorts.{device_of}
use Rattle.net_rules.specs.Available.{available, link}
use Rattle.net_rules.specs.Interfaces.{has_device, is_claimed, has_link, answer_of, l3_device_of, serves_l3_device, is_answered_up, is_up}
use Rattle.net_rules.specs.Need.{interface_request, interface_need}
use Rattle.net_rules.specs.Want.{given_by, given}
use Rattle.net_rules.specs.Inputs.{operator_state_in, facts_of}
use Rattle.net_rules.specs.After.{changed, asked, after}
use Rattle.net_rules.specs.Notices.{notices_between}
use Rattle.net_rules.specs.Fresh.{IsReached}
use Rattle.net_rules.proofs.TableLemmas.{found_in, first_some, found_behind, found_without}
use Rattle.net_rules.specs.Touched.{HasSameRequests, NeedsStay, asked_of}
use Rattle.net_rules.proofs.TouchEventLemmas.{operator_state_stays}
use Rattle.net_rules.proofs.AskedLemmas.{asked_then}
use Rattle.net_rules.proofs.ToldLemmas.{told_then}
use Rattle.net_view.specs.Places.{place_of}
use Rattle.asked_places.specs.Touched.{is_touched}
use Rattle.touch_laws.specs.Staying.{StaysAs, FollowTouched}
use Rattle.touch_laws.proofs.PlaceLemmas.{touched_at}

-- one of a key takes the place of others, which are found as before
none_behind : {X : Type 0} (o : Option X) (b : Bool) (x : X) → b ≡ false → first_some o (cond b (Some x) None) ≡ o
none_behind None true x h = cc h
none_behind None false x h = refl
none_behind (Some y) b x h = refl

not_dropped : {X : Type 0} (b : Bool) (o : Option X) → b ≡ false → cond b None o ≡ o
not_dropped true o h = cc h
not_dropped false o h = refl

not_same : (a b : List ℕ) → (b ≡ a → ⊥) → bytes_eq a b ≡ false
not_same a b other = false_of_not (bytes_eq a b) (λ h. other (sym (bytes_same a b h)))

left_found : {X : Type 0} (key : X → List ℕ) (gone : List ℕ) (xs : List X) (q : List ℕ) → (q ≡ gone → ⊥) → found_in key (filter (λ y. not (bytes_eq (key y) gone)) xs) q ≡ found_in key xs q
left_found key gone xs q other = found_without key gone xs q ∙ not_dropped (bytes_eq gone q) (found_in key xs q) (not_same gone q other)

replaced_found : {X : Type 0} (key : X → List ℕ) (x : X) (xs : List X) (q : List ℕ) → (q ≡ key x → ⊥) → found_in key (filter (λ y. not (bytes_eq (key y) (key x))) xs ++ x ∷ []) q ≡ found_in key xs q
replaced_found key x xs q other =
    let left = filter (λ y. not (bytes_eq (key y) (key x))) xs in
    found_behind key left (x ∷ []) q
    ∙ none_behind (found_in key left q) (bytes_eq (key x) q) x (not_same (key x) q other)
    ∙ left_found key (key x) xs q other

module _ (inputs : Inputs) (interface : List ℕ) (up : Bool) where
  abbrev now : Inputs
  now = changed inputs (event.Operator interface up)

  operator_state_found : (q : List ℕ) → (q ≡ interface → ⊥) → operator_state_in now.operator_states q ≡ operator_state_in inputs.operator_states q
  operator_state_found q other = ap (option_map (λ (c : OperatorState). c.up)) (replaced_found (λ (c : OperatorState). c.interface) (record { interface = interface; up = up }) inputs.operator_states q other)

  abbrev claimed_by : InterfaceRow → Option Bool → Bool
  claimed_by row operator_state =
      (is_faultless row.faults && (not row.anonymous && (not row.disabled && unwrap_or operator_state row.autostart))) && has_device (facts_of inputs) row.proto (device_of (facts_of inputs) row)

  abbrev ready_by : InterfaceRow → Option Bool → Bool
  ready_by row operator_state = claimed_by row operator_state && (row.force_link || has_link (facts_of inputs) (device_of (facts_of inputs) row))

  abbrev up_by : InterfaceRow → Option Bool → Bool
  up_by row operator_state =
      ready_by row operator_state
      && (asks_nothing row.proto || (is_answered_up (answer_of (facts_of inputs) row) && serves_l3_device (facts_of inputs) (device_of (facts_of inputs) row) (l3_device_of (facts_of inputs) row)))

  module _ (row : InterfaceRow) (other : row.name ≡ interface → ⊥) where
    claimed_stays : is_claimed (facts_of now) row ≡ is_claimed (facts_of inputs) row
    unfolding available link
    claimed_stays = ap (claimed_by row) (operator_state_found row.name other)

    up_stays : is_up (facts_of now) row ≡ is_up (facts_of inputs) row
    unfolding available link
    up_stays = ap (up_by row) (operator_state_found row.name other)

    need_stays : interface_need (facts_of now) row ≡ interface_need (facts_of inputs) row
    unfolding available link
    need_stays = ap (λ (operator_state : Option Bool). cond (ready_by row operator_state && not (asks_nothing row.proto)) (Some (interface_request (facts_of inputs) row)) None) (operator_state_found row.name other)

    gives_stays : given (facts_of now) row ≡ given (facts_of inputs) row
    gives_stays = ap (λ b. cond b (given_by (facts_of inputs) row (l3_device_of (facts_of inputs) row)) []) up_stays

    row_stays : StaysAs (facts_of inputs) (facts_of now) row
    row_stays = record { device = refl; l3_device = refl; claimed = claimed_stays; up = up_stays; need = need_stays; gives = gives_stays }

  module _ (place : ℕ) (is : place_of (map (λ (row : InterfaceRow). row.name) inputs.conf.interfaces) interface ≡ Some place) where
    abbrev touched : List ℕ → Bool
    touched = is_touched inputs.conf.interfaces (place ∷ [])

    is_other : (name : List ℕ) → touched name ≡ false → name ≡ interface → ⊥
    is_other name off same =
        let on = touched_at inputs.conf.interfaces (place ∷ []) name place (ap (place_of (map (λ (row : InterfaceRow). row.name) inputs.conf.interfaces)) same ∙ is) (here place []) in
        cc (on, off)

    pub stays_as : (row : InterfaceRow) → touched row.name ≡ false → StaysAs (facts_of inputs) (facts_of now) row
    stays_as row off = row_stays row (is_other row.name off)

    needs_are : NeedsStay (facts_of inputs) (facts_of now) touched
    needs_are name off = operator_state_stays inputs interface up name (false_of_not (bytes_eq name interface) (λ same. is_other name off (bytes_same name interface same)))

    same_requests : HasSameRequests inputs now
    same_requests = record { conf = refl; interfaces = refl; radios = refl; next = refl }

    after_is : after inputs (event.Operator interface up) ≡ asked now
    unfolding after
    after_is = refl

    pub follows : IsReached inputs → FollowTouched inputs (event.Operator interface up) touched
    follows reached =
        let requests : after inputs (event.Operator interface up) ≡ asked_of touched now = after_is ∙ asked_then inputs now touched reached same_requests needs_are in
        record { follow = requests; told = ap (notices_between inputs) requests ∙ told_then inputs now touched reached same_requests }
