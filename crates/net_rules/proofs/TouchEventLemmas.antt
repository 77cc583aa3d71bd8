-- What events change of the facts, and what they touch.
use Rattle.std.proofs.Common.{◌≡◌, ℕ, List, [], ◌∷◌, ◌++◌, map, Bool, true, false, cond, Option, Some, None, refl, ap, sym, subst, ◌∙◌}
use Rattle.std.specs.Prelude.{bytes_eq, filter, not, ◌&&◌, ◌||◌, ◌==◌, nat_le, unwrap_or}
use Rattle.std.specs.List.{list_any}
use Rattle.std.specs.Option.{option_map, option_and_then}
use Rattle.std.specs.Ordering.{nat_cmp}
use Rattle.plane_words.specs.InOrder.{ordered}
use Rattle.kern_model.specs.declared.object.Device.{Device}
use Rattle.kern_model.specs.declared.object.DevEvent.{DevEvent}
use Rattle.kern_model.specs.declared.object.DevEvent.TheVariants as device
use Rattle.kern_model.specs.Kernel.{with_carrier}
use Rattle.kern_model.proofs.TestLemmas.{bytes_same, same_bytes, false_of_not}
use Rattle.net_rows.specs.declared.rows.InterfaceRow.{InterfaceRow}
use Rattle.net_rules.specs.declared.answer.Answer.{Answer}
use Rattle.net_rules.specs.declared.inputs.Inputs.{Inputs}
use Rattle.net_rules.specs.declared.inputs.OperatorState.{OperatorState}
use Rattle.net_rules.specs.declared.inputs.OpenInterface.{OpenInterface}
use Rattle.net_rules.specs.declared.event.Notice.TheVariants as notice
use Rattle.net_rules.specs.declared.event.Event.TheVariants as event
use Rattle.net_rules.specs.Rows.{is_faultless, interface_named, asks_nothing}
use Rattle.net_rules.specs.RadioPorts.{device_of}
use Rattle.net_rules.specs.Available.{available, link}
use Rattle.net_rules.specs.Interfaces.{has_device, has_link}
use Rattle.net_rules.specs.Inputs.{operator_state_in, facts_of}
use Rattle.net_rules.specs.Need.{interface_request, interface_need}
use Rattle.net_rules.specs.Numbers.{AreRising, interface_numbers}
use Rattle.net_rules.specs.After.{carrier_set, devices_after, answered_interface, changed, after}
use Rattle.net_rules.specs.Notices.{numbers_of, interface_notice, radio_notice, notices_between, notices}
use Rattle.net_rules.specs.Fresh.{IsReached}
use Rattle.net_rules.proofs.TableLemmas.{found_in, first_some, found_behind, found_without, found_mapped, found_member}
use Rattle.net_rules.proofs.ReachedLemmas.{reached_kept, after_answer}
use Rattle.net_rules.proofs.NumberLemmas.{reached_numbered}
use Rattle.net_rules.specs.Reach.{name_of}
use Rattle.net_rules.specs.Above.{DiffersAt}
use Rattle.net_rules.specs.Touched.{NeedsStay}
use Rattle.net_rules.proofs.TouchNumberLemmas.{none_lost, none_new}

-- a value that takes the place of those of its key changes what is found of no other key
none_behind : {X : Type 0} (o : Option X) (b : Bool) (x : X) → b ≡ false → first_some o (cond b (Some x) None) ≡ o
none_behind None true x h = cc h
none_behind None false x h = refl
none_behind (Some y) b x h = refl

not_dropped : {X : Type 0} (b : Bool) (o : Option X) → b ≡ false → cond b None o ≡ o
not_dropped true o h = cc h
not_dropped false o h = refl

not_same : (a b : List ℕ) → (b ≡ a → ⊥) → bytes_eq a b ≡ false
not_same a b other = false_of_not (bytes_eq a b) (λ h. other (sym (bytes_same a b h)))

left_found : {X : Type 0} (key : X → List ℕ) (gone : List ℕ) (xs : List X) (q : List ℕ) → (q ≡ gone → ⊥) → found_in key (filter (λ y. not (bytes_eq (key y) gone)) xs) q ≡ found_in key xs q
left_found key gone xs q other = found_without key gone xs q ∙ not_dropped (bytes_eq gone q) (found_in key xs q) (not_same gone q other)

replaced_found : {X : Type 0} (key : X → List ℕ) (x : X) (xs : List X) (q : List ℕ) → (q ≡ key x → ⊥) → found_in key (filter (λ y. not (bytes_eq (key y) (key x))) xs ++ x ∷ []) q ≡ found_in key xs q
replaced_found key x xs q other =
    let left = filter (λ y. not (bytes_eq (key y) (key x))) xs in
    found_behind key left (x ∷ []) q
    ∙ none_behind (found_in key left q) (bytes_eq (key x) q) x (not_same (key x) q other)
    ∙ left_found key (key x) xs q other

-- devices
carrier_key : (name : List ℕ) (on : Bool) (e : List ℕ × Device) → (carrier_set name on e).0 ≡ e.0
carrier_key name on e = by_test (bytes_eq e.0 name)
  where
    by_test : (b : Bool) → (cond b (e.0, with_carrier on e.1) e).0 ≡ e.0
    by_test true = refl
    by_test false = refl

carrier_off : (name : List ℕ) (on : Bool) (q : List ℕ) → (q ≡ name → ⊥) → (es : List (List ℕ × Device)) (found : Option (List ℕ × Device)) → found_in (λ e. e.0) es q ≡ found → option_map (carrier_set name on) found ≡ found
carrier_off name on q other es None is = refl
carrier_off name on q other es (Some e) is =
    let at = (found_member (λ (x : List ℕ × Device). x.0) es q e is).same in
    ap (λ b. Some (cond b (e.0, with_carrier on e.1) e)) (false_of_not (bytes_eq e.0 name) (λ h. other (sym at ∙ bytes_same e.0 name h)))

device_found : (es : List (List ℕ × Device)) (what : DevEvent) (q : List ℕ) → (q ≡ name_of what → ⊥) → found_in (λ e. e.0) (devices_after es what) q ≡ found_in (λ e. e.0) es q
device_found es (device.Add name carrier mtu mac) q other = replaced_found (λ (e : List ℕ × Device). e.0) (name, record { carrier = carrier; mtu = mtu; mac = mac }) es q other
device_found es (device.Remove name) q other = left_found (λ (e : List ℕ × Device). e.0) name es q other
device_found es (device.Carrier name on) q other =
    found_mapped (λ (e : List ℕ × Device). e.0) (carrier_set name on) (carrier_key name on) es q
    ∙ carrier_off name on q other es (found_in (λ (e : List ℕ × Device). e.0) es q) refl

pub device_differs : (inputs : Inputs) (what : DevEvent) → DiffersAt (name_of what) (facts_of inputs) (facts_of (changed inputs (event.Device what)))
device_differs inputs what = record {
  conf = refl;
  device = λ q other. ap (option_map (λ (e : List ℕ × Device). e.1)) (device_found inputs.devices what q other);
  operator_state = λ q. refl;
  answer = λ q. refl;
  ports = λ q. refl;
}

-- operator states
module _ (inputs : Inputs) (interface : List ℕ) (up : Bool) where
  abbrev commanded : Inputs
  commanded = changed inputs (event.Operator interface up)

  operator_state_found : (q : List ℕ) → (q ≡ interface → ⊥) → operator_state_in commanded.operator_states q ≡ operator_state_in inputs.operator_states q
  operator_state_found q other = ap (option_map (λ (c : OperatorState). c.up)) (replaced_found (λ (c : OperatorState). c.interface) (record { interface = interface; up = up }) inputs.operator_states q other)

  abbrev need_by : InterfaceRow → Option Bool → Bool
  need_by row operator_state =
      ((is_faultless row.faults && (not row.anonymous && (not row.disabled && unwrap_or operator_state row.autostart))) && has_device (facts_of inputs) row.proto (device_of (facts_of inputs) row))
      && (row.force_link || has_link (facts_of inputs) (device_of (facts_of inputs) row))

  row_need : (row : InterfaceRow) → (row.name ≡ interface → ⊥) → interface_need (facts_of commanded) row ≡ interface_need (facts_of inputs) row
  unfolding available link
  row_need row other = ap (λ (operator_state : Option Bool). cond (need_by row operator_state && not (asks_nothing row.proto)) (Some (interface_request (facts_of inputs) row)) None) (operator_state_found row.name other)

  found_need : (name : List ℕ) → bytes_eq name interface ≡ false → (found : Option InterfaceRow) → interface_named inputs.conf name ≡ found → option_and_then (interface_need (facts_of commanded)) found
      ≡ option_and_then (interface_need (facts_of inputs)) found
  found_need name off None is = refl
  found_need name off (Some row) is = row_need row (λ same.
      let at = (found_member (λ (r : InterfaceRow). r.name) inputs.conf.interfaces name row is).same in
      cc (off, same_bytes name interface (sym at ∙ same)))

  pub operator_state_stays : NeedsStay (facts_of inputs) (facts_of commanded) (λ name. bytes_eq name interface)
  operator_state_stays name off = found_need name off (interface_named inputs.conf name) refl

-- answers
answered_number : (interface : List ℕ) (number : ℕ) (answer : Answer) (o : OpenInterface) → (answered_interface interface number answer o).number ≡ o.number
answered_number interface number answer o = by_test (bytes_eq o.request.name interface && (o.number == number))
  where
    by_test : (b : Bool) → (cond b (record o { answer = Some answer }) o).number ≡ o.number
    by_test true = refl
    by_test false = refl

same_numbers : {O : Type 0} (number : O → ℕ) (f : O → O) → ((o : O) → number (f o) ≡ number o) → (os : List O) → map number (map f os) ≡ map number os
same_numbers number f same [] = refl
same_numbers number f same (o ∷ os) = ap (λ n. n ∷ map number (map f os)) (same o) ∙ ap (λ ns. number o ∷ ns) (same_numbers number f same os)

module _ (inputs : Inputs) (interface : List ℕ) (number : ℕ) (answer : Answer) (reached : IsReached inputs) where
  abbrev answered : Inputs
  answered = changed inputs (event.Answer interface number answer)

  pub answer_after : after inputs (event.Answer interface number answer) ≡ changed inputs (event.Answer interface number answer)
  answer_after = let kept = reached_kept inputs reached in after_answer inputs interface number answer kept.single kept.are

  numbers_same : interface_numbers answered ≡ interface_numbers inputs
  numbers_same = same_numbers (λ (o : OpenInterface). o.number) (answered_interface interface number answer) (answered_number interface number answer) inputs.interfaces

  all_same : numbers_of inputs ≡ numbers_of answered
  all_same = ap (λ ns. ns ++ map (λ o. o.number) inputs.radios) (sym numbers_same)

  none_told : notices_between inputs answered ≡ []
  none_told =
      ap (λ ns. map notice.Dropped (ordered nat_cmp (filter (λ n. not (list_any (λ m. m == n) (numbers_of answered))) ns))
      ++ (map (interface_notice inputs.conf) (filter (λ o. nat_le inputs.next o.number) answered.interfaces) ++ map (radio_notice inputs.conf) (filter (λ o. nat_le inputs.next o.number) inputs.radios))) all_same
      ∙ ap (λ ns. map notice.Dropped (ordered nat_cmp ns) ++ (map (interface_notice inputs.conf) (filter (λ o. nat_le inputs.next o.number) answered.interfaces)
      ++ map (radio_notice inputs.conf) (filter (λ o. nat_le inputs.next o.number) inputs.radios))) (none_lost (numbers_of answered) (numbers_of answered) (λ n h. h))
      ∙ ap (λ os. map (interface_notice inputs.conf) os ++ map (radio_notice inputs.conf) (filter (λ o. nat_le inputs.next o.number) inputs.radios))
      (none_new (λ o. o.number) inputs.next 1 answered.interfaces (subst (AreRising 1 inputs.next) (sym numbers_same) (reached_numbered inputs reached).interfaces))
      ∙ ap (λ os. map (radio_notice inputs.conf) os) (none_new (λ o. o.number) inputs.next 1 inputs.radios (reached_numbered inputs reached).radios)

  pub answer_silent : notices inputs (event.Answer interface number answer) ≡ []
  answer_silent = ap (notices_between inputs) answer_after ∙ none_told
