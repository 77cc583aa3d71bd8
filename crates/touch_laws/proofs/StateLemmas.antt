-- What an interface is stays where its place is not touched.
use Rattle.std.proofs.Common.{ℕ, ◌≡◌, List, [], ◌∷◌, Bool, true, false, cond, Contains, Option, Some, ap, sym, subst, ◌∙◌}
use Rattle.std.specs.Prelude.{◌==◌, bytes_eq, slice_get}
use Rattle.std.specs.List.{find}
use Rattle.std.specs.Option.{option_and_then, option_map_or}
use Rattle.std.proofs.lemmas.Bool.Decides.{Decides-eqb}
use Rattle.kern_model.specs.declared.object.DevEvent.{DevEvent}
use Rattle.kern_model.proofs.MemberLemmas.{here, there}
use Rattle.kern_model.proofs.TestLemmas.{from_any, false_of_not}
use Rattle.net_rows.specs.declared.rows.InterfaceRow.{InterfaceRow}
use Rattle.net_rows.specs.declared.rows.Conf.{Conf}
use Rattle.net_rules.specs.declared.inputs.Inputs.{Inputs}
use Rattle.net_rules.specs.declared.event.Event.TheVariants as event
use Rattle.net_rules.specs.Facts.{Facts}
use Rattle.net_rules.specs.Rows.{interfaces_of, interface_named}
use Rattle.net_rules.specs.Inputs.{facts_of}
use Rattle.net_rules.specs.After.{changed}
use Rattle.net_rules.proofs.OnceLemmas.{found_firsts}
use Rattle.net_rules.specs.Reach.{name_of}
use Rattle.net_rules.specs.declared.state.InterfaceState.{InterfaceState}
use Rattle.net_rules.specs.States.{is_first, IsStateOf}
use Rattle.net_view.specs.Places.{place_of}
use Rattle.net_view.proofs.PlaceLemmas.{at_place}
use Rattle.net_reach.specs.Reach.{AreTouched}
use Rattle.asked_places.specs.Touched.{has, names_of_rows, is_touched}
use Rattle.asked_places.proofs.PlaceLemmas.{place_of_first}
use Rattle.touch_laws.specs.Staying.{StaysAs}
use Rattle.touch_laws.proofs.DeviceLemmas as devices
use Rattle.touch_laws.proofs.OperatorStateLemmas as operator_states

-- what is found is a member
found_by : {X : Type 0} (y : X) (ys : List X) (x : X) (b : Bool) (rest : Option X) → (rest ≡ Some x → Contains ys x) → cond b (Some y) rest ≡ Some x → Contains (y ∷ ys) x
found_by y ys x true rest later is = let one : y ≡ x = cc is in subst (Contains (y ∷ ys)) one (here y ys)
found_by y ys x false rest later is = there y ys x (later is)

found_among : {X : Type 0} (p : X → Bool) (xs : List X) (x : X) → find p xs ≡ Some x → Contains xs x
found_among p [] x is = absurd (cc is)
found_among p (y ∷ ys) x is = found_by y ys x (p y) (find p ys) (found_among p ys x) is

-- the first row of a name
module _ (conf : Conf) (place : ℕ) (row : InterfaceRow) (at : slice_get conf.interfaces place ≡ Some row) (first : is_first conf.interfaces place row.name ≡ true) where
  place_is : place_of (names_of_rows conf.interfaces) row.name ≡ Some place
  place_is = place_of_first conf.interfaces place row at first

  pub first_among : Contains (interfaces_of conf) row
  first_among =
      let key : InterfaceRow → List ℕ = λ r. r.name in
      let named : interface_named conf row.name ≡ Some row = sym (at_place key conf.interfaces row.name) ∙ ap (option_and_then (slice_get conf.interfaces)) place_is ∙ at in
      found_among (λ (r : InterfaceRow). bytes_eq r.name row.name) (interfaces_of conf) row (found_firsts key conf.interfaces row.name ∙ named)

  pub untouched_at : (places : List ℕ) → (Contains places place → ⊥) → is_touched conf.interfaces places row.name ≡ false
  untouched_at places outside =
      ap (λ (o : Option ℕ). option_map_or (has places) o false) place_is
      ∙ false_of_not (has places place) (λ on.
      let found = from_any (λ other. place == other) places on in
      outside (subst (Contains places) (sym ((Decides-eqb place found.passing).0 found.passes)) found.member))

state_stays : (before now : Facts) (row : InterfaceRow) (st : InterfaceState) → StaysAs before now row → IsStateOf before row st → IsStateOf now row st
state_stays before now row st stays is = record {
  device = is.device ∙ sym stays.device;
  l3_device = is.l3_device ∙ sym stays.l3_device;
  claimed = is.claimed ∙ sym stays.claimed;
  up = is.up ∙ sym stays.up;
}

pub behind_device : (inputs : Inputs) (what : DevEvent) (places : List ℕ) (place : ℕ) (row : InterfaceRow) (st : InterfaceState) → AreTouched inputs (name_of what) places → slice_get inputs.conf.interfaces place ≡ Some row
    → is_first inputs.conf.interfaces place row.name ≡ true
    → (Contains places place → ⊥) → IsStateOf (facts_of inputs) row st → IsStateOf (facts_of (changed inputs (event.Device what))) row st
behind_device inputs what places place row st are at first outside is =
    state_stays (facts_of inputs) (facts_of (changed inputs (event.Device what))) row st
    (devices.stays_as inputs what places are row (first_among inputs.conf place row at first) (untouched_at inputs.conf place row at first places outside)) is

pub behind_operator_state : (inputs : Inputs) (interface : List ℕ) (up : Bool) (own place : ℕ) (row : InterfaceRow) (st : InterfaceState) → place_of (names_of_rows inputs.conf.interfaces) interface ≡ Some own
    → slice_get inputs.conf.interfaces place ≡ Some row
    → is_first inputs.conf.interfaces place row.name ≡ true → (Contains (own ∷ []) place → ⊥) → IsStateOf (facts_of inputs) row st → IsStateOf (facts_of (changed inputs (event.Operator interface up))) row st
behind_operator_state inputs interface up own place row st is_own at first outside is =
    state_stays (facts_of inputs) (facts_of (changed inputs (event.Operator interface up))) row st
    (operator_states.stays_as inputs interface up own is_own row (untouched_at inputs.conf place row at first (own ∷ []) outside)) is
