-- What an operator state leaves and moves.
use Rattle.std.proofs.Common.{arith, ℕ, ◌≡◌, ◌<◌, ◌^◌, List, [], ◌∷◌, length, Bool, true, false, Contains, Some, refl, ap, sym, ◌∙◌}
use Rattle.std.specs.Prelude.{is_some, slice_get}
use Rattle.std.specs.Option.{option_and_then}
use Rattle.net_rows.specs.declared.rows.InterfaceRow.{InterfaceRow}
use Rattle.net_rows.specs.declared.rows.Conf.{Conf}
use Rattle.net_rules.specs.declared.inputs.Inputs.{Inputs}
use Rattle.net_rules.specs.declared.event.Event.TheVariants as event
use Rattle.net_rules.specs.Rows.{interface_named}
use Rattle.net_rules.specs.Inputs.{facts_of}
use Rattle.net_rules.specs.After.{changed, operator_states_after}
use Rattle.state_requests.specs.SettlingState.{SettlingState, IsReady}
use Rattle.known_inputs.specs.Known.{IsNamed}
use Rattle.net_rules.specs.declared.state.InterfaceState.{InterfaceState}
use Rattle.net_rules.specs.States.{is_first, IsStateAs}
use Rattle.net_view.proofs.PlaceLemmas.{at_place}
use Rattle.net_reach.specs.Reach.{interface_place}
use Rattle.net_reach.proofs.AlikeLemmas.{alike_reach, operator_state_alike}
use Rattle.touch_laws.proofs.StateLemmas.{behind_operator_state}
use Rattle.state_requests.specs.States.{States}
use Rattle.state_requests.specs.Kept.{AreStatesOf, FollowBut}
use Rattle.state_requests.specs.Counted.{IsCountedBy}
use Rattle.net_follow.proofs.CalmLemmas.{calm_of_ready}
use Rattle.net_follow.proofs.CountLemmas.{counted_other, tied_other}
use Rattle.net_follow.proofs.KeptLemmas.{Moves, has_member, within_of}
use Rattle.asked_places.proofs.PlaceLemmas.{first_at_place}

-- a place of a name is that of a row
pub place_within : (conf : Conf) (name : List ℕ) (place : ℕ) → interface_place conf name ≡ Some place → place < length conf.interfaces
place_within conf name place is = let at = first_at_place conf.interfaces name place is in within_of conf.interfaces place at.row at.at

-- and the name is that of an interface
pub name_known : (conf : Conf) (name : List ℕ) (place : ℕ) → interface_place conf name ≡ Some place → IsNamed conf name
name_known conf name place is =
    let at = first_at_place conf.interfaces name place is in
    let named : interface_named conf name ≡ Some at.row = sym (at_place (λ (r : InterfaceRow). r.name) conf.interfaces name) ∙ ap (option_and_then (slice_get conf.interfaces)) is ∙ at.at in
    ap is_some named

module _ (inputs : Inputs) (interface : List ℕ) (up : Bool) (place : ℕ) (own : interface_place inputs.conf interface ≡ Some place) where
  abbrev now : Inputs
  now = changed inputs (event.Operator interface up)

  state_by : (q : ℕ) (row : InterfaceRow) (st : InterfaceState) → slice_get inputs.conf.interfaces q ≡ Some row → (Contains (place ∷ []) q → ⊥) → (b : Bool) → is_first inputs.conf.interfaces q row.name ≡ b
      → IsStateAs b (facts_of inputs) row st → IsStateAs b (facts_of now) row st
  state_by q row st at outside true is state = behind_operator_state inputs interface up place q row st own at is outside state
  state_by q row st at outside false is state = state

  follow_but : (list : List InterfaceState) → ((q : ℕ) (row : InterfaceRow) (st : InterfaceState) → slice_get inputs.conf.interfaces q ≡ Some row → slice_get list q ≡ Some st
      → IsStateAs (is_first inputs.conf.interfaces q row.name) (facts_of inputs) row st) → FollowBut now (place ∷ []) list
  follow_but list each = λ q row st at here apart.
      let outside : Contains (place ∷ []) q → ⊥ = λ member. let among = has_member (place ∷ []) q member in cc (among, apart) in
      state_by q row st at outside (is_first inputs.conf.interfaces q row.name) refl (each q row st at here)

  pub operator_state_moves : (states : States) (c : SettlingState) → AreStatesOf inputs states → IsCountedBy inputs states.list.items c → IsReady c → inputs.next < 2 ^ 63 → Moves now (place ∷ []) states c
  operator_state_moves states c are counted ready next =
      let within : place < length inputs.conf.interfaces = place_within inputs.conf interface place own in
      record {
        rising = (omega arith, within, tt);
        tied = tied_other inputs inputs.devices (operator_states_after inputs.operator_states interface up) states states.reach (alike_reach inputs now states.reach (operator_state_alike inputs interface up) are.tied.reach) are.tied;
        follow = follow_but states.list.items are.are.each;
        counted = counted_other inputs inputs.devices (operator_states_after inputs.operator_states interface up) states.list.items c (record {
          below = record { rows = counted.agrees.below.rows; vlans = counted.agrees.below.vlans; radio = counted.agrees.below.radio; devices = counted.agrees.below.devices };
          knows = counted.agrees.knows;
        }) counted.counted.claims counted.counted.givers counted.room;
        calm = calm_of_ready c ready;
        next = omega (arith, next);
      }
