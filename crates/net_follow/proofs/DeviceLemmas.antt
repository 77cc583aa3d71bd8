-- What happens to a device is followed.
use Rattle.std.proofs.Common.{arith, ℕ, ◌≡◌, ◌≤◌, ◌+◌, ◌^◌, List, length, Bool, true, false, Contains, Some, refl, subst}
use Rattle.std.specs.Prelude.{slice_get}
use Rattle.kern_model.specs.declared.object.DevEvent.{DevEvent}
use Rattle.kern_model.specs.declared.object.DevEvent.TheVariants as device
use Rattle.net_rows.specs.declared.rows.InterfaceRow.{InterfaceRow}
use Rattle.net_rules.specs.declared.inputs.Inputs.{Inputs}
use Rattle.net_rules.specs.declared.event.Event.TheVariants as event
use Rattle.net_rules.specs.Inputs.{facts_of}
use Rattle.net_rules.specs.Numbers.{AreRising}
use Rattle.net_rules.specs.After.{devices_after, changed}
use Rattle.net_rules.specs.Reach as apart
use Rattle.state_requests.specs.SettlingState.{SettlingState}
use Rattle.known_inputs.specs.Steps as steps
use Rattle.net_rules.specs.declared.state.InterfaceState.{InterfaceState}
use Rattle.net_rules.specs.States.{is_first, IsStateAs}
use Rattle.net_reach.specs.declared.reach.Reach.{Reach}
use Rattle.net_reach.specs.Reach.{IsReachOf, AreTouched}
use Rattle.asked_places.proofs.OrderLemmas.{rising_below}
use Rattle.touch_laws.proofs.DeviceLemmas.{same_walk}
use Rattle.touch_laws.proofs.StateLemmas.{behind_device}
use Rattle.state_requests.specs.States.{States}
use Rattle.state_requests.specs.Kept.{AreStatesOf, FollowBut}
use Rattle.state_requests.specs.Counted.{IsCountedBy}
use Rattle.net_follow.specs.InStep.{IsCalm}
use Rattle.net_follow.proofs.CountLemmas.{tied_other}
use Rattle.net_follow.proofs.KeptLemmas.{Moves, has_member, within_of, rising_few}

-- the name of a device to which something happens, as two crates tell it
pub same_name : (what : DevEvent) → steps.name_of what ≡ apart.name_of what
same_name (device.Add name carrier mtu mac) = refl
same_name (device.Remove name) = refl
same_name (device.Carrier name on) = refl

module _ (inputs : Inputs) (what : DevEvent) (places : List ℕ) where
  abbrev now : Inputs
  now = changed inputs (event.Device what)

  -- the walk finds the same before and after it
  pub touched_before : AreTouched now (steps.name_of what) places → AreTouched inputs (apart.name_of what) places
  touched_before are = (same_walk inputs what places).0 (subst (λ name. AreTouched now name places) (same_name what) are)

  module _ (are : AreTouched inputs (apart.name_of what) places) where
    rising : AreRising 0 (length inputs.conf.interfaces) places
    rising = rising_below (length inputs.conf.interfaces) places are.rising (λ place member. let at = are.only place member in within_of inputs.conf.interfaces place at.row at.found)

    state_by : (q : ℕ) (row : InterfaceRow) (st : InterfaceState) → slice_get inputs.conf.interfaces q ≡ Some row → (Contains places q → ⊥) → (b : Bool) → is_first inputs.conf.interfaces q row.name ≡ b → IsStateAs b (facts_of inputs) row st
        → IsStateAs b (facts_of now) row st
    state_by q row st at outside true is state = behind_device inputs what places q row st are at is outside state
    state_by q row st at outside false is state = state

    follow_but : (list : List InterfaceState) → ((q : ℕ) (row : InterfaceRow) (st : InterfaceState) → slice_get inputs.conf.interfaces q ≡ Some row → slice_get list q ≡ Some st
        → IsStateAs (is_first inputs.conf.interfaces q row.name) (facts_of inputs) row st) → FollowBut now places list
    follow_but list each = λ q row st at here apart_from.
        let outside : Contains places q → ⊥ = λ member. let among = has_member places q member in cc (among, apart_from) in
        state_by q row st at outside (is_first inputs.conf.interfaces q row.name) refl (each q row st at here)

    pub device_moves : (states : States) (reach : Reach) (c : SettlingState) → AreStatesOf inputs states → IsReachOf now reach → IsCountedBy now states.list.items c → IsCalm c → inputs.next + 1024 ≤ 2 ^ 63
        → Moves now places (record states { reach = reach }) c
    device_moves states reach c states_are reaches counted calm next =
        let few : length places ≤ length inputs.conf.interfaces = rising_few (length inputs.conf.interfaces) places rising in
        let rows : length inputs.conf.interfaces ≤ 1024 = counted.room.rows in
        record {
          rising = rising;
          tied = tied_other inputs (devices_after inputs.devices what) inputs.operator_states states reach reaches states_are.tied;
          follow = follow_but states.list.items states_are.are.each;
          counted = counted;
          calm = calm;
          next = omega (arith, few, rows, next);
        }
