-- A graph, and the gifts above it, follow what happens to a device.
use Rattle.std.proofs.Common.{ℕ, ◌≡◌, List, Bool, Option, Some, None, ap, sym, subst, ◌∙◌}
use Rattle.std.specs.FinSet as set
use Rattle.kern_model.specs.declared.object.Device.{Device}
use Rattle.kern_model.specs.declared.object.Mac.{Mac}
use Rattle.kern_model.specs.declared.object.DevEvent.{DevEvent}
use Rattle.kern_model.specs.declared.object.DevEvent.TheVariants as device
use Rattle.net_rules.specs.declared.inputs.Inputs.{Inputs}
use Rattle.net_rules.specs.declared.event.Event.TheVariants as event
use Rattle.net_rules.specs.Inputs.{facts_of}
use Rattle.net_rules.specs.Moment.{held_after}
use Rattle.net_rules.specs.Refusal.{refusal}
use Rattle.net_rules.specs.After.{devices_after, changed}
use Rattle.graph_rules.specs.State.{State, place_among}
use Rattle.graph_rules.specs.After.{name_at, with_device, with_names, left_by, present_after, carrier_after, absent_after}
use Rattle.graph_laws.specs.Below.{AgreesBelow}
use Rattle.given_objects.specs.Gifts as gift
use Rattle.given_objects.specs.Gifts.{Gifts}
use Rattle.state_requests.specs.SettlingState.{SettlingState, held_of, IsReady}
use Rattle.state_requests.specs.Leaving.{left_gifts}
use Rattle.settling_laws.proofs.DeviceLemmas.{comes_below, leaves_below, carrier_below}
use Rattle.state_requests.specs.Claiming.{HasClaims}
use Rattle.known_inputs.specs.Steps.{name_of}
use Rattle.net_rules.specs.declared.state.InterfaceState.{InterfaceState}
use Rattle.net_gifts.specs.Giving.{HasGivers}
use Rattle.state_requests.specs.Counted.{AgreesWith, HasGiftRoom, IsCountedBy}
use Rattle.net_follow.specs.InStep.{IsCalm}
use Rattle.net_follow.proofs.GiftLemmas.{left_places, left_givers}
use Rattle.net_follow.proofs.CountLemmas.{counted_other}
use Rattle.net_follow.proofs.GraphLemmas.{knows_told, claims_told, calm_told, calm_left, held_left}
use Rattle.net_follow.proofs.PlaceLemmas.{was_present}
use Rattle.net_follow.proofs.StepLemmas.{moment_of}

-- ---- a device that is there, or is told of its carrier

module _ (c : SettlingState) (id : ℕ) (d : Option Device) (now : State) (is : now ≡ with_names c.graph (with_device c.graph.known.names id d)) where
  abbrev told : State
  told = with_names c.graph (with_device c.graph.known.names id d)

  abbrev then : State → SettlingState
  then s = record { graph = s; gifts = c.gifts; may_lose_link = c.may_lose_link }

  pub told_counted : (what : DevEvent) → ((inputs : Inputs) → AgreesBelow (facts_of inputs) c.graph.known → AgreesBelow (facts_of (changed inputs (event.Device what))) told.known) → (inputs : Inputs) (list : List InterfaceState)
      → IsCountedBy inputs list c → IsCountedBy (changed inputs (event.Device what)) list (then now)
  told_counted what below inputs list counted =
      subst (λ (s : State). IsCountedBy (changed inputs (event.Device what)) list (then s)) (sym is)
      (counted_other inputs (devices_after inputs.devices what) inputs.operator_states list (then told)
      (record { below = below inputs counted.agrees.below; knows = knows_told c.graph id d counted.agrees.knows })
      (claims_told c.graph id d list counted.counted.claims) counted.counted.givers counted.room)

  pub told_held : held_of (then now) ≡ held_of c
  told_held = ap (λ (s : State). set.union s.held (gift.held_of c.gifts)) is

  pub told_calm : IsReady c → IsCalm (then now)
  told_calm ready = subst (λ (s : State). IsCalm (then s)) (sym is) (calm_told c id d ready)

  pub told_loads : now.loads ≡ c.graph.loads
  told_loads = ap (λ (s : State). s.loads) is

module _ (what : DevEvent) (s : State) (id : ℕ) (place : place_among s.known.names (name_of what) ≡ Some id) where
  pub come_below : (name : List ℕ) (carrier : Bool) (mtu : ℕ) (mac : Mac) → what ≡ device.Add name carrier mtu mac → (inputs : Inputs) → AgreesBelow (facts_of inputs) s.known
      → AgreesBelow (facts_of (changed inputs (event.Device what))) (present_after s id (record { carrier = carrier; mtu = mtu; mac = mac })).known
  come_below name carrier mtu mac is =
      subst (λ (w : DevEvent). place_among s.known.names (name_of w) ≡ Some id → (inputs : Inputs) → AgreesBelow (facts_of inputs) s.known
      → AgreesBelow (facts_of (changed inputs (event.Device w))) (present_after s id (record { carrier = carrier; mtu = mtu; mac = mac })).known) (sym is)
      (λ at inputs agrees. comes_below inputs s agrees name id at carrier mtu mac) place

  pub set_below : (name : List ℕ) (on : Bool) → what ≡ device.Carrier name on → (inputs : Inputs) → AgreesBelow (facts_of inputs) s.known → AgreesBelow (facts_of (changed inputs (event.Device what))) (carrier_after s id on).known
  set_below name on is =
      subst (λ (w : DevEvent). place_among s.known.names (name_of w) ≡ Some id → (inputs : Inputs) → AgreesBelow (facts_of inputs) s.known → AgreesBelow (facts_of (changed inputs (event.Device w))) (carrier_after s id on).known) (sym is)
      (λ at inputs agrees. carrier_below inputs s agrees name id at on) place

  gone_below : (name : List ℕ) → what ≡ device.Remove name → (inputs : Inputs) → AgreesBelow (facts_of inputs) s.known → AgreesBelow (facts_of (changed inputs (event.Device what))) (absent_after s id).known
  gone_below name is =
      subst (λ (w : DevEvent). place_among s.known.names (name_of w) ≡ Some id → (inputs : Inputs) → AgreesBelow (facts_of inputs) s.known → AgreesBelow (facts_of (changed inputs (event.Device w))) (absent_after s id).known) (sym is)
      (λ at inputs agrees. leaves_below inputs s agrees name id at) place

-- where a device comes, or is told of its carrier, what is held stays
pub come_held : (c now : SettlingState) (what : DevEvent) (name : List ℕ) (carrier : Bool) (mtu : ℕ) (mac : Mac) → what ≡ device.Add name carrier mtu mac → held_of now ≡ held_of c → held_of now ≡ held_after (held_of c) (event.Device what)
come_held c now what name carrier mtu mac is same = subst (λ (w : DevEvent). held_of now ≡ held_after (held_of c) (event.Device w)) (sym is) same

pub set_held : (c now : SettlingState) (what : DevEvent) (name : List ℕ) (on : Bool) → what ≡ device.Carrier name on → held_of now ≡ held_of c → held_of now ≡ held_after (held_of c) (event.Device what)
set_held c now what name on is same = subst (λ (w : DevEvent). held_of now ≡ held_after (held_of c) (event.Device w)) (sym is) same

-- ---- a device that leaves

module _ (c now : SettlingState) (id : ℕ) (what : DevEvent) (name : List ℕ) (is : what ≡ device.Remove name) (place : place_among c.graph.known.names (name_of what) ≡ Some id)
    (graph_is : now.graph ≡ absent_after c.graph id) (gifts : now.gifts ≡ left_gifts now.graph c.gifts) where
  pub gone_counted : (inputs : Inputs) (list : List InterfaceState) → IsCountedBy inputs list c → IsCountedBy (changed inputs (event.Device what)) list now
  gone_counted inputs list counted =
      let agrees : AgreesWith (changed inputs (event.Device what)) now.graph.known = subst (λ (s : State). AgreesWith (changed inputs (event.Device what)) s.known) (sym graph_is)
      (record { below = gone_below what c.graph id place name is inputs counted.agrees.below; knows = knows_told c.graph id None counted.agrees.knows }) in
      let claims : HasClaims list now.graph.known = subst (λ (s : State). HasClaims list s.known) (sym graph_is) (claims_told c.graph id None list counted.counted.claims) in
      let givers : HasGivers (facts_of inputs) inputs.conf.interfaces list now.gifts = subst (λ (gs : Gifts). HasGivers (facts_of inputs) inputs.conf.interfaces list gs) (sym gifts)
      (λ o. left_givers now.graph c.gifts o ∙ counted.counted.givers o) in
      let room : HasGiftRoom inputs now.gifts = subst (λ (gs : Gifts). HasGiftRoom inputs gs) (sym gifts) (record {
        places = λ at row row_at first needs o given. left_places now.graph c.gifts o ∙ counted.room.places at row row_at first needs o given;
        few = counted.room.few;
        rows = counted.room.rows;
      }) in
      counted_other inputs (devices_after inputs.devices what) inputs.operator_states list now agrees claims givers room

  pub gone_held : let named = name_at c.graph.known.names id in held_of now ≡ left_by named.device named.name (held_of c) → (inputs : Inputs) → AgreesBelow (facts_of inputs) c.graph.known
      → refusal (moment_of inputs (held_of c)) (event.Device what) ≡ None → held_of now ≡ held_after (held_of c) (event.Device what)
  gone_held held inputs below free =
      subst (λ (w : DevEvent). place_among c.graph.known.names (name_of w) ≡ Some id → refusal (moment_of inputs (held_of c)) (event.Device w) ≡ None → held_of now ≡ held_after (held_of c) (event.Device w)) (sym is)
      (λ at none. held ∙ held_left inputs c.graph.known name id (held_of c) below at (was_present inputs (held_of c) name none)) place free

  pub gone_calm : now.may_lose_link ≡ c.may_lose_link → IsReady c → IsCalm now
  gone_calm may ready = calm_left c now id graph_is gifts may ready
