-- What is kept and counted of interfaces where devices and operator states differ, and nothing else of the inputs.
use Rattle.std.proofs.Common.{ℕ, ◌≡◌, ◌≤◌, ◌^◌, List, [], length, Bool, true, false, cond, Option, Some, None, refl, ap, sym, subst, ◌∙◌}
use Rattle.kern_model.specs.declared.object.Device.{Device}
use Rattle.kern_model.specs.declared.object.Object.{Object}
use Rattle.net_rows.specs.declared.rows.InterfaceRow.{InterfaceRow}
use Rattle.net_rules.specs.declared.inputs.Inputs.{Inputs}
use Rattle.net_rules.specs.declared.inputs.OperatorState.{OperatorState}
use Rattle.net_rules.specs.Interfaces.{l3_device_of}
use Rattle.net_rules.specs.Want.{given_by}
use Rattle.net_rules.specs.Inputs.{facts_of}
use Rattle.given_objects.specs.Gifts.{Gifts}
use Rattle.state_requests.specs.SettlingState.{SettlingState}
use Rattle.net_rules.specs.declared.state.InterfaceState.{InterfaceState}
use Rattle.net_gifts.specs.Giving.{times_in, gives, HasGivers, HavePlaces}
use Rattle.net_gifts.proofs.TimesLemmas.{gives_agree}
use Rattle.net_reach.specs.declared.reach.Reach.{Reach}
use Rattle.net_reach.specs.Reach.{IsReachOf}
use Rattle.state_requests.specs.Claiming.{HasClaims}
use Rattle.state_requests.specs.States.{States}
use Rattle.state_requests.specs.Kept.{IsNotedAs, IsTied}
use Rattle.state_requests.specs.Counted.{AgreesWith, HasGiftRoom, IsCountedBy}

module _ (inputs : Inputs) (ds : List (List ℕ × Device)) (cs : List OperatorState) where
  abbrev pub other : Inputs
  other = record inputs { devices = ds; operator_states = cs }

  given_same : (row : InterfaceRow) (l3_device : Option (List ℕ)) → given_by (facts_of other) row l3_device ≡ given_by (facts_of inputs) row l3_device
  given_same row None = refl
  given_same row (Some dev) = refl

  gives_same : (row : InterfaceRow) (st : InterfaceState) → gives (facts_of other) row st ≡ gives (facts_of inputs) row st
  gives_same row st = ap (λ (os : List Object). cond {A = List Object} st.is_up os []) (given_same row st.l3_device)

  pub givers_other : (states : List InterfaceState) (gs : Gifts) → HasGivers (facts_of inputs) inputs.conf.interfaces states gs → HasGivers (facts_of other) inputs.conf.interfaces states gs
  givers_other states gs was = λ o.
      was o
      ∙ sym (ap (times_in o) (gives_agree (λ (e : InterfaceRow × InterfaceState). gives (facts_of other) e.0 e.1) (λ (e : InterfaceRow × InterfaceState). gives (facts_of inputs) e.0 e.1) inputs.conf.interfaces states
      (λ i row st row_at st_at. gives_same row st)))

  pub room_other : (gs : Gifts) → HasGiftRoom inputs gs → HasGiftRoom other gs
  room_other gs room = record {
    places = λ place row at first needs.
        let l3_device : Option (List ℕ) = l3_device_of (facts_of inputs) row in
        subst (HavePlaces gs) (sym (given_same row l3_device)) (room.places place row at first needs);
    few = λ row l3_device member. subst (λ (os : List Object). length os ≤ 2 ^ 50) (sym (given_same row l3_device)) (room.few row l3_device member);
    rows = room.rows;
  }

  -- counted beside another graph and other gifts, which agree
  pub counted_other : (states : List InterfaceState) (now : SettlingState) → AgreesWith other now.graph.known → HasClaims states now.graph.known → HasGivers (facts_of inputs) inputs.conf.interfaces states now.gifts
      → HasGiftRoom inputs now.gifts
      → IsCountedBy other states now
  counted_other states now agrees claims givers room = record {
    agrees = agrees;
    counted = record { claims = claims; givers = givers_other states now.gifts givers };
    room = room_other now.gifts room;
  }

  noted_as : (first : Bool) (row : InterfaceRow) (st : InterfaceState) → IsNotedAs first inputs row st → IsNotedAs first other row st
  noted_as true row st noted = record { device = noted.device; number = noted.number }
  noted_as false row st noted = noted

  pub tied_other : (states : States) (reach : Reach) → IsReachOf other reach → IsTied inputs states → IsTied other (record states { reach = reach })
  tied_other states reach reaches tied = record {
    reach = reaches;
    own = tied.own;
    noted = record {
      size = tied.noted.size;
      spare_size = tied.noted.spare_size;
      first = tied.noted.first;
      each = λ place row st at here. noted_as st.is_first row st (tied.noted.each place row st at here);
      at_hand = tied.noted.at_hand;
    };
    room = tied.room;
  }
