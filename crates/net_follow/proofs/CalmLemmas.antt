-- What is held and wanted is ready to be settled, once it is looked at.
use Rattle.std.proofs.Common.{ℕ, ◌≡◌, List, map, Contains, Bool, true, false, refl, ap, sym, subst, ◌∙◌}
use Rattle.std.specs.FinSet as set
use Rattle.kern_model.specs.declared.object.LinkKind.{LinkKind}
use Rattle.kern_model.specs.declared.object.Object.{Object}
use Rattle.kern_model.specs.declared.object.Object.TheVariants as object
use Rattle.kern_model.specs.ObjectOrder.{Objects, Has}
use Rattle.net_rows.specs.declared.rows.NameRow.{NameRow}
use Rattle.net_rows.specs.declared.rows.VlanRow.{VlanRow}
use Rattle.net_rules.specs.declared.inputs.Inputs.{Inputs}
use Rattle.net_rules.specs.Moment.{IsHistory}
use Rattle.graph_rules.specs.declared.ids.RadioPort.{RadioPort}
use Rattle.graph_rules.specs.State.{Known, State}
use Rattle.graph_rules.specs.After.{with_names}
use Rattle.graph_wishes.specs.Wishes.{May, mays}
use Rattle.graph_tables.specs.Whole.{IsWhole}
use Rattle.graph_laws.specs.Links.{HoldsLinksOfRows}
use Rattle.graph_laws.proofs.LostLinkLemmas.{links_stay}
use Rattle.given_objects.specs.Gifts as gift
use Rattle.given_objects.specs.Gifts.{Gifts, AreGifts, has_place, givers_of}
use Rattle.state_requests.specs.SettlingState.{SettlingState, held_of, IsReady}
use Rattle.state_requests.specs.Leaving.{all_looked_at}
use Rattle.settling_laws.specs.Beside.{IsSettlingStateOf, HoldsLower, AreQuiet}
use Rattle.settling_laws.proofs.CountedLemmas.{counted_beside}
use Rattle.settling_laws.proofs.SettlingStateLemmas.{looked_ready, quiet_ready}
use Rattle.state_requests.specs.Claiming.{HasClaims, DiffersInClaims}
use Rattle.net_rules.specs.declared.state.InterfaceState.{InterfaceState}
use Rattle.net_gifts.proofs.BareLemmas.{held_stays}
use Rattle.state_requests.specs.States.{States}
use Rattle.state_requests.specs.Kept.{AreStatesOf}
use Rattle.state_requests.specs.Counted.{AgreesWith, IsCountedBy, DiffersInCounts}
use Rattle.net_follow.specs.InStep.{IsCalm}
use Rattle.net_follow.proofs.GiftLemmas.{looked_places, looked_givers, looked_held, quiet_counts}

pub calm_of_ready : (c : SettlingState) → IsReady c → IsCalm c
calm_of_ready c ready = record { lower = ready.lower; links = ready.links; quiet = ready.quiet }

-- ---- where counts alone differ

known_with : (s t : Known) → t.rows ≡ s.rows → t.vlans ≡ s.vlans → t.radio ≡ s.radio → record s { names = t.names } ≡ t
known_with s t rows vlans radio =
    ap (λ (rs : List NameRow). let k : Known = record { rows = rs; vlans = s.vlans; names = t.names; radio = s.radio } in k) (sym rows)
    ∙ ap (λ (vs : List VlanRow). let k : Known = record { rows = t.rows; vlans = vs; names = t.names; radio = s.radio } in k) (sym vlans)
    ∙ ap (λ (ps : List RadioPort). let k : Known = record { rows = t.rows; vlans = t.vlans; names = t.names; radio = ps } in k) (sym radio)

links_counts : (s t : State) → DiffersInClaims s t → HoldsLinksOfRows s → HoldsLinksOfRows t
links_counts s t stays holds =
    let there : HoldsLinksOfRows (record (with_names s t.known.names) { held = t.held }) =
    links_stay s t.known.names t.held holds (λ name member. subst (λ (names : List (List ℕ)). Contains names name) (sym stays.names) member)
    (λ o has. subst (λ (held : Objects). Has held o) stays.held has) in
    subst (λ (k : Known). (name : List ℕ) (kind : LinkKind) → Has t.held (object.Link name kind) → Contains (map (λ (m : May). m.object) (mays k)) (object.Link name kind))
    (known_with s.known t.known stays.rows stays.vlans stays.radio) there

pub calm_counts : (before now : SettlingState) → DiffersInCounts before now → IsCalm before → IsCalm now
calm_counts before now stays calm = record {
  lower = λ o has. calm.lower o (subst (λ (held : Objects). Has held o) stays.graph.held has);
  links = λ off. links_counts before.graph now.graph stays.graph (calm.links (sym stays.may_lose_link ∙ off));
  quiet = λ off. quiet_counts before.gifts now.gifts stays.gifts (calm.quiet (sym stays.may_lose_link ∙ off));
}

pub held_counts : (before now : SettlingState) → DiffersInCounts before now → held_of now ≡ held_of before
held_counts before now stays =
    ap (λ (held : Objects). set.union held (gift.held_of now.gifts)) stays.graph.held
    ∙ ap (λ (held : Objects). set.union before.graph.held held) (held_stays before.gifts now.gifts stays.gifts)

-- ---- once it is looked at

module _ (middle now : SettlingState) (graph : now.graph ≡ middle.graph) (may : now.may_lose_link ≡ middle.may_lose_link)
    (looked : middle.may_lose_link ≡ true → now.gifts ≡ all_looked_at middle.graph middle.gifts) (quiet : middle.may_lose_link ≡ false → now.gifts ≡ middle.gifts) where
  gifts_held : (b : Bool) → middle.may_lose_link ≡ b → gift.held_of now.gifts ≡ gift.held_of middle.gifts
  gifts_held true is = ap gift.held_of (looked is) ∙ looked_held middle.graph middle.gifts
  gifts_held false is = ap gift.held_of (quiet is)

  givers_looked : (b : Bool) → middle.may_lose_link ≡ b → (o : Object) → givers_of now.gifts o ≡ givers_of middle.gifts o
  givers_looked true is o = ap (λ (gs : Gifts). givers_of gs o) (looked is) ∙ looked_givers middle.graph middle.gifts o
  givers_looked false is o = ap (λ (gs : Gifts). givers_of gs o) (quiet is)

  places_looked : (b : Bool) → middle.may_lose_link ≡ b → (o : Object) → has_place now.gifts o ≡ has_place middle.gifts o
  places_looked true is o = ap (λ (gs : Gifts). has_place gs o) (looked is) ∙ looked_places middle.graph middle.gifts o
  places_looked false is o = ap (λ (gs : Gifts). has_place gs o) (quiet is)

  pub held_looked : held_of now ≡ held_of middle
  held_looked =
      ap (λ (s : State). set.union s.held (gift.held_of now.gifts)) graph
      ∙ ap (λ (held : Objects). set.union middle.graph.held held) (gifts_held middle.may_lose_link refl)

  pub counted_looked : (inputs : Inputs) (list : List InterfaceState) → IsCountedBy inputs list middle → IsCountedBy inputs list now
  counted_looked inputs list counted = record {
    agrees = subst (λ (s : State). AgreesWith inputs s.known) (sym graph) counted.agrees;
    counted = record {
      claims = subst (λ (s : State). HasClaims list s.known) (sym graph) counted.counted.claims;
      givers = λ o. givers_looked middle.may_lose_link refl o ∙ counted.counted.givers o;
    };
    room = record {
      places = λ place row at first needs o given. places_looked middle.may_lose_link refl o ∙ counted.room.places place row at first needs o given;
      few = counted.room.few;
      rows = counted.room.rows;
    };
  }

  module _ (inputs : Inputs) (calm : IsCalm middle) (whole : IsWhole now.graph.known) (are : AreGifts now.gifts) (history : IsHistory (record { inputs = inputs; held = held_of now })) where
    ready_by : IsSettlingStateOf inputs now → (b : Bool) → middle.may_lose_link ≡ b → IsReady now
    ready_by beside true is =
        looked_ready inputs now history beside are (subst HoldsLower (sym graph) calm.lower) (may ∙ is) middle.gifts
        (looked is ∙ ap (λ (s : State). all_looked_at s middle.gifts) (sym graph))
    ready_by beside false is =
        quiet_ready inputs now history beside are (subst HoldsLower (sym graph) calm.lower) (subst HoldsLinksOfRows (sym graph) (calm.links is)) (subst AreQuiet (sym (quiet is)) (calm.quiet is))

    pub ready_looked : (states : States) → AreStatesOf inputs states → IsCountedBy inputs states.list.items now → IsReady now
    ready_looked states are_of counted =
        ready_by (counted_beside inputs states.list.items now whole.names counted.agrees.below are_of.are counted.counted.claims counted.counted.givers) middle.may_lose_link refl
