-- Gifts that are told whether their names fall.
use Rattle.std.proofs.Common.{◌≡◌, ℕ, List, [], ◌∷◌, map, filter, Bool, true, false, cond, Some, refl, ap, sym, subst, ◌∙◌}
use Rattle.std.specs.Prelude.{is_some}
use Rattle.std.specs.FinSet as set
use Rattle.std.specs.Option.{option_map_or}
use Rattle.kern_model.specs.declared.object.Object.{Object}
use Rattle.kern_model.specs.ObjectOrder.{Objects, set_of}
use Rattle.net_rules.specs.declared.inputs.Inputs.{Inputs}
use Rattle.net_rules.specs.Inputs.{facts_of}
use Rattle.net_rules.specs.Moment.{IsHistory}
use Rattle.graph_rules.specs.State.{State}
use Rattle.graph_tables.specs.Whole.{IsWhole}
use Rattle.given_objects.specs.declared.gift.Gift.{Gift}
use Rattle.given_objects.specs.Gifts as gift
use Rattle.given_objects.specs.Gifts.{Gifts, is_of, gift_of, has_place, givers_of, AreGifts}
use Rattle.net_follow.specs.SettlingState.{SettlingState, held_of, IsReady}
use Rattle.net_follow.specs.Leaving.{looked_at, all_looked_at}
use Rattle.net_rules.specs.declared.state.InterfaceState.{InterfaceState}
use Rattle.net_follow.specs.Claiming.{HasClaims}
use Rattle.net_follow.specs.Beside.{HoldsLower, IsSettlingStateOf}
use Rattle.net_follow.proofs.SettlingStateLemmas.{looked_ready}
use Rattle.net_follow.proofs.CountedLemmas.{counted_beside}
use Rattle.net_follow.specs.States.{States}
use Rattle.net_follow.specs.Kept.{AreStatesOf}
use Rattle.net_follow.specs.Counted.{AgreesWith, IsCountedBy}

-- ---- they are the same gifts otherwise

module _ (s : State) where
  held_objects : (gs : Gifts) → map (λ (g : Gift). g.object) (filter (λ (g : Gift). g.held) (all_looked_at s gs)) ≡ map (λ (g : Gift). g.object) (filter (λ (g : Gift). g.held) gs)
  held_objects [] = refl
  held_objects (x ∷ xs) = by x.held (held_objects xs)
    where
      by : (b : Bool) → map (λ (g : Gift). g.object) (filter (λ (g : Gift). g.held) (all_looked_at s xs)) ≡ map (λ (g : Gift). g.object) (filter (λ (g : Gift). g.held) xs)
          → map (λ (g : Gift). g.object) (cond b (looked_at s x ∷ filter (λ (g : Gift). g.held) (all_looked_at s xs)) (filter (λ (g : Gift). g.held) (all_looked_at s xs)))
          ≡ map (λ (g : Gift). g.object) (cond b (x ∷ filter (λ (g : Gift). g.held) xs) (filter (λ (g : Gift). g.held) xs))
      by true rest = ap (λ (os : List Object). x.object ∷ os) rest
      by false rest = rest

  pub looked_held : (gs : Gifts) → gift.held_of (all_looked_at s gs) ≡ gift.held_of gs
  looked_held gs = ap set_of (held_objects gs)

  pub looked_givers : (gs : Gifts) (o : Object) → givers_of (all_looked_at s gs) o ≡ givers_of gs o
  looked_givers [] o = refl
  looked_givers (x ∷ xs) o = by (is_of o x) (looked_givers xs o)
    where
      by : (b : Bool) → givers_of (all_looked_at s xs) o ≡ givers_of xs o → option_map_or (λ (g : Gift). g.givers) (cond b (Some (looked_at s x)) (gift_of (all_looked_at s xs) o)) 0
          ≡ option_map_or (λ (g : Gift). g.givers) (cond b (Some x) (gift_of xs o)) 0
      by true rest = refl
      by false rest = rest

  pub looked_places : (gs : Gifts) (o : Object) → has_place (all_looked_at s gs) o ≡ has_place gs o
  looked_places [] o = refl
  looked_places (x ∷ xs) o = by (is_of o x) (looked_places xs o)
    where
      by : (b : Bool) → has_place (all_looked_at s xs) o ≡ has_place xs o → is_some (cond b (Some (looked_at s x)) (gift_of (all_looked_at s xs) o)) ≡ is_some (cond b (Some x) (gift_of xs o))
      by true rest = refl
      by false rest = rest

-- ---- a course whose gifts were told

module _ (before now : SettlingState) (graph : now.graph ≡ before.graph) (gifts : now.gifts ≡ all_looked_at before.graph before.gifts) where
  pub held_looked : held_of now ≡ held_of before
  held_looked =
      ap (λ (s : State). set.union s.held (gift.held_of now.gifts)) graph
      ∙ ap (λ (gs : Gifts). set.union before.graph.held (gift.held_of gs)) gifts
      ∙ ap (set.union before.graph.held) (looked_held before.graph before.gifts)

  pub counted_looked : (inputs : Inputs) (states : List InterfaceState) → IsCountedBy inputs states before → IsCountedBy inputs states now
  counted_looked inputs states counted = record {
    agrees = subst (λ (s : State). AgreesWith inputs s.known) (sym graph) counted.agrees;
    counted = record {
      claims = subst (λ (s : State). HasClaims states s.known) (sym graph) counted.counted.claims;
      givers = λ o. ap (λ (gs : Gifts). givers_of gs o) gifts ∙ looked_givers before.graph before.gifts o ∙ counted.counted.givers o;
    };
    room = record {
      places = λ place row at first needs o member.
          ap (λ (gs : Gifts). has_place gs o) gifts ∙ looked_places before.graph before.gifts o ∙ counted.room.places place row at first needs o member;
      few = counted.room.few;
      rows = counted.room.rows;
    };
  }

  pub ready_looked : now.may_lose_link ≡ true → IsWhole now.graph.known → AreGifts now.gifts → HoldsLower before.graph
      → (inputs : Inputs) (states : States) → IsHistory (record { inputs = inputs; held = held_of before })
      → AreStatesOf inputs states → IsCountedBy inputs states.list.items before → IsReady now
  ready_looked may whole are lower inputs states history of counted =
      let told : IsCountedBy inputs states.list.items now = counted_looked inputs states.list.items counted in
      let beside : IsSettlingStateOf inputs now = counted_beside inputs states.list.items now whole.names told.agrees.below of.are told.counted.claims told.counted.givers in
      let there : IsHistory (record { inputs = inputs; held = held_of now }) = subst (λ (h : Objects). IsHistory (record { inputs = inputs; held = h })) (sym held_looked) history in
      looked_ready inputs now there beside are (subst HoldsLower (sym graph) lower) may before.gifts (gifts ∙ ap (λ (s : State). all_looked_at s before.gifts) (sym graph))
