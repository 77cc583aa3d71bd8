-- Gifts of which something is told, one by one.
use Rattle.std.proofs.Common.{◌≡◌, [], ◌∷◌, map, Contains, Bool, true, false, cond, Some, refl, ap, sym, subst, ◌∙◌}
use Rattle.std.specs.Prelude.{filter, is_some, if◌then◌else◌}
use Rattle.std.specs.Option.{option_map_or}
use Rattle.std.specs.Ordering.{eq_by_cmp}
use Rattle.kern_model.specs.declared.object.Object.{Object}
use Rattle.kern_model.specs.ObjectOrder.{object_cmp, set_of}
use Rattle.kern_model.proofs.MemberLemmas.{map_member, member_of_map}
use Rattle.graph_rules.specs.State.{State}
use Rattle.given_objects.specs.declared.gift.Gift.{Gift}
use Rattle.given_objects.specs.Gifts.{Gifts, is_of, gift_of, has_place, givers_of, held_of}
use Rattle.state_requests.specs.Leaving.{looked_at, all_looked_at, is_left, left_gift, left_gifts}
use Rattle.settling_laws.specs.Beside.{AreQuiet}
use Rattle.net_gifts.specs.Giving.{without_givers, DiffersInGivers}

-- a change that leaves the object of each gift, and how often it is given
module _ (f : Gift → Gift) (object : (g : Gift) → (f g).object ≡ g.object) where
  of_same : (o : Object) (g : Gift) → is_of o (f g) ≡ is_of o g
  of_same o g = ap (eq_by_cmp object_cmp o) (object g)

  places_same : (gs : Gifts) (o : Object) → has_place (map f gs) o ≡ has_place gs o
  places_same [] o = refl
  places_same (g ∷ gs) o = ap (λ b. is_some (cond b (Some (f g)) (gift_of (map f gs) o))) (of_same o g) ∙ by (is_of o g) (places_same gs o)
    where
      by : (b : Bool) → has_place (map f gs) o ≡ has_place gs o → is_some (cond b (Some (f g)) (gift_of (map f gs) o)) ≡ is_some (cond b (Some g) (gift_of gs o))
      by true rest = refl
      by false rest = rest

  module _ (givers : (g : Gift) → (f g).givers ≡ g.givers) where
    givers_same : (gs : Gifts) (o : Object) → givers_of (map f gs) o ≡ givers_of gs o
    givers_same [] o = refl
    givers_same (g ∷ gs) o =
        ap (λ b. option_map_or (λ (x : Gift). x.givers) (cond b (Some (f g)) (gift_of (map f gs) o)) 0) (of_same o g)
        ∙ by (is_of o g) (givers_same gs o)
      where
        by : (b : Bool) → givers_of (map f gs) o ≡ givers_of gs o → option_map_or (λ (x : Gift). x.givers) (cond b (Some (f g)) (gift_of (map f gs) o)) 0 ≡ option_map_or (λ (x : Gift). x.givers) (cond b (Some g) (gift_of gs o)) 0
        by true rest = givers g
        by false rest = rest

-- ---- gifts that are told whether their names fall

pub looked_places : (s : State) (gs : Gifts) (o : Object) → has_place (all_looked_at s gs) o ≡ has_place gs o
looked_places s gs o = places_same (looked_at s) (λ g. refl) gs o

pub looked_givers : (s : State) (gs : Gifts) (o : Object) → givers_of (all_looked_at s gs) o ≡ givers_of gs o
looked_givers s gs o = givers_same (looked_at s) (λ g. refl) (λ g. refl) gs o

looked_objects : (s : State) (gs : Gifts) → map (λ (g : Gift). g.object) (filter (λ g. g.held) (map (looked_at s) gs)) ≡ map (λ (g : Gift). g.object) (filter (λ g. g.held) gs)
looked_objects s [] = refl
looked_objects s (g ∷ gs) = by g.held (looked_objects s gs)
  where
    by : (b : Bool) → map (λ (g : Gift). g.object) (filter (λ g. g.held) (map (looked_at s) gs)) ≡ map (λ (g : Gift). g.object) (filter (λ g. g.held) gs)
        → map (λ (g : Gift). g.object) (cond b (looked_at s g ∷ filter (λ g. g.held) (map (looked_at s) gs)) (filter (λ g. g.held) (map (looked_at s) gs)))
        ≡ map (λ (g : Gift). g.object) (cond b (g ∷ filter (λ g. g.held) gs) (filter (λ g. g.held) gs))
    by true rest = ap (λ os. g.object ∷ os) rest
    by false rest = rest

pub looked_held : (s : State) (gs : Gifts) → held_of (all_looked_at s gs) ≡ held_of gs
looked_held s gs = ap set_of (looked_objects s gs)

-- ---- gifts of which some go with a device

left_object : (s : State) (g : Gift) → (left_gift s g).object ≡ g.object
left_object s g = by (is_left s g)
  where
    by : (b : Bool) → (if b then record g { held = false; loses_link = false } else g).object ≡ g.object
    by true = refl
    by false = refl

left_given : (s : State) (g : Gift) → (left_gift s g).givers ≡ g.givers
left_given s g = by (is_left s g)
  where
    by : (b : Bool) → (if b then record g { held = false; loses_link = false } else g).givers ≡ g.givers
    by true = refl
    by false = refl

pub left_places : (s : State) (gs : Gifts) (o : Object) → has_place (left_gifts s gs) o ≡ has_place gs o
left_places s gs o = places_same (left_gift s) (left_object s) gs o

pub left_givers : (s : State) (gs : Gifts) (o : Object) → givers_of (left_gifts s gs) o ≡ givers_of gs o
left_givers s gs o = givers_same (left_gift s) (left_object s) (left_given s) gs o

-- ---- gifts that differ in their givers alone

pub quiet_counts : (before now : Gifts) → DiffersInGivers before now → AreQuiet before → AreQuiet now
quiet_counts before now same quiet g member held =
    let bare = subst (λ (gs : Gifts). Contains gs (without_givers g)) same (map_member without_givers now g member) in
    let from = member_of_map without_givers before (without_givers g) bare in
    sym (ap (λ (x : Gift). x.loses_link) from.same) ∙ quiet from.source from.member (ap (λ (x : Gift). x.held) from.same ∙ held)
