-- What of gifts stays where givers alone move.
use Rattle.std.proofs.Common.{ℕ, ◌≡◌, ◌+◌, ◌-◌, List, [], ◌∷◌, map, Bool, true, false, cond, Some, refl, ap, sym, ◌∙◌}
use Rattle.std.specs.Prelude.{filter, fold, is_some, if◌then◌else◌}
use Rattle.kern_model.specs.declared.object.Object.{Object}
use Rattle.kern_model.specs.ObjectOrder.{set_of}
use Rattle.given_objects.specs.declared.gift.Gift.{Gift}
use Rattle.given_objects.specs.Gifts.{Gifts, is_of, gift_of, has_place, held_of}
use Rattle.given_objects.specs.Changes.{changed, given_once_more, given_once_less}
use Rattle.net_gifts.specs.Giving.{without_givers, DiffersInGivers}

changed_bare : (change : Gift → Gift) → ((g : Gift) → without_givers (change g) ≡ without_givers g) → (gs : Gifts) (o : Object) → map without_givers (changed change gs o) ≡ map without_givers gs
changed_bare change keeps [] o = refl
changed_bare change keeps (g ∷ gs) o =
    ap (λ x. x ∷ map without_givers (changed change gs o)) (by (is_of o g))
    ∙ ap (λ xs. without_givers g ∷ xs) (changed_bare change keeps gs o)
  where
    by : (b : Bool) → without_givers (if b then change g else g) ≡ without_givers g
    by true = keeps g
    by false = refl

pub more_bare : (gs : Gifts) (os : List Object) → DiffersInGivers gs (fold given_once_more gs os)
more_bare gs [] = refl
more_bare gs (o ∷ os) = more_bare (given_once_more gs o) os ∙ changed_bare (λ g. record g { givers = g.givers + 1 }) (λ g. refl) gs o

pub less_bare : (gs : Gifts) (os : List Object) → DiffersInGivers gs (fold given_once_less gs os)
less_bare gs [] = refl
less_bare gs (o ∷ os) = less_bare (given_once_less gs o) os ∙ changed_bare (λ g. record g { givers = g.givers - 1 }) (λ g. refl) gs o

place_bare : (gs : Gifts) (o : Object) → has_place (map without_givers gs) o ≡ has_place gs o
place_bare [] o = refl
place_bare (g ∷ gs) o = by (is_of o g) (place_bare gs o)
  where
    by : (b : Bool) → has_place (map without_givers gs) o ≡ has_place gs o → is_some (cond b (Some (without_givers g)) (gift_of (map without_givers gs) o)) ≡ is_some (cond b (Some g) (gift_of gs o))
    by true rest = refl
    by false rest = rest

pub places_stay : (before now : Gifts) (o : Object) → DiffersInGivers before now → has_place now o ≡ has_place before o
places_stay before now o same = sym (place_bare now o) ∙ ap (λ gs. has_place gs o) same ∙ place_bare before o

objects_bare : (gs : Gifts) → map (λ (g : Gift). g.object) (filter (λ g. g.held) (map without_givers gs)) ≡ map (λ (g : Gift). g.object) (filter (λ g. g.held) gs)
objects_bare [] = refl
objects_bare (g ∷ gs) = by g.held (objects_bare gs)
  where
    by : (b : Bool) → map (λ (g : Gift). g.object) (filter (λ g. g.held) (map without_givers gs)) ≡ map (λ (g : Gift). g.object) (filter (λ g. g.held) gs)
        → map (λ (g : Gift). g.object) (cond b (without_givers g ∷ filter (λ g. g.held) (map without_givers gs)) (filter (λ g. g.held) (map without_givers gs)))
        ≡ map (λ (g : Gift). g.object) (cond b (g ∷ filter (λ g. g.held) gs) (filter (λ g. g.held) gs))
    by true rest = ap (λ os. g.object ∷ os) rest
    by false rest = rest

pub held_stays : (before now : Gifts) → DiffersInGivers before now → held_of now ≡ held_of before
held_stays before now same = ap set_of (sym (objects_bare now) ∙ ap (λ gs. map (λ (g : Gift). g.object) (filter (λ g. g.held) gs)) same ∙ objects_bare before)
