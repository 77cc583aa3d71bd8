-- What places for some objects change.
use Rattle.std.proofs.Common.{◌≡◌, ◌⊎◌, inl, inr, List, [], ◌∷◌, ◌++◌, map, filter, Contains, Some, true, false, Bool, cond, refl, ap, subst, ◌∙◌}
use Rattle.std.specs.Prelude.{if◌then◌else◌}
use Rattle.std.specs.Option.{option_map_or}
use Rattle.kern_model.specs.declared.object.Object.{Object}
use Rattle.kern_model.specs.ObjectOrder.{set_of}
use Rattle.kern_model.proofs.MemberLemmas.{first_or_later, none_in_nil}
use Rattle.given_objects.specs.declared.gift.Gift.{Gift}
use Rattle.given_objects.specs.Gifts.{Gifts, is_of, gift_of, has_place, givers_of, is_given, held_of, given_of}
use Rattle.given_objects.specs.Changes.{empty_gift, with_place}
use Rattle.given_objects.proofs.KeepLemmas.{place_held, place_given}
use Rattle.given_objects.proofs.PlaceLemmas.{place_itself, place_others, place_givers}
use Rattle.given_objects.proofs.FirstLemmas.{old_or_new}
use Rattle.gift_places.specs.Expecting.{with_places, held_alone, all_held_alone}

pub same_held : (gs : Gifts) (os : List Object) → held_of (with_places gs os) ≡ held_of gs
same_held gs [] = refl
same_held gs (x ∷ xs) = same_held (with_place gs x) xs ∙ place_held gs x

pub same_given : (gs : Gifts) (os : List Object) → given_of (with_places gs os) ≡ given_of gs
same_given gs [] = refl
same_given gs (x ∷ xs) = same_given (with_place gs x) xs ∙ place_given gs x

pub same_givers : (gs : Gifts) (os : List Object) (o : Object) → givers_of (with_places gs os) o ≡ givers_of gs o
same_givers gs [] o = refl
same_givers gs (x ∷ xs) o = same_givers (with_place gs x) xs o ∙ place_givers gs x o

pub still_place : (gs : Gifts) (os : List Object) (o : Object) → has_place gs o ≡ true → has_place (with_places gs os) o ≡ true
still_place gs [] o had = had
still_place gs (x ∷ xs) o had = still_place (with_place gs x) xs o (place_others gs x o had)

pub all_places : (gs : Gifts) (os : List Object) (o : Object) → Contains os o → has_place (with_places gs os) o ≡ true
all_places gs [] o member = absurd (none_in_nil o member)
all_places gs (x ∷ xs) o member = elim (first_or_later x xs o member) as (λ _. has_place (with_places gs (x ∷ xs)) o ≡ true) [
  | inl first ↦ still_place (with_place gs x) xs o (subst (λ z. has_place (with_place gs x) z ≡ true) first (place_itself gs x))
  | inr later ↦ all_places (with_place gs x) xs o later
]

-- a gift that is neither held nor given
abbrev IsEmpty : Gift → Type 0
IsEmpty g = (g.held ≡ false) × (is_given g ≡ false)

old_or_empty : (gs : Gifts) (o : Object) (g : Gift) → Contains (with_place gs o) g → Contains gs g ⊎ IsEmpty g
old_or_empty gs o g member = by (has_place gs o) member
  where
    by : (b : Bool) → Contains (if b then gs else gs ++ empty_gift o ∷ []) g → Contains gs g ⊎ IsEmpty g
    by true member = inl member
    by false member = elim (old_or_new gs (empty_gift o) g member) as (λ _. Contains gs g ⊎ IsEmpty g) [
      | inl old ↦ inl old
      | inr new ↦ inr (subst IsEmpty new (refl, refl))
    ]

pub all_old_or_empty : (gs : Gifts) (os : List Object) (g : Gift) → Contains (with_places gs os) g → Contains gs g ⊎ IsEmpty g
all_old_or_empty gs [] g member = inl member
all_old_or_empty gs (x ∷ xs) g member = elim (all_old_or_empty (with_place gs x) xs g member) as (λ _. Contains gs g ⊎ IsEmpty g) [
  | inl old ↦ old_or_empty gs x g old
  | inr empty ↦ inr empty
]

-- ---- what is held alone

held_objects : (gs : Gifts) → map (λ (g : Gift). g.object) (filter (λ (g : Gift). g.held) (all_held_alone gs)) ≡ map (λ (g : Gift). g.object) (filter (λ (g : Gift). g.held) gs)
held_objects [] = refl
held_objects (x ∷ xs) = by x.held refl (held_objects xs)
  where
    by : (b : Bool) → x.held ≡ b
        → map (λ (g : Gift). g.object) (filter (λ (g : Gift). g.held) (all_held_alone xs)) ≡ map (λ (g : Gift). g.object) (filter (λ (g : Gift). g.held) xs)
        → map (λ (g : Gift). g.object) (filter (λ (g : Gift). g.held) (map held_alone (cond b (x ∷ filter (λ (g : Gift). g.held) xs) (filter (λ (g : Gift). g.held) xs))))
        ≡ map (λ (g : Gift). g.object) (cond b (x ∷ filter (λ (g : Gift). g.held) xs) (filter (λ (g : Gift). g.held) xs))
    by true is rest =
        ap (λ (c : Bool). map (λ (g : Gift). g.object) (cond c (held_alone x ∷ filter (λ (g : Gift). g.held) (all_held_alone xs)) (filter (λ (g : Gift). g.held) (all_held_alone xs)))) is
        ∙ ap (λ (ys : List Object). x.object ∷ ys) rest
    by false is rest = rest

pub alone_held : (gs : Gifts) → held_of (all_held_alone gs) ≡ held_of gs
alone_held gs = ap set_of (held_objects gs)

none_given : (gs : Gifts) (o : Object) → givers_of (map held_alone gs) o ≡ 0
none_given [] o = refl
none_given (x ∷ xs) o = by (is_of o x) (none_given xs o)
  where
    by : (b : Bool) → givers_of (map held_alone xs) o ≡ 0 → option_map_or (λ (g : Gift). g.givers) (cond b (Some (held_alone x)) (gift_of (map held_alone xs) o)) 0 ≡ 0
    by true rest = refl
    by false rest = rest

pub alone_givers : (gs : Gifts) (o : Object) → givers_of (all_held_alone gs) o ≡ 0
alone_givers gs o = none_given (filter (λ (g : Gift). g.held) gs) o
