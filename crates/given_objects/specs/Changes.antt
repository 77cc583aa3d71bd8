-- What a step makes of gifts.
use Rattle.std.specs.Prelude.{ℕ, ◌+◌, ◌-◌, List, [], ◌∷◌, ◌++◌, map, filter, fold, Bool, false, ◌||◌, if◌then◌else◌}
use Rattle.std.specs.Prelude.{slice_get, slice_set}
use Rattle.std.specs.Option.{option_map_or}
use Rattle.kern_model.specs.declared.object.Object.{Object}
use Rattle.given_objects.specs.declared.gift.Gift.{Gift}
use Rattle.given_objects.specs.Gifts.{Gifts, is_of, has_place, is_given}

-- a place for an object that nobody gives yet and that is not held
abbrev pub empty_gift : Object → Gift
empty_gift o = record { object = o; givers = 0; held = false; loses_link = false }

-- with a place for an object, at the end where there was none
abbrev pub with_place : Gifts → Object → Gifts
with_place gs o = if has_place gs o then gs else gs ++ empty_gift o ∷ []

-- the gift of an object is changed, all others stay
abbrev pub changed : (Gift → Gift) → Gifts → Object → Gifts
changed change gs o = map (λ g. if is_of o g then change g else g) gs

-- one more gives it
abbrev pub given_once_more : Gifts → Object → Gifts
given_once_more = changed (λ g. record g { givers = g.givers + 1 })

-- one less gives it
abbrev pub given_once_less : Gifts → Object → Gifts
given_once_less = changed (λ g. record g { givers = g.givers - 1 })

-- A call of it was made: it is held now, or it is not. Its name does not fall any more: it is put where nothing loses
-- its link, and what is not held loses its link with nothing.
abbrev pub noted : Gifts → Object → Bool → Gifts
noted gs o held = changed (λ g. record g { held = held; loses_link = false }) gs o

-- it is told whether the name of the gift at a place loses its link
abbrev pub with_lost_link : Gifts → ℕ → Bool → Gifts
with_lost_link gs place loses_link =
    option_map_or (λ g. slice_set gs place (record g { loses_link = loses_link })) (slice_get gs place) gs

-- it is held or given
abbrev pub is_live : Gift → Bool
is_live g = g.held || is_given g

-- with one more at the end, where it is held or given
abbrev pub with_live : Gifts → Gift → Gifts
with_live gs g = gs ++ (if is_live g then g ∷ [] else [])

-- those that are held or given, with places for some objects
abbrev pub kept_for : Gifts → List Object → Gifts
kept_for gs keep = fold with_place (filter is_live gs) keep
