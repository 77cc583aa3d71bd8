-- Givers that move with lists of objects.
use Rattle.std.proofs.Common.{arith, ℕ, ◌≡◌, ◌+◌, ◌-◌, List, [], ◌∷◌, length, Bool, true, false, cond, Contains, refl, ap, sym, ◌∙◌}
use Rattle.std.specs.Prelude.{filter, fold}
use Rattle.std.specs.Ordering.{eq_by_cmp}
use Rattle.kern_model.specs.declared.object.Object.{Object}
use Rattle.kern_model.specs.ObjectOrder.{object_cmp}
use Rattle.kern_model.proofs.MemberLemmas.{here, there}
use Rattle.kern_model.proofs.SetLemmas.{same_object}
use Rattle.given_objects.specs.Gifts.{Gifts, has_place, givers_of}
use Rattle.given_objects.specs.Changes.{given_once_more, given_once_less}
use Rattle.given_objects.proofs.ChangeLemmas.{of_itself}
use Rattle.given_objects.proofs.PlaceLemmas.{give_places, give_givers, withdraw_givers, give_others, withdraw_others}
use Rattle.net_rules.proofs.MoveLemmas.{one, length_kept}
use Rattle.net_gifts.specs.Giving.{times_in, HavePlaces}

times_first : (o x : Object) (xs : List Object) → times_in o (x ∷ xs) ≡ one (eq_by_cmp object_cmp o x) + times_in o xs
times_first o x xs = length_kept (eq_by_cmp object_cmp o x) x (filter (eq_by_cmp object_cmp o) xs)

-- another object
apart : (o x : Object) → eq_by_cmp object_cmp o x ≡ false → o ≡ x → ⊥
apart o x other same = let itself : eq_by_cmp object_cmp o x ≡ true = ap (eq_by_cmp object_cmp o) (sym same) ∙ of_itself o in cc (other, itself)

given_one : (gs : Gifts) (o x : Object) → has_place gs x ≡ true → givers_of (given_once_more gs x) o ≡ givers_of gs o + one (eq_by_cmp object_cmp o x)
given_one gs o x place = by (eq_by_cmp object_cmp o x) refl
  where
    by : (b : Bool) → eq_by_cmp object_cmp o x ≡ b → givers_of (given_once_more gs x) o ≡ givers_of gs o + one b
    by true is = ap (givers_of (given_once_more gs x)) (same_object o x is) ∙ give_givers gs x place ∙ ap (λ y. givers_of gs y + 1) (sym (same_object o x is))
    by false is = let stays : givers_of (given_once_more gs x) o ≡ givers_of gs o = give_others gs x o (apart o x is) in omega (arith, stays)

withdrawn_one : (gs : Gifts) (o x : Object) → givers_of (given_once_less gs x) o ≡ givers_of gs o - one (eq_by_cmp object_cmp o x)
withdrawn_one gs o x = by (eq_by_cmp object_cmp o x) refl
  where
    by : (b : Bool) → eq_by_cmp object_cmp o x ≡ b → givers_of (given_once_less gs x) o ≡ givers_of gs o - one b
    by true is = ap (givers_of (given_once_less gs x)) (same_object o x is) ∙ withdraw_givers gs x ∙ ap (λ y. givers_of gs y - 1) (sym (same_object o x is))
    by false is = let stays : givers_of (given_once_less gs x) o ≡ givers_of gs o = withdraw_others gs x o (apart o x is) in omega (arith, stays)

pub given_list : (gs : Gifts) (os : List Object) (o : Object) → HavePlaces gs os → givers_of (fold given_once_more gs os) o ≡ givers_of gs o + times_in o os
given_list gs [] o places = omega arith
given_list gs (x ∷ xs) o places =
    let rest : givers_of (fold given_once_more (given_once_more gs x) xs) o ≡ givers_of (given_once_more gs x) o + times_in o xs =
    given_list (given_once_more gs x) xs o (λ y member. give_places gs x y ∙ places y (there x xs y member)) in
    let first : givers_of (given_once_more gs x) o ≡ givers_of gs o + one (eq_by_cmp object_cmp o x) = given_one gs o x (places x (here x xs)) in
    let times : times_in o (x ∷ xs) ≡ one (eq_by_cmp object_cmp o x) + times_in o xs = times_first o x xs in
    omega (arith, rest, first, times)

pub withdrawn_list : (gs : Gifts) (os : List Object) (o : Object) → givers_of (fold given_once_less gs os) o ≡ givers_of gs o - times_in o os
withdrawn_list gs [] o = omega arith
withdrawn_list gs (x ∷ xs) o =
    let rest : givers_of (fold given_once_less (given_once_less gs x) xs) o ≡ givers_of (given_once_less gs x) o - times_in o xs = withdrawn_list (given_once_less gs x) xs o in
    let first : givers_of (given_once_less gs x) o ≡ givers_of gs o - one (eq_by_cmp object_cmp o x) = withdrawn_one gs o x in
    let times : times_in o (x ∷ xs) ≡ one (eq_by_cmp object_cmp o x) + times_in o xs = times_first o x xs in
    omega (arith, rest, first, times)
