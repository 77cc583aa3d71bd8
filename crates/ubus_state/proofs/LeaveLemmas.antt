-- Objects that leave one after another.
use Rattle.std.proofs.Common.{ℕ, ◌≡◌, ◌==◌, List, [], ◌∷◌, ◌++◌, Bool, true, false, not, Option, Some, None, refl, ap, ◌∙◌, arith}
use Rattle.std.specs.Prelude.{if◌then◌else◌, ◌&&◌, ◌||◌, filter}
use Rattle.std.specs.List.{find, list_any}
use Rattle.std.proofs.lemmas.List.Folds.{list_any-append}
use Rattle.std.proofs.lemmas.Bool.Decides.{nat_tests}
use Rattle.ubus_table.specs.Table.{Table, Call, has_number}
use Rattle.ubus_table.specs.declared.rows.Object.{Object}
use Rattle.ubus_table.specs.declared.rows.Subscription.{Subscription}
use Rattle.ubus_table.specs.declared.rows.Registration.{Registration}
use Rattle.ubus_table.specs.Objects.{without_object, untouched, is_on}
use Rattle.ubus_state.specs.Among.{is_among, objects_but, registrations_but}
use Rattle.ubus_state.specs.Leaving.{partly}
use Rattle.ubus_state.proofs.ListLemmas.{filter_every, filter_twice}

not_or : (a b : Bool) → not (a || (b || false)) ≡ (not a && not b)
not_or true b = refl
not_or false true = refl
not_or false false = refl

and_false : (a : Bool) → (a && false) ≡ false
and_false true = refl
and_false false = refl

-- one number more
among_more : (gone : List ℕ) (number n : ℕ) → not (is_among (gone ++ number ∷ []) n) ≡ (not (is_among gone n) && not (number == n))
among_more gone number n = ap not (list_any-append (λ (m : ℕ). m == n) gone (number ∷ [])) ∙ not_or (is_among gone n) (number == n)

pub same_number : (a b : ℕ) → (a == b) ≡ (b == a)
same_number a b = grind (arith, nat_tests)

object_more : (gone : List ℕ) (number : ℕ) (object : Object) → not (is_among (gone ++ number ∷ []) object.number) ≡ (not (is_among gone object.number) && not (object.number == number))
object_more gone number object = among_more gone number object.number ∙ ap (λ b. not (is_among gone object.number) && not b) (same_number number object.number)

registration_more : (gone : List ℕ) (number : ℕ) (r : Registration) → not (is_among (gone ++ number ∷ []) r.object) ≡ (not (is_among gone r.object) && not (r.object == number))
registration_more gone number r = among_more gone number r.object ∙ ap (λ b. not (is_among gone r.object) && not b) (same_number number r.object)

-- one more object leaves
pub one_more_left : (table : Table) (gone : List ℕ) (subscriptions : List Subscription) (calls : List Call) (number : ℕ)
    → without_object (partly table gone subscriptions calls) number
    ≡ partly table (gone ++ number ∷ []) (untouched number subscriptions) (filter (λ call. not (is_on number call)) calls)
one_more_left table gone subscriptions calls number =
    ap (λ (objects : List Object). record table {
      objects = objects;
      subscriptions = untouched number subscriptions;
      registrations = filter (λ (r : Registration). not (r.object == number)) (registrations_but gone table.registrations);
      calls = filter (λ call. not (is_on number call)) calls;
    }) (filter_twice (λ (object : Object). not (is_among gone object.number)) (λ object. not (has_number number object)) (λ (object : Object). not (is_among (gone ++ number ∷ []) object.number)) (object_more gone number) table.objects)
    ∙ ap (λ (registrations : List Registration). record table {
      objects = objects_but (gone ++ number ∷ []) table.objects;
      subscriptions = untouched number subscriptions;
      registrations = registrations;
      calls = filter (λ call. not (is_on number call)) calls;
    }) (filter_twice (λ (r : Registration). not (is_among gone r.object)) (λ (r : Registration). not (r.object == number)) (λ (r : Registration). not (is_among (gone ++ number ∷ []) r.object)) (registration_more gone number)
    table.registrations)

-- none has left
pub none_left : (table : Table) → partly table [] table.subscriptions table.calls ≡ table
none_left table =
    ap (λ (objects : List Object). record table { objects = objects; registrations = registrations_but [] table.registrations }) (filter_every (λ (object : Object). true) (λ object. refl) table.objects)
    ∙ ap (λ (registrations : List Registration). record table { registrations = registrations }) (filter_every (λ (r : Registration). true) (λ r. refl) table.registrations)

-- an object that has left is not found, and any other one is
step_found : (number : ℕ) (here there : Bool) (object : Object) (others : List Object) (found : Option Object)
    → (object.number == number) ≡ here → find (has_number number) others ≡ found
    → find (has_number number) (if there then object ∷ others else others) ≡ (if there && here then Some object else found)
step_found number here true object others found same rest = ap (λ b. if b then Some object else find (has_number number) others) same ∙ ap (λ z. if here then Some object else z) rest
step_found number here false object others found same rest = rest

pub found_left : (gone : List ℕ) (number : ℕ) (objects : List Object) → is_among gone number ≡ false → find (has_number number) (objects_but gone objects) ≡ find (has_number number) objects
found_left gone number [] there = refl
found_left gone number (object ∷ objects) there =
    step_found number (object.number == number) (not (is_among gone object.number)) object (objects_but gone objects) (find (has_number number) objects) refl (found_left gone number objects there)
    ∙ by_number (object.number == number) refl
  where
    by_number : (b : Bool) → (object.number == number) ≡ b → (if not (is_among gone object.number) && b then Some object else find (has_number number) objects) ≡ (if b then Some object else find (has_number number) objects)
    by_number true e = let same : object.number ≡ number = grind (arith, nat_tests) in ap (λ z. if not z && true then Some object else find (has_number number) objects) (ap (is_among gone) same ∙ there)
    by_number false e = ap (λ z. if z then Some object else find (has_number number) objects) (and_false (not (is_among gone object.number)))

pub none_found_left : (gone : List ℕ) (number : ℕ) (objects : List Object) → is_among gone number ≡ true → find (has_number number) (objects_but gone objects) ≡ None
none_found_left gone number [] there = refl
none_found_left gone number (object ∷ objects) there =
    step_found number (object.number == number) (not (is_among gone object.number)) object (objects_but gone objects) None refl (none_found_left gone number objects there)
    ∙ by_number (object.number == number) refl
  where
    by_number : (b : Bool) → (object.number == number) ≡ b → (if not (is_among gone object.number) && b then Some object else None) ≡ None
    by_number true e = let same : object.number ≡ number = grind (arith, nat_tests) in ap (λ z. if not z && true then Some object else None) (ap (is_among gone) same ∙ there)
    by_number false e = ap (λ z. if z then Some object else None) (and_false (not (is_among gone object.number)))

pub ruleset left_in = (found_left, none_found_left)
