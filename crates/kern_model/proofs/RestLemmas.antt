-- After a front of the calls from nothing, the others are those that lead on.
use Rattle.std.proofs.Common.{◌≡◌, inl, inr, List, [], ◌∷◌, ◌++◌, true, Contains}
use Rattle.std.specs.declared.cmp.Ordering.TheVariants.{Less}
use Rattle.std.specs.List.{AllByRecursion}
use Rattle.std.specs.List.Sorted.{IsStrictlySortedBy}
use Rattle.std.specs.Cmp.{tied_itself}
use Rattle.std.specs.FinSet as set
use Rattle.std.proofs.lemmas.List.Elements.{Contains-append_right, Contains-append_cases}
use Rattle.kern_model.specs.declared.object.Object.{Object}
use Rattle.kern_model.specs.declared.object.Call.{Call}
use Rattle.kern_model.specs.declared.object.Call.TheVariants.{Put, Take}
use Rattle.kern_model.specs.ObjectOrder.{Objects, Has}
use Rattle.kern_model.specs.Kernel.{Devices}
use Rattle.kern_model.specs.Allowed.{AreAllowed}
use Rattle.kern_model.specs.Touched.{loses_link, is_on_taken, is_taken, is_put, is_call}
use Rattle.kern_model.specs.Standing.{places_of}
use Rattle.kern_model.specs.CallOrder.{call_cmp, AreCalls, after_calls}
use Rattle.kern_model.proofs.OrderLemmas.{calls_total}
use Rattle.kern_model.proofs.MemberLemmas.{all_members, member_of_all, first_or_later, none_in_nil}
use Rattle.kern_model.proofs.SetLemmas.{none_in_empty}
use Rattle.kern_model.proofs.TestLemmas.{from_any}
use Rattle.kern_model.proofs.AllowedLemmas.{nothing_allowed}
use Rattle.kern_model.proofs.TouchLemmas.{loses_link_with, touched_wanted, put_wanted, put_of, put_touched, taken_held, taken_touched, touched_cases}
use Rattle.kern_model.proofs.LeadLemmas.{IsPut, PutsAreLeft, at_first, puts_are_left, after_puts, taken_call}

sorted_behind : (wanted : Objects) (front rest : List Call) → IsStrictlySortedBy (call_cmp set.empty wanted) (front ++ rest) → IsStrictlySortedBy (call_cmp set.empty wanted) rest
unfolding IsStrictlySortedBy
sorted_behind wanted [] rest sorted = sorted
sorted_behind wanted (c ∷ front) rest sorted = sorted_behind wanted front rest sorted.1

in_one_part : (wanted : Objects) (front rest : List Call) (c : Call) → IsStrictlySortedBy (call_cmp set.empty wanted) (front ++ rest) → Contains front c → Contains rest c → ⊥
unfolding IsStrictlySortedBy
in_one_part wanted [] rest c sorted first second = none_in_nil c first
in_one_part wanted (x ∷ front) rest c sorted first second =
    elim (first_or_later x front c first) as (λ _. ⊥) [
      | inl same ↦ cc (member_of_all (λ y. call_cmp set.empty wanted x y ≡ Less) (front ++ rest) c sorted.0 (Contains-append_right front rest c second), same, tied_itself (calls_total set.empty wanted) c)
      | inr later ↦ in_one_part wanted front rest c sorted.1 later second
    ]

-- the order of puts does not look at what is held
before_puts : (held wanted : Objects) (o : Object) (calls : List Call) → AllByRecursion IsPut calls → AllByRecursion (λ x. call_cmp set.empty wanted (Put o) x ≡ Less) calls → AllByRecursion (λ x. call_cmp held wanted (Put o) x ≡ Less) calls
before_puts held wanted o [] all less = tt
before_puts held wanted o (Put x ∷ calls) all less = (less.0, before_puts held wanted o calls all.1 less.1)
before_puts held wanted o (Take x mtu mac ∷ calls) all less = absurd all.0

sorted_puts : (held wanted : Objects) (calls : List Call) → AllByRecursion IsPut calls → IsStrictlySortedBy (call_cmp set.empty wanted) calls → IsStrictlySortedBy (call_cmp held wanted) calls
unfolding IsStrictlySortedBy
sorted_puts held wanted [] all sorted = tt
sorted_puts held wanted (Put o ∷ calls) all sorted = (before_puts held wanted o calls all.1 sorted.0, sorted_puts held wanted calls all.1 sorted.1)
sorted_puts held wanted (Take o mtu mac ∷ calls) all sorted = absurd all.0

-- what is held within the wanted set stands on no link that is taken
module _ (held wanted : Objects) (within : (o : Object) → Has held o → Has wanted o) where
  none_on_taken : (o : Object) → is_on_taken held wanted o ≡ true → ⊥
  none_on_taken o h =
      let found = from_any (loses_link held wanted) (places_of o) h in
      let f = loses_link_with held wanted found.passing found.passes in
      f.unwanted (within _ f.had)

  pub none_taken : (o : Object) → is_taken held wanted o ≡ true → ⊥
  none_taken o h =
      let had = taken_held held wanted o h in
      elim (touched_cases held wanted o had (taken_touched held wanted o h)) as (λ _. ⊥) [
        | inl unwanted ↦ unwanted (within o had)
        | inr on ↦ none_on_taken o on
      ]

  pub unheld_of_put : (o : Object) → is_put held wanted o ≡ true → Has held o → ⊥
  unheld_of_put o h had =
      elim (touched_cases held wanted o had (put_touched held wanted o h)) as (λ _. ⊥) [
        | inl unwanted ↦ unwanted (within o had)
        | inr on ↦ none_on_taken o on
      ]

pub from_nothing_put : (devices : Devices) (wanted : Objects) (c : Call) → is_call devices set.empty wanted c ≡ true → IsPut c
from_nothing_put devices wanted (Put o) h = tt
from_nothing_put devices wanted (Take o mtu mac) h = absurd (none_in_empty o (taken_held set.empty wanted o (taken_call devices set.empty wanted o mtu mac h)))

module _ (devices : Devices) (wanted : Objects) (made rest : List Call) (allowed : AreAllowed devices wanted) (are : AreCalls devices set.empty wanted (made ++ rest)) where
  all_put : AllByRecursion IsPut (made ++ rest)
  all_put = all_members IsPut (made ++ rest) (λ c member. from_nothing_put devices wanted c (are.sound c member))

  puts_left : PutsAreLeft devices set.empty wanted (after_calls set.empty made) rest
  puts_left = after_puts devices set.empty wanted allowed set.empty made rest all_put (puts_are_left devices set.empty wanted (nothing_allowed devices) set.empty (made ++ rest) all_put (at_first devices set.empty wanted (made ++ rest) are))

  wanted_not_left : (o : Object) → Has (after_calls set.empty made) o → Has wanted o × (Contains rest (Put o) → ⊥)
  wanted_not_left o h = elim (puts_left.kept o h) as (λ _. Has wanted o × (Contains rest (Put o) → ⊥)) [ inl stays ↦ stays | inr still ↦ absurd (none_in_empty o still.was) ]

  -- what the front made is wanted
  pub made_within : (o : Object) → Has (after_calls set.empty made) o → Has wanted o
  made_within o h = (wanted_not_left o h).0

  before : (c : Call) → Contains rest c → is_call devices set.empty wanted c ≡ true
  before c member = are.sound c (Contains-append_right made rest c member)

  due : (c : Call) → is_call devices set.empty wanted c ≡ true → Contains rest c → is_call devices (after_calls set.empty made) wanted c ≡ true
  due (Put o) h member = let is = put_wanted set.empty wanted o h in put_of (after_calls set.empty made) wanted o is (touched_wanted (after_calls set.empty made) wanted o is (λ had. (wanted_not_left o had).1 member))
  due (Take o mtu mac) h member = absurd (none_in_empty o (taken_held set.empty wanted o (taken_call devices set.empty wanted o mtu mac h)))

  left : (c : Call) → is_call devices (after_calls set.empty made) wanted c ≡ true → Contains rest c
  left (Take o mtu mac) h = absurd (none_taken (after_calls set.empty made) wanted made_within o (taken_call devices (after_calls set.empty made) wanted o mtu mac h))
  left (Put o) h =
      let is = put_wanted (after_calls set.empty made) wanted o h in
      elim (Contains-append_cases made rest (Put o) (are.complete (Put o) (put_of set.empty wanted o is (touched_wanted set.empty wanted o is (none_in_empty o))))) as (λ _. Contains rest (Put o)) [
        | inl early ↦ absurd (unheld_of_put (after_calls set.empty made) wanted made_within o h (puts_left.made o is (λ late. in_one_part wanted made rest (Put o) are.sorted early late)))
        | inr late ↦ late
      ]

  pub rest_leads_on : AreCalls devices (after_calls set.empty made) wanted rest
  rest_leads_on = record {
    sorted = sorted_puts (after_calls set.empty made) wanted rest (all_members IsPut rest (λ c member. from_nothing_put devices wanted c (before c member))) (sorted_behind wanted made rest are.sorted);
    sound = λ c member. due c (before c member) member;
    complete = left;
  }
