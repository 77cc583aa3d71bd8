-- The listed calls are the calls.
use Rattle.std.proofs.Common.{◌≡◌, List, map, true, Contains, subst}
use Rattle.std.specs.FinSet as set
use Rattle.std.proofs.lemmas.List.Elements.{Contains-append_left, Contains-append_right}
use Rattle.plane_words.proofs.OrderLemmas.{one_list}
use Rattle.plane_words.proofs.OrderedLemmas.{ordered_lists}
use Rattle.kern_model.specs.declared.object.Call.{Call}
use Rattle.kern_model.specs.declared.object.Call.TheVariants.{Put, Take}
use Rattle.kern_model.specs.ObjectOrder.{Objects}
use Rattle.kern_model.specs.Kernel.{Devices}
use Rattle.kern_model.specs.Touched.{is_call}
use Rattle.kern_model.specs.CallOrder.{AreCalls}
use Rattle.kern_model.proofs.OrderLemmas.{calls_total, calls_apart}
use Rattle.kern_model.proofs.MemberLemmas.{map_member}
use Rattle.kern_model.proofs.SetLemmas.{item_of_set, none_in_empty}
use Rattle.kern_model.proofs.TouchLemmas.{taken_held, put_wanted}
use Rattle.kern_model.proofs.LeadLemmas.{taken_call, carries, is_own}
use Rattle.kern_calls.specs.Calls.{own_take, candidates, calls}
use Rattle.kern_calls.proofs.FilterLemmas.{from_filter, in_filter}

module _ (devices : Devices) (held wanted : Objects) where
  -- each call is a candidate
  is_candidate : (c : Call) → is_call devices held wanted c ≡ true → Contains (candidates devices held wanted) c
  is_candidate (Put o) h =
      Contains-append_right (map (own_take devices) (set.items held)) (map Put (set.items wanted)) (Put o)
      (map_member Put (set.items wanted) o (item_of_set wanted o (put_wanted held wanted o h)))
  is_candidate (Take o mtu mac) h =
      let own = is_own devices held wanted o mtu mac (carries devices held wanted o mtu mac h) in
      let had = taken_held held wanted o (taken_call devices held wanted o mtu mac h) in
      Contains-append_left (map (own_take devices) (set.items held)) (map Put (set.items wanted)) (Take o mtu mac)
      (subst (Contains (map (own_take devices) (set.items held))) own (map_member (own_take devices) (set.items held) o (item_of_set held o had)))

  pub are_the_calls : AreCalls devices held wanted (calls devices held wanted)
  are_the_calls =
      let due = is_call devices held wanted in
      let of = candidates devices held wanted in
      ordered_lists (calls_total held wanted) (calls_apart held wanted) due _
      (λ c h. from_filter due of c h)
      (λ c h. in_filter due of c (is_candidate c h) h)

  pub no_other_calls : (xs : List Call) → AreCalls devices held wanted xs → xs ≡ calls devices held wanted
  no_other_calls xs are = one_list (calls_total held wanted) (is_call devices held wanted) xs (calls devices held wanted) (calls_apart held wanted) are are_the_calls

-- nothing is taken from nothing
call_alike : (devices others : Devices) (wanted : Objects) (c : Call) → is_call devices set.empty wanted c ≡ true → is_call others set.empty wanted c ≡ true
call_alike devices others wanted (Put o) h = h
call_alike devices others wanted (Take o mtu mac) h = absurd (none_in_empty o (taken_held set.empty wanted o (taken_call devices set.empty wanted o mtu mac h)))

pub alike_from_nothing : (devices others : Devices) (wanted : Objects) (xs : List Call) → AreCalls devices set.empty wanted xs → AreCalls others set.empty wanted xs
alike_from_nothing devices others wanted xs are = record {
  sorted = are.sorted;
  sound = λ c member. call_alike devices others wanted c (are.sound c member);
  complete = λ c due. are.complete c (call_alike others devices wanted c due);
}
