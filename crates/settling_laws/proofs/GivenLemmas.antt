-- What is given is the part of the wants that interfaces give.
use Rattle.std.proofs.Common.{arith, ◌≡◌, ◌<◌, Contains, true, false, Option, Some, None, refl, ap, sym, subst, ◌∙◌}
use Rattle.std.specs.Prelude.{is_some}
use Rattle.std.specs.FinSet as set
use Rattle.std.specs.Option.{option_map_or}
use Rattle.std.specs.Ordering.{eq_by_cmp}
use Rattle.std.proofs.lemmas.Bool.Decides.{nat_tests}
use Rattle.kern_model.specs.declared.object.Object.{Object}
use Rattle.kern_model.specs.ObjectOrder.{object_cmp, Has}
use Rattle.kern_model.proofs.SetLemmas.{same_object, has_retained, of_retained, same_members}
use Rattle.kern_model.proofs.TestLemmas.{not_true, false_of_not}
use Rattle.kern_calls.specs.Lower.{is_lower}
use Rattle.kern_calls.specs.Upper.{is_upper, upper_part}
use Rattle.net_rules.specs.Facts.{Facts}
use Rattle.net_rules.specs.Rows.{interfaces_of}
use Rattle.net_rules.specs.Want.{given, want}
use Rattle.net_rules.proofs.ListLemmas.{IsAmong, in_join, from_join}
use Rattle.graph_laws.proofs.LowerLemmas.{given_wanted}
use Rattle.given_objects.specs.declared.gift.Gift.{Gift}
use Rattle.given_objects.specs.Gifts.{Gifts, gift_of, has_place, givers_of, is_given, given_of, AreGifts}
use Rattle.given_objects.proofs.ChangeLemmas.{of_itself, of_gift, has_gift, one_gift, found_gift, some_givers}
use Rattle.graph_settle.proofs.MadeLemmas.{place_of_gift}
use Rattle.net_gifts.specs.Giving.{times_in}
use Rattle.settling_laws.specs.Given.{all_given, AreGiven}
use Rattle.settling_laws.proofs.TimesLemmas.{some_counted, counted_some}

-- an object is as often among others as it is given, so it is given where it is among them
pub among_given : (facts : Facts) (o : Object) → 0 < times_in o (all_given facts) → Contains (all_given facts) o
among_given facts o more =
    let found = counted_some (eq_by_cmp object_cmp o) (all_given facts) more in
    subst (Contains (all_given facts)) (sym (same_object o found.passing found.passes)) found.member

pub given_among : (facts : Facts) (o : Object) → Contains (all_given facts) o → 0 < times_in o (all_given facts)
given_among facts o h = some_counted (eq_by_cmp object_cmp o) (all_given facts) o h (of_itself o)

-- a gift of distinct ones has the givers of its object
module _ (gs : Gifts) (are : AreGifts gs) (g : Gift) (member : Contains gs g) where
  givers_at : (found : Option Gift) → gift_of gs g.object ≡ found → givers_of gs g.object ≡ g.givers
  givers_at None is =
      let there : has_place gs g.object ≡ true = place_of_gift gs g g.object member refl in
      let off : has_place gs g.object ≡ false = ap is_some is in
      cc (there, off)
  givers_at (Some other) is =
      let its = found_gift gs g.object other is in
      ap (λ (o : Option Gift). option_map_or (λ (x : Gift). x.givers) o 0) is
      ∙ ap (λ (x : Gift). x.givers) (one_gift gs are.once other g its.member member its.is)

  pub its_givers : givers_of gs g.object ≡ g.givers
  its_givers = givers_at (gift_of gs g.object) refl

module _ (facts : Facts) (gs : Gifts) (are : AreGifts gs) (given_by : AreGiven facts gs) where
  given_then : (o : Object) → Has (given_of gs) o → Has (upper_part (want facts)) o
  given_then o h =
      let from = has_gift is_given gs o h in
      let upper : is_upper o ≡ true = subst (λ x. is_upper x ≡ true) from.is (are.upper from.gift from.member) in
      let some : givers_of gs o ≡ from.gift.givers = ap (givers_of gs) (sym from.is) ∙ its_givers gs are from.gift from.member in
      let passes = from.passes in
      let more : 0 < times_in o (all_given facts) = subst (λ n. 0 < n) (sym some ∙ given_by o upper) (grind (arith, nat_tests, passes)) in
      let of : IsAmong (given facts) (interfaces_of facts.conf) o = from_join (given facts) (interfaces_of facts.conf) o (among_given facts o more) in
      let off : is_lower o ≡ false = false_of_not (is_lower o) (not_true (is_lower o) upper) in
      has_retained (want facts) is_upper o ((given_wanted facts o off).1 (of.source, of.member, of.among)) upper

  then_given : (o : Object) → Has (upper_part (want facts)) o → Has (given_of gs) o
  then_given o h =
      let parts = of_retained (want facts) is_upper o h in
      let off : is_lower o ≡ false = false_of_not (is_lower o) (not_true (is_lower o) parts.1) in
      let is = (given_wanted facts o off).0 parts.0 in
      let more : 0 < givers_of gs o = subst (λ n. 0 < n) (sym (given_by o parts.1)) (given_among facts o (in_join (given facts) (interfaces_of facts.conf) is.0 o is.1 is.2)) in
      let found = some_givers gs o more in
      let some : 0 < found.0.givers = subst (λ n. 0 < n) (sym found.2) more in
      let passes : is_given found.0 ≡ true = grind (arith, nat_tests, some) in
      subst (Has (given_of gs)) found.1.is (of_gift is_given gs found.0 found.1.member passes)

  pub given_part : given_of gs ≡ upper_part (want facts)
  given_part = same_members (given_of gs) (upper_part (want facts)) given_then then_given
