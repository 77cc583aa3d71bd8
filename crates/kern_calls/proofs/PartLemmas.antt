-- The parts of the calls.
use Rattle.std.proofs.Common.{arith, ℕ, ◌≡◌, ◌≤◌, ◌<◌, ◌++◌, Bool, true, false, filter, refl, ap, ◌∙◌}
use Rattle.std.specs.Prelude.{◌&&◌, not, slice_get}
use Rattle.std.specs.List.{find}
use Rattle.std.specs.Option.{option_or}
use Rattle.std.proofs.lemmas.List.Kept.{IsStrictlySortedBy-filter}
use Rattle.kern_model.specs.declared.object.Mac.{Mac}
use Rattle.kern_model.specs.declared.object.Object.{Object}
use Rattle.kern_model.specs.declared.object.Object.TheVariants as object
use Rattle.kern_model.specs.declared.object.Call.{Call}
use Rattle.kern_model.specs.declared.object.Call.TheVariants.{Put, Take}
use Rattle.kern_model.specs.ObjectOrder.{Objects}
use Rattle.kern_model.specs.Kernel.{Devices}
use Rattle.kern_model.specs.CallOrder.{rank, call_cmp}
use Rattle.kern_model.proofs.OrderLemmas.{rank_rises}
use Rattle.kern_calls.specs.Calls.{calls}
use Rattle.kern_calls.specs.Lower.{is_lower, lower_part, is_lower_call}
use Rattle.kern_calls.proofs.CallsLemmas.{are_the_calls, no_other_calls}
use Rattle.kern_calls.proofs.LowerLemmas.{lower_calls}
use Rattle.kern_calls.specs.Upper.{is_upper, is_upper_take, is_upper_put}
use Rattle.kern_calls.proofs.SplitLemmas.{fronted, kept_twice, first_of_two, first_kept}

-- all calls but the takes of addresses and routes, and of any calls those that put no address and no route
abbrev is_behind : Call → Bool
is_behind c = not (is_upper_take c)

abbrev is_before_puts : Call → Bool
is_before_puts c = not (is_upper_put c)

-- ranks of the parts
take_rank : (c : Call) → is_upper_take c ≡ true → rank c < 2
take_rank (Take (object.Address dev cidr) mtu mac) h = omega arith
take_rank (Take (object.Route r) mtu mac) h = omega arith
take_rank c h = cc h

behind_rank : (c : Call) → is_upper_take c ≡ false → 2 ≤ rank c
behind_rank (Take (object.Address dev cidr) mtu mac) h = cc h
behind_rank (Take (object.Route r) mtu mac) h = cc h
behind_rank c h = omega arith

put_rank : (c : Call) → is_upper_put c ≡ true → 14 ≤ rank c
put_rank (Put (object.Address dev cidr)) h = omega arith
put_rank (Put (object.Route r)) h = omega arith
put_rank c h = cc h

before_rank : (c : Call) → is_upper_put c ≡ false → rank c < 14
before_rank (Put (object.Address dev cidr)) h = cc h
before_rank (Put (object.Route r)) h = cc h
before_rank c h = omega arith

false_of_negated : (b : Bool) → not b ≡ true → b ≡ false
false_of_negated true h = cc h
false_of_negated false h = refl

true_of_negated : (b : Bool) → not b ≡ false → b ≡ true
true_of_negated true h = refl
true_of_negated false h = cc h

twice_negated : (b : Bool) → b ≡ not (not b)
twice_negated true = refl
twice_negated false = refl

-- behind those takes are the calls of other objects and the puts
put_is_behind : (c : Call) → is_upper_put c ≡ (is_behind c && is_upper_put c)
put_is_behind (Put o) = refl
put_is_behind (Take o mtu mac) = by (not (is_upper o))
  where
    by : (b : Bool) → false ≡ (b && false)
    by true = refl
    by false = refl

lower_is_between : (c : Call) → is_lower_call c ≡ (is_behind c && is_before_puts c)
lower_is_between (Put o) = twice_negated (is_lower o)
lower_is_between (Take o mtu mac) = by (is_lower o)
  where
    by : (b : Bool) → b ≡ (not (not b) && true)
    by true = refl
    by false = refl

module _ (devices : Devices) (held wanted : Objects) where
  pub in_parts : calls devices held wanted ≡ filter is_upper_take (calls devices held wanted) ++ (calls devices (lower_part held) (lower_part wanted) ++ filter is_upper_put (calls devices held wanted))
  in_parts =
      let all = calls devices held wanted in
      let are = are_the_calls devices held wanted in
      let cmp = call_cmp held wanted in
      let rest = filter is_behind all in
      let front : all ≡ filter is_upper_take all ++ rest = fronted cmp is_upper_take is_behind (λ c. refl)
      (λ a b p q less. let above = rank_rises held wanted a b less in let low = behind_rank a p in let high = take_rank b q in absurd (omega arith)) all are.sorted in
      let back : rest ≡ filter is_before_puts rest ++ filter is_upper_put rest = fronted cmp is_before_puts is_upper_put (λ c. twice_negated (is_upper_put c))
      (λ a b p q less. let above = rank_rises held wanted a b less in let low = put_rank a (true_of_negated (is_upper_put a) p) in let high = before_rank b (false_of_negated (is_upper_put b) q) in absurd (omega arith)) rest
      (IsStrictlySortedBy-filter cmp is_behind all are.sorted) in
      let between = kept_twice is_behind is_before_puts is_lower_call lower_is_between all ∙ no_other_calls devices (lower_part held) (lower_part wanted) (filter is_lower_call all) (lower_calls held wanted devices all are) in
      let puts = kept_twice is_behind is_upper_put is_upper_put put_is_behind all in
      front ∙ ap (λ xs. filter is_upper_take all ++ xs) (back ∙ ap (λ xs. xs ++ filter is_upper_put rest) between ∙ ap (λ xs. calls devices (lower_part held) (lower_part wanted) ++ xs) puts)

  pub first_in_parts : slice_get (calls devices held wanted) 0
      ≡ option_or (find is_upper_take (calls devices held wanted)) (option_or (slice_get (calls devices (lower_part held) (lower_part wanted)) 0) (find is_upper_put (calls devices held wanted)))
  first_in_parts =
      let all = calls devices held wanted in
      let lower = calls devices (lower_part held) (lower_part wanted) in
      ap (λ xs. slice_get xs 0) in_parts
      ∙ first_of_two (filter is_upper_take all) (lower ++ filter is_upper_put all)
      ∙ ap (λ o. option_or o (slice_get (lower ++ filter is_upper_put all) 0)) (first_kept is_upper_take all)
      ∙ ap (λ o. option_or (find is_upper_take all) o) (first_of_two lower (filter is_upper_put all) ∙ ap (λ o. option_or (slice_get lower 0) o) (first_kept is_upper_put all))

-- takes come before puts
module _ (test : Call → Bool) (takes : (o : Object) (mtu : ℕ) (mac : Mac) → test (Take o mtu mac) ≡ true) (puts : (o : Object) → test (Put o) ≡ false) where
  take_is_low : (c : Call) → test c ≡ true → rank c < 8
  take_is_low (Take o mtu mac) h = omega arith
  take_is_low (Put o) h = let off = puts o in cc (h, off)

  put_is_high : (c : Call) → test c ≡ false → 8 ≤ rank c
  put_is_high (Take o mtu mac) h = let on = takes o mtu mac in cc (h, on)
  put_is_high (Put o) h = omega arith

  module _ (devices : Devices) (held wanted : Objects) where
    pub takes_then_puts : calls devices held wanted ≡ filter test (calls devices held wanted) ++ filter (λ c. not (test c)) (calls devices held wanted)
    takes_then_puts =
        let are = are_the_calls devices held wanted in
        fronted (call_cmp held wanted) test (λ c. not (test c)) (λ c. refl)
        (λ a b p q less. let above = rank_rises held wanted a b less in let high = put_is_high a p in let low = take_is_low b q in absurd (omega arith)) (calls devices held wanted) are.sorted

    pub first_take_or_put : slice_get (calls devices held wanted) 0 ≡ option_or (find test (calls devices held wanted)) (find (λ c. not (test c)) (calls devices held wanted))
    first_take_or_put =
        let all = calls devices held wanted in
        let others = λ (c : Call). not (test c) in
        ap (λ xs. slice_get xs 0) takes_then_puts
        ∙ first_of_two (filter test all) (filter others all)
        ∙ ap (λ o. option_or o (slice_get (filter others all) 0)) (first_kept test all)
        ∙ ap (λ o. option_or (find test all) o) (first_kept others all)
