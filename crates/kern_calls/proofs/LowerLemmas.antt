-- The calls between sets without their addresses and routes.
use Rattle.std.proofs.Common.{arith, ℕ, ◌≡◌, ◌-◌, inl, inr, List, [], ◌∷◌, Bool, true, false, cond, Contains, filter, refl, ap, subst, ◌∙◌}
use Rattle.std.specs.Ordering.{nat_cmp}
use Rattle.std.specs.declared.cmp.Ordering.{Ordering}
use Rattle.std.specs.declared.cmp.Ordering.TheVariants.{Less}
use Rattle.std.specs.List.Sorted.{IsStrictlySortedBy}
use Rattle.std.specs.FinSet as set
use Rattle.kern_model.specs.declared.object.Object.{Object}
use Rattle.kern_model.specs.declared.object.Object.TheVariants as object
use Rattle.kern_model.specs.declared.object.Call.{Call}
use Rattle.kern_model.specs.declared.object.Call.TheVariants.{Put, Take}
use Rattle.kern_model.specs.ObjectOrder.{Objects, Has}
use Rattle.kern_model.specs.Standing.{places_of, is_over}
use Rattle.kern_model.specs.Kernel.{Devices, replaces}
use Rattle.kern_model.specs.Touched.{loses_link, is_on_taken, is_touched, is_taken, is_put, is_call}
use Rattle.kern_model.specs.CallOrder.{rank, height_of, height_place, call_cmp, AreCalls}
use Rattle.kern_model.proofs.MemberLemmas.{here, there, first_or_later, all_members, member_of_all}
use Rattle.kern_model.proofs.SetLemmas.{has_retained, of_retained}
use Rattle.kern_model.proofs.TestLemmas.{true_or_not, from_any}
use Rattle.kern_model.proofs.GoneLemmas.{is_over_of_test, test_of_is_over, over_more}
use Rattle.kern_model.proofs.TouchLemmas.{loses_link_with, loses_link_of, on_taken_at, touched_held, touched_wanted, touched_on, touched_cases, replaced_by, taken_held, taken_touched, taken_not_replaced, taken_of, put_wanted, put_of}
use Rattle.kern_model.proofs.TouchLemmas.{put_touched}
use Rattle.kern_model.proofs.LeadLemmas.{taken_call, carries, is_own, call_of_taken}
use Rattle.kern_calls.specs.Lower.{is_lower, lower_part, is_lower_call}
use Rattle.kern_calls.proofs.FilterLemmas.{from_filter, in_filter}
use Rattle.kern_calls.proofs.AlikeLemmas.{left_alike, less_alike, resorted}
use Rattle.kern_calls.proofs.GoOnLemmas.{still_over, as_high, low_enough, is_replaced_of_all}

-- filtered lists
member_of_filter : {X : Type 0} (p : X → Bool) → (xs : List X) (x : X) → Contains (filter p xs) x → Contains xs x
member_of_filter p [] x h = h
member_of_filter {X} p (y ∷ ys) x h = at (λ g. member_of_filter p ys x g) (p y) h
  where
    at : (Contains (filter p ys) x → Contains ys x) → (b : Bool) → Contains (cond b (y ∷ filter p ys) (filter p ys)) x → Contains (y ∷ ys) x
    at rest true g = elim (first_or_later y (filter p ys) x g) as (λ _. Contains (y ∷ ys) x) [
      | inl same ↦ subst (Contains (y ∷ ys)) same (here y ys)
      | inr later ↦ there y ys x (rest later)
    ]
    at rest false g = there y ys x (rest g)

sorted_filter : {X : Type 0} (cmp : X → X → Ordering) (p : X → Bool) → (xs : List X) → IsStrictlySortedBy cmp xs → IsStrictlySortedBy cmp (filter p xs)
unfolding IsStrictlySortedBy
sorted_filter cmp p [] sorted = tt
sorted_filter cmp p (x ∷ xs) sorted =
    elim (p x) as (λ b. IsStrictlySortedBy cmp (cond b (x ∷ filter p xs) (filter p xs))) [
      | true ↦ (all_members (λ y. cmp x y ≡ Less) (filter p xs) (λ y member. member_of_all (λ z. cmp x z ≡ Less) xs y sorted.0 (member_of_filter p xs y member)), sorted_filter cmp p xs sorted.1)
      | false ↦ sorted_filter cmp p xs sorted.1
    ]

-- what takes the place of another is lower
replacer_is_lower : (by o : Object) → replaces by o ≡ true → is_lower by ≡ true
replacer_is_lower (object.Mtu n m) o h = refl
replacer_is_lower (object.Mac n m) o h = refl
replacer_is_lower by o h = cc h

in_part : (s : Objects) (o : Object) → Has s o → is_lower o ≡ true → Has (lower_part s) o
in_part s o h lower = has_retained s is_lower o h lower

of_part : (s : Objects) (o : Object) → Has (lower_part s) o → Has s o
of_part s o h = (of_retained s is_lower o h).0

over_in_part : (s : Objects) (base name : List ℕ) → is_over s base name ≡ true → is_over (lower_part s) base name ≡ true
over_in_part s base name h = test_of_is_over (lower_part s) base name (still_over s (lower_part s) base name (λ v kind g q. in_part s (object.Link v kind) g refl) (is_over_of_test s base name h))

over_of_part : (s : Objects) (base name : List ℕ) → is_over (lower_part s) base name ≡ true → is_over s base name ≡ true
over_of_part s base name h = over_more (lower_part s) s (of_part s) base name h

high_in_part : (s : Objects) (o : Object) → height_of s o ≡ height_of (lower_part s) o
high_in_part s (object.Link name kind) = as_high s (lower_part s) name (of_part s) (λ v other g q. in_part s (object.Link v other) g refl)
high_in_part s (object.Up name) = as_high s (lower_part s) name (of_part s) (λ v other g q. in_part s (object.Link v other) g refl)
high_in_part s o = refl

module _ (held wanted : Objects) where
  on_in_part : (o : Object) → is_on_taken held wanted o ≡ true → is_on_taken (lower_part held) (lower_part wanted) o ≡ true
  on_in_part o h =
      let found = from_any (loses_link held wanted) (places_of o) h in
      let f = loses_link_with held wanted found.passing found.passes in
      on_taken_at (lower_part held) (lower_part wanted) o found.passing found.member
      (loses_link_of (lower_part held) (lower_part wanted) found.passing f.base f.kind (in_part held (object.Link f.base f.kind) f.had refl) (λ is. f.unwanted (of_part wanted (object.Link f.base f.kind) is))
      (over_in_part held f.base found.passing f.over))

  on_of_part : (o : Object) → is_on_taken (lower_part held) (lower_part wanted) o ≡ true → is_on_taken held wanted o ≡ true
  on_of_part o h =
      let found = from_any (loses_link (lower_part held) (lower_part wanted)) (places_of o) h in
      let f = loses_link_with (lower_part held) (lower_part wanted) found.passing found.passes in
      on_taken_at held wanted o found.passing found.member
      (loses_link_of held wanted found.passing f.base f.kind (of_part held (object.Link f.base f.kind) f.had) (λ is. f.unwanted (in_part wanted (object.Link f.base f.kind) is refl)) (over_of_part held f.base found.passing f.over))

  taken_in_part : (o : Object) → is_lower o ≡ true → is_taken held wanted o ≡ true → is_taken (lower_part held) (lower_part wanted) o ≡ true
  taken_in_part o lower taken =
      let had = taken_held held wanted o taken in
      let h = in_part held o had lower in
      let touched : is_touched (lower_part held) (lower_part wanted) o ≡ true = elim (touched_cases held wanted o had (taken_touched held wanted o taken)) as (λ _. is_touched (lower_part held) (lower_part wanted) o ≡ true) [
        | inl unwanted ↦ touched_held (lower_part held) (lower_part wanted) o h (λ is. unwanted (of_part wanted o is))
        | inr on ↦ touched_on (lower_part held) (lower_part wanted) o (on_in_part o on)
      ] in
      taken_of (lower_part held) (lower_part wanted) o h touched (λ replaced.
      let by = replaced_by (lower_part held) (lower_part wanted) o replaced in
      taken_not_replaced held wanted o taken (is_replaced_of_all held wanted o (λ is. by.unwanted (in_part wanted o is lower)) (λ on. by.stays (on_in_part o on)) by.by (of_part wanted by.by by.is) by.place))

  taken_of_part : (o : Object) → is_taken (lower_part held) (lower_part wanted) o ≡ true → is_taken held wanted o ≡ true
  taken_of_part o taken =
      let h = taken_held (lower_part held) (lower_part wanted) o taken in
      let had = of_retained held is_lower o h in
      let touched : is_touched held wanted o ≡ true = elim (touched_cases (lower_part held) (lower_part wanted) o h (taken_touched (lower_part held) (lower_part wanted) o taken)) as (λ _. is_touched held wanted o ≡ true) [
        | inl unwanted ↦ touched_held held wanted o had.0 (λ is. unwanted (in_part wanted o is had.1))
        | inr on ↦ touched_on held wanted o (on_of_part o on)
      ] in
      taken_of held wanted o had.0 touched (λ replaced.
      let by = replaced_by held wanted o replaced in
      taken_not_replaced (lower_part held) (lower_part wanted) o taken
      (is_replaced_of_all (lower_part held) (lower_part wanted) o (λ is. by.unwanted (of_part wanted o is)) (λ on. by.stays (on_of_part o on)) by.by (in_part wanted by.by by.is (replacer_is_lower by.by o by.place)) by.place))

  put_in_part : (o : Object) → is_lower o ≡ true → is_put held wanted o ≡ true → is_put (lower_part held) (lower_part wanted) o ≡ true
  put_in_part o lower due =
      let is = in_part wanted o (put_wanted held wanted o due) lower in
      put_of (lower_part held) (lower_part wanted) o is (elim (true_or_not (set.contains held o)) as (λ _. is_touched (lower_part held) (lower_part wanted) o ≡ true) [
        | inr unheld ↦ touched_wanted (lower_part held) (lower_part wanted) o is (λ h. unheld (of_part held o h))
        | inl had ↦ elim (touched_cases held wanted o had (put_touched held wanted o due)) as (λ _. is_touched (lower_part held) (lower_part wanted) o ≡ true) [
          | inl unwanted ↦ absurd (unwanted (put_wanted held wanted o due))
          | inr on ↦ touched_on (lower_part held) (lower_part wanted) o (on_in_part o on)
        ]
      ])

  put_of_part : (o : Object) → is_put (lower_part held) (lower_part wanted) o ≡ true → is_put held wanted o ≡ true
  put_of_part o due =
      let is = of_retained wanted is_lower o (put_wanted (lower_part held) (lower_part wanted) o due) in
      put_of held wanted o is.0 (elim (true_or_not (set.contains held o)) as (λ _. is_touched held wanted o ≡ true) [
        | inr unheld ↦ touched_wanted held wanted o is.0 unheld
        | inl had ↦ elim (touched_cases (lower_part held) (lower_part wanted) o (in_part held o had is.1) (put_touched (lower_part held) (lower_part wanted) o due)) as (λ _. is_touched held wanted o ≡ true) [
          | inl unwanted ↦ absurd (unwanted (in_part wanted o is.0 is.1))
          | inr on ↦ touched_on held wanted o (on_of_part o on)
        ]
      ])

  parts_alike : (a b : Call) → rank a ≡ rank b → nat_cmp (height_place held wanted a) (height_place held wanted b) ≡ nat_cmp (height_place (lower_part held) (lower_part wanted) a) (height_place (lower_part held) (lower_part wanted) b)
  parts_alike (Put a) (Put b) level = ap (λ h. nat_cmp h (height_of wanted b)) (high_in_part wanted a) ∙ ap (nat_cmp (height_of (lower_part wanted) a)) (high_in_part wanted b)
  parts_alike (Put a) (Take b k x) level = absurd (omega arith)
  parts_alike (Take a k x) (Put b) level = absurd (omega arith)
  parts_alike (Take a k x) (Take b l y) level =
      let high_a = high_in_part held a in
      let high_b = high_in_part held b in
      let within_a = low_enough (lower_part held) a in
      let within_b = low_enough (lower_part held) b in
      left_alike (set.len held) (set.len (lower_part held)) (height_of held a) (height_of held b) (low_enough held a) (low_enough held b) (omega arith) (omega arith)
      ∙ ap (λ h. nat_cmp (set.len (lower_part held) - h) (set.len (lower_part held) - height_of held b)) high_a
      ∙ ap (λ h. nat_cmp (set.len (lower_part held) - height_of (lower_part held) a) (set.len (lower_part held) - h)) high_b

  module _ (devices : Devices) where
    call_in_part : (c : Call) → is_lower_call c ≡ true → is_call devices held wanted c ≡ true → is_call devices (lower_part held) (lower_part wanted) c ≡ true
    call_in_part (Put o) lower due = put_in_part o lower due
    call_in_part (Take o mtu mac) lower due =
        subst (λ c. is_call devices (lower_part held) (lower_part wanted) c ≡ true) (is_own devices held wanted o mtu mac (carries devices held wanted o mtu mac due))
        (call_of_taken devices (lower_part held) (lower_part wanted) o (taken_in_part o lower (taken_call devices held wanted o mtu mac due)))

    call_of_part : (c : Call) → is_call devices (lower_part held) (lower_part wanted) c ≡ true → is_call devices held wanted c ≡ true
    call_of_part (Put o) due = put_of_part o due
    call_of_part (Take o mtu mac) due =
        subst (λ c. is_call devices held wanted c ≡ true) (is_own devices (lower_part held) (lower_part wanted) o mtu mac (carries devices (lower_part held) (lower_part wanted) o mtu mac due))
        (call_of_taken devices held wanted o (taken_of_part o (taken_call devices (lower_part held) (lower_part wanted) o mtu mac due)))

    call_is_lower : (c : Call) → is_call devices (lower_part held) (lower_part wanted) c ≡ true → is_lower_call c ≡ true
    call_is_lower (Put o) due = (of_retained wanted is_lower o (put_wanted (lower_part held) (lower_part wanted) o due)).1
    call_is_lower (Take o mtu mac) due = (of_retained held is_lower o (taken_held (lower_part held) (lower_part wanted) o (taken_call devices (lower_part held) (lower_part wanted) o mtu mac due))).1

    pub lower_calls : (calls : List Call) → AreCalls devices held wanted calls → AreCalls devices (lower_part held) (lower_part wanted) (filter is_lower_call calls)
    lower_calls calls are = record {
      sorted = resorted (call_cmp held wanted) (call_cmp (lower_part held) (lower_part wanted)) (filter is_lower_call calls)
          (λ a b m n less. less_alike held wanted (lower_part held) (lower_part wanted) a b (parts_alike a b) less)
          (sorted_filter (call_cmp held wanted) is_lower_call calls are.sorted);
      sound = λ c member. call_in_part c (from_filter is_lower_call calls c member) (are.sound c (member_of_filter is_lower_call calls c member));
      complete = λ c due. in_filter is_lower_call calls c (are.complete c (call_of_part c due)) (call_is_lower c due);
    }
