-- The gift that is taken first and the one that is put first, as calls between what is held and what is wanted.
use Rattle.std.proofs.Common.{◌≡◌, inl, inr, List, [], ◌∷◌, Contains, Option, Some, None, IfSome, IfNone, true, false, Bool, cond, refl, ap, sym, subst, ◌∙◌}
use Rattle.std.specs.Prelude.{◌||◌, not}
use Rattle.std.specs.List.{find}
use Rattle.std.specs.Option.{option_map}
use Rattle.std.specs.List.Sorted.{IsStrictlySortedBy}
use Rattle.std.specs.declared.cmp.Ordering.{Ordering}
use Rattle.std.specs.declared.cmp.Ordering.TheVariants.{Less}
use Rattle.std.specs.FinSet as set
use Rattle.kern_model.specs.declared.object.Object.{Object}
use Rattle.kern_model.specs.declared.object.Call.{Call}
use Rattle.kern_model.specs.declared.object.Call.TheVariants.{Put, Take}
use Rattle.kern_model.specs.ObjectOrder.{Objects, Has}
use Rattle.kern_model.specs.Line.{IsPrintable}
use Rattle.kern_model.specs.Kernel.{Devices, own_mtu, own_mac, name_of}
use Rattle.kern_model.specs.Touched as touched
use Rattle.kern_model.specs.Touched.{is_taken, is_put, is_call}
use Rattle.kern_model.specs.CallOrder.{call_cmp}
use Rattle.kern_model.proofs.MemberLemmas.{here, there, first_or_later, none_in_nil, member_of_all}
use Rattle.kern_model.proofs.SetLemmas.{has_retained, of_retained}
use Rattle.kern_model.proofs.TestLemmas.{both, of_both, either, of_left, of_right, not_true, of_not, true_or_not}
use Rattle.kern_model.proofs.TouchLemmas.{taken_held, put_wanted}
use Rattle.kern_model.proofs.LeadLemmas.{taken_call, carries, is_own, call_of_taken}
use Rattle.kern_calls.specs.Calls.{own_take, calls}
use Rattle.kern_calls.proofs.CallsLemmas.{are_the_calls}
use Rattle.kern_calls.specs.Upper.{is_upper, upper_part, is_upper_take, is_upper_put}
use Rattle.kern_calls.proofs.UpperLemmas.{upper_taken, upper_put}
use Rattle.given_objects.specs.declared.gift.Gift.{Gift}
use Rattle.given_objects.specs.Gifts.{Gifts, is_given, held_of, given_of, AreGifts}
use Rattle.given_objects.specs.First.{is_take_due, is_put_due, plain_take, IsFirstGift, NoneDue, KnowLostLinks}
use Rattle.given_objects.proofs.ChangeLemmas.{HasGift, of_gift, has_gift, one_gift}
use Rattle.given_objects.proofs.OrderLemmas.{no_mac, takes_in_order, puts_in_order}

find_step : {X : Type 0} (p : X → Bool) (x : X) (xs : List X) (b : Bool) → p x ≡ b → find p (x ∷ xs) ≡ cond b (Some x) (find p xs)
find_step p x xs b is = ap (λ t. cond t (Some x) (find p xs)) is

-- in a sorted list the first that passes is that which passes and has none before it that does
find_first : {X : Type 0} (cmp : X → X → Ordering) (p : X → Bool) (c : X) (xs : List X) → IsStrictlySortedBy cmp xs → Contains xs c → p c ≡ true → ((x : X) → Contains xs x → p x ≡ true → cmp x c ≡ Less → ⊥) → find p xs ≡ Some c
unfolding IsStrictlySortedBy
find_first cmp p c [] sorted member passes first = absurd (none_in_nil c member)
find_first cmp p c (x ∷ xs) sorted member passes first = by (λ later. find_first cmp p c xs sorted.1 later passes (λ y m. first y (there x xs y m))) (p x) refl
  where
    by : (Contains xs c → find p xs ≡ Some c) → (b : Bool) → p x ≡ b → find p (x ∷ xs) ≡ Some c
    by rest true is = find_step p x xs true is ∙ (elim (first_or_later x xs c member) as (λ _. Some x ≡ Some c) [
      | inl same ↦ ap Some same
      | inr later ↦ absurd (first x (here x xs) is (member_of_all (λ y. cmp x y ≡ Less) xs c sorted.0 later))
    ])
    by rest false is = find_step p x xs false is ∙ (elim (first_or_later x xs c member) as (λ _. find p xs ≡ Some c) [
      | inl same ↦ let off : p c ≡ false = ap p (sym same) ∙ is in absurd (cc (passes, off))
      | inr later ↦ rest later
    ])

find_none : {X : Type 0} (p : X → Bool) (xs : List X) → ((x : X) → Contains xs x → p x ≡ true → ⊥) → find p xs ≡ None
find_none p [] none = refl
find_none p (x ∷ xs) none = by (find_none p xs (λ y m. none y (there x xs y m))) (p x) refl
  where
    by : find p xs ≡ None → (b : Bool) → p x ≡ b → find p (x ∷ xs) ≡ None
    by rest true is = absurd (none x (here x xs) is)
    by rest false is = find_step p x xs false is ∙ rest

module _ (devices : Devices) (held wanted : Objects) (gs : Gifts) (are : AreGifts gs) (own_held : upper_part held ≡ held_of gs) (own_given : upper_part wanted ≡ given_of gs) (know : KnowLostLinks held wanted gs) where
  -- gifts are in both sides as they tell
  held_is : (g : Gift) → Contains gs g → g.held ≡ true → Has held g.object
  held_is g member h = (of_retained held is_upper g.object (subst (λ s. Has s g.object) (sym own_held) (of_gift (λ (g : Gift). g.held) gs g member h))).0

  wanted_is : (g : Gift) → Contains gs g → is_given g ≡ true → Has wanted g.object
  wanted_is g member h = (of_retained wanted is_upper g.object (subst (λ s. Has s g.object) (sym own_given) (of_gift is_given gs g member h))).0

  held_gift : (o : Object) → is_upper o ≡ true → Has held o → HasGift (λ (g : Gift). g.held) gs o
  held_gift o upper h = has_gift (λ (g : Gift). g.held) gs o (subst (λ s. Has s o) own_held (has_retained held is_upper o h upper))

  given_gift : (o : Object) → is_upper o ≡ true → Has wanted o → HasGift is_given gs o
  given_gift o upper h = has_gift is_given gs o (subst (λ s. Has s o) own_given (has_retained wanted is_upper o h upper))

  held_tells : (g : Gift) → Contains gs g → Has held g.object → g.held ≡ true
  held_tells g member h =
      let from = held_gift g.object (are.upper g member) h in
      subst (λ (x : Gift). x.held ≡ true) (one_gift gs are.once from.gift g from.member member from.is) from.passes

  given_tells : (g : Gift) → Contains gs g → Has wanted g.object → is_given g ≡ true
  given_tells g member h =
      let from = given_gift g.object (are.upper g member) h in
      subst (λ (x : Gift). is_given x ≡ true) (one_gift gs are.once from.gift g from.member member from.is) from.passes

  -- what is due is taken
  is_taken_gift : (g : Gift) → Contains gs g → is_take_due g ≡ true → is_taken held wanted g.object ≡ true
  is_taken_gift g member due =
      let parts = both g.held (not (is_given g) || g.loses_link) due in
      upper_taken held wanted g.object (are.upper g member) (held_is g member parts.0)
      ∙ (elim (true_or_not (is_given g)) as (λ _. (not (set.contains wanted g.object) || touched.loses_link held wanted (name_of g.object)) ≡ true) [
        | inl given ↦ of_right (not (set.contains wanted g.object)) (touched.loses_link held wanted (name_of g.object))
            (sym (know g member parts.0 given) ∙ (elim (either (not (is_given g)) g.loses_link parts.1) as (λ _. g.loses_link ≡ true) [ inl none ↦ absurd (not_true (is_given g) none given) | inr loses_link ↦ loses_link ]))
        | inr none ↦ of_left (not (set.contains wanted g.object)) (touched.loses_link held wanted (name_of g.object))
            (of_not (set.contains wanted g.object) (λ is. none (given_tells g member is)))
      ])

  -- and what is taken is due
  due_of_taken : (o : Object) → is_upper o ≡ true → is_taken held wanted o ≡ true → HasGift is_take_due gs o
  due_of_taken o upper taken =
      let had = taken_held held wanted o taken in
      let from = held_gift o upper had in
      let g = from.gift in
      record {
        gift = g;
        member = from.member;
        passes = of_both g.held (not (is_given g) || g.loses_link) from.passes
            (elim (true_or_not (is_given g)) as (λ _. (not (is_given g) || g.loses_link) ≡ true) [
              | inr none ↦ of_left (not (is_given g)) g.loses_link (of_not (is_given g) none)
              | inl given ↦ of_right (not (is_given g)) g.loses_link
                  (know g from.member from.passes given
                  ∙ (elim (either (not (set.contains wanted o)) (touched.loses_link held wanted (name_of o)) (sym (upper_taken held wanted o upper had) ∙ taken)) as (λ _. touched.loses_link held wanted (name_of g.object) ≡ true) [
                    | inl unwanted ↦ absurd (not_true (set.contains wanted o) unwanted (subst (Has wanted) from.is (wanted_is g from.member given)))
                    | inr loses_link ↦ subst (λ x. touched.loses_link held wanted (name_of x) ≡ true) (sym from.is) loses_link
                  ]))
            ]);
        is = from.is;
      }

  -- what is due is put
  is_put_gift : (g : Gift) → Contains gs g → is_put_due g ≡ true → is_put held wanted g.object ≡ true
  is_put_gift g member due =
      let parts = both (is_given g) (not g.held) due in
      upper_put held wanted g.object (are.upper g member) (wanted_is g member parts.0)
      ∙ of_left (not (set.contains held g.object)) (touched.loses_link held wanted (name_of g.object))
      (of_not (set.contains held g.object) (λ is. not_true g.held parts.1 (held_tells g member is)))

  -- and what is put is due, where nothing is to be taken
  due_of_put : NoneDue is_take_due gs → (o : Object) → is_upper o ≡ true → is_put held wanted o ≡ true → HasGift is_put_due gs o
  due_of_put none o upper puts =
      let is = put_wanted held wanted o puts in
      let from = given_gift o upper is in
      let g = from.gift in
      record {
        gift = g;
        member = from.member;
        passes = of_both (is_given g) (not g.held) from.passes (of_not g.held (λ had.
            none g from.member (of_both g.held (not (is_given g) || g.loses_link) had (of_right (not (is_given g)) g.loses_link
            (know g from.member had from.passes
            ∙ (elim (either (not (set.contains held o)) (touched.loses_link held wanted (name_of o)) (sym (upper_put held wanted o upper is) ∙ puts)) as (λ _. touched.loses_link held wanted (name_of g.object) ≡ true) [
              | inl unheld ↦ absurd (not_true (set.contains held o) unheld (subst (Has held) from.is (held_is g from.member had)))
              | inr loses_link ↦ subst (λ x. touched.loses_link held wanted (name_of x) ≡ true) (sym from.is) loses_link
            ]))))));
        is = from.is;
      }

  upper_of : (test : Gift → Bool) (o : Object) → HasGift test gs o → (is_upper o ≡ true) × IsPrintable o
  upper_of test o from = (subst (λ x. is_upper x ≡ true) from.is (are.upper from.gift from.member), subst IsPrintable from.is (are.fit from.gift from.member))

  -- the calls of the list that take addresses and routes
  taken_upper : (x : Call) → is_call devices held wanted x ≡ true → is_upper_take x ≡ true → (o : Object) × (is_upper o ≡ true) × (is_taken held wanted o ≡ true) × (own_take devices o ≡ x)
  taken_upper (Take o mtu mac) due passes = (o, passes, taken_call devices held wanted o mtu mac due, is_own devices held wanted o mtu mac (carries devices held wanted o mtu mac due))
  taken_upper (Put o) due passes = cc passes

  put_upper : (x : Call) → is_call devices held wanted x ≡ true → is_upper_put x ≡ true → (o : Object) × (is_upper o ≡ true) × (is_put held wanted o ≡ true) × (Put o ≡ x)
  put_upper (Put o) due passes = (o, passes, due, refl)
  put_upper (Take o mtu mac) due passes = cc passes

  first_take : (o : Object) → IsFirstGift is_take_due plain_take gs o → find is_upper_take (calls devices held wanted) ≡ Some (own_take devices o)
  first_take o is =
      let all = are_the_calls devices held wanted in
      let mine : HasGift is_take_due gs o = record { gift = is.gift; member = is.member; passes = is.due; is = is.is } in
      let form = upper_of is_take_due o mine in
      find_first (call_cmp held wanted) is_upper_take (own_take devices o) (calls devices held wanted) all.sorted
      (all.complete (own_take devices o) (call_of_taken devices held wanted o (subst (λ x. is_taken held wanted x ≡ true) is.is (is_taken_gift is.gift is.member is.due))))
      form.0
      (λ x member passes less.
      let due = taken_upper x (all.sound x member) passes in
      let from = due_of_taken due.0 due.1 due.2 in
      let its = upper_of is_take_due due.0 from in
      is.first from.gift from.member from.passes (subst (λ y. call_cmp set.empty set.empty (plain_take y) (plain_take o) ≡ Less) (sym from.is)
      (takes_in_order set.empty set.empty due.0 o its.0 form.0 its.1 form.1 (λ y. 0) (λ y. no_mac) no_mac
      ∙ sym (takes_in_order held wanted due.0 o its.0 form.0 its.1 form.1 (λ y. own_mtu devices (name_of y)) (λ y. own_mac devices (name_of y)) no_mac)
      ∙ subst (λ c. call_cmp held wanted c (own_take devices o) ≡ Less) (sym due.3) less)))

  pub take_found : (found : Option Object) → IfSome found (IsFirstGift is_take_due plain_take gs) → IfNone found (NoneDue is_take_due gs) → find is_upper_take (calls devices held wanted) ≡ option_map (own_take devices) found
  take_found (Some o) some none = first_take o some
  take_found None some none =
      let all = are_the_calls devices held wanted in
      find_none is_upper_take (calls devices held wanted) (λ x member passes.
      let due = taken_upper x (all.sound x member) passes in
      let from = due_of_taken due.0 due.1 due.2 in
      none from.gift from.member from.passes)

  first_put : NoneDue is_take_due gs → (o : Object) → IsFirstGift is_put_due Put gs o → find is_upper_put (calls devices held wanted) ≡ Some (Put o)
  first_put taken o is =
      let all = are_the_calls devices held wanted in
      let mine : HasGift is_put_due gs o = record { gift = is.gift; member = is.member; passes = is.due; is = is.is } in
      let form = upper_of is_put_due o mine in
      find_first (call_cmp held wanted) is_upper_put (Put o) (calls devices held wanted) all.sorted
      (all.complete (Put o) (subst (λ x. is_put held wanted x ≡ true) is.is (is_put_gift is.gift is.member is.due)))
      form.0
      (λ x member passes less.
      let due = put_upper x (all.sound x member) passes in
      let from = due_of_put taken due.0 due.1 due.2 in
      let its = upper_of is_put_due due.0 from in
      is.first from.gift from.member from.passes (subst (λ y. call_cmp set.empty set.empty (Put y) (Put o) ≡ Less) (sym from.is)
      (puts_in_order set.empty set.empty due.0 o its.0 form.0 its.1 form.1
      ∙ sym (puts_in_order held wanted due.0 o its.0 form.0 its.1 form.1)
      ∙ subst (λ c. call_cmp held wanted c (Put o) ≡ Less) (sym due.3) less)))

  pub put_found : NoneDue is_take_due gs → (found : Option Object) → IfSome found (IsFirstGift is_put_due Put gs) → IfNone found (NoneDue is_put_due gs) → find is_upper_put (calls devices held wanted) ≡ option_map Put found
  put_found taken (Some o) some none = first_put taken o some
  put_found taken None some none =
      let all = are_the_calls devices held wanted in
      find_none is_upper_put (calls devices held wanted) (λ x member passes.
      let due = put_upper x (all.sound x member) passes in
      let from = due_of_put taken due.0 due.1 due.2 in
      none from.gift from.member from.passes)
