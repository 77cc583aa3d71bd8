-- The first of a turn is the first call of its kind in the list of the calls.
use Rattle.std.proofs.Common.{ℕ, ◌≡◌, inl, inr, List, [], ◌∷◌, Contains, Option, Some, None, IfSome, IfNone, true, false, not, Bool, cond, refl, ap, sym, subst, ◌∙◌}
use Rattle.std.specs.List.{find}
use Rattle.std.specs.Option.{option_map}
use Rattle.std.specs.List.Sorted.{IsStrictlySortedBy}
use Rattle.std.specs.declared.cmp.Ordering.{Ordering}
use Rattle.std.specs.declared.cmp.Ordering.TheVariants.{Less}
use Rattle.kern_model.specs.declared.object.Mac.{Mac}
use Rattle.kern_model.specs.declared.object.Object.{Object}
use Rattle.kern_model.specs.declared.object.Call.{Call}
use Rattle.kern_model.specs.declared.object.Call.TheVariants.{Put, Take}
use Rattle.kern_model.specs.ObjectOrder.{Objects}
use Rattle.kern_model.specs.Kernel.{Devices}
use Rattle.kern_model.specs.Touched.{is_taken, is_put, is_call}
use Rattle.kern_model.specs.CallOrder.{call_cmp}
use Rattle.kern_model.proofs.MemberLemmas.{here, there, first_or_later, none_in_nil, member_of_all}
use Rattle.kern_model.proofs.LeadLemmas.{taken_call, carries, is_own, call_of_taken}
use Rattle.kern_calls.specs.Calls.{own_take, calls}
use Rattle.kern_calls.proofs.CallsLemmas.{are_the_calls}
use Rattle.graph_objects.specs.declared.turn.Turn.TheVariants.{Takes, Puts}
use Rattle.graph_objects.specs.Turns.{IsFirst, TellsTakes}

find_step : {X : Type 0} (p : X → Bool) (x : X) (xs : List X) (b : Bool) → p x ≡ b → find p (x ∷ xs) ≡ cond b (Some x) (find p xs)
find_step p x xs b is = ap (λ t. cond t (Some x) (find p xs)) is

-- in a sorted list the first that passes is that which passes and has none before it that does
pub find_first : {X : Type 0} (cmp : X → X → Ordering) (p : X → Bool) (c : X) (xs : List X) → IsStrictlySortedBy cmp xs → Contains xs c → p c ≡ true → ((x : X) → Contains xs x → p x ≡ true → cmp x c ≡ Less → ⊥) → find p xs ≡ Some c
unfolding IsStrictlySortedBy
find_first cmp p c [] sorted member passes first = absurd (none_in_nil c member)
find_first cmp p c (x ∷ xs) sorted member passes first = by (λ later. find_first cmp p c xs sorted.1 later passes (λ y m. first y (there x xs y m))) (p x) refl
  where
    by : (Contains xs c → find p xs ≡ Some c) → (b : Bool) → p x ≡ b → find p (x ∷ xs) ≡ Some c
    by rest true is = find_step p x xs true is ∙ (elim (first_or_later x xs c member) as (λ _. Some x ≡ Some c) [
      | inl same ↦ ap Some same
      | inr later ↦ absurd (first x (here x xs) is (member_of_all (λ y. cmp x y ≡ Less) xs c sorted.0 later))
    ])
    by rest false is = find_step p x xs false is ∙ (elim (first_or_later x xs c member) as (λ _. find p xs ≡ Some c) [
      | inl same ↦ let off : p c ≡ false = ap p (sym same) ∙ is in absurd (cc (passes, off))
      | inr later ↦ rest later
    ])

pub find_none : {X : Type 0} (p : X → Bool) (xs : List X) → ((x : X) → Contains xs x → p x ≡ true → ⊥) → find p xs ≡ None
find_none p [] none = refl
find_none p (x ∷ xs) none = by (find_none p xs (λ y m. none y (there x xs y m))) (p x) refl
  where
    by : find p xs ≡ None → (b : Bool) → p x ≡ b → find p (x ∷ xs) ≡ None
    by rest true is = absurd (none x (here x xs) is)
    by rest false is = find_step p x xs false is ∙ rest

-- a test that takes alone pass
module _ (p : Call → Bool) (takes : (o : Object) (mtu : ℕ) (mac : Mac) → p (Take o mtu mac) ≡ true) (puts : (o : Object) → p (Put o) ≡ false) (devices : Devices) (held wanted : Objects) where
  take_due : (x : Call) → is_call devices held wanted x ≡ true → p x ≡ true → (o : Object) × (is_taken held wanted o ≡ true) × (own_take devices o ≡ x)
  take_due (Take o mtu mac) due passes = (o, taken_call devices held wanted o mtu mac due, is_own devices held wanted o mtu mac (carries devices held wanted o mtu mac due))
  take_due (Put o) due passes = let off = puts o in absurd (cc (passes, off))

  pub first_take_found : (o : Object) → IsFirst Takes held wanted o → find p (calls devices held wanted) ≡ Some (own_take devices o)
  first_take_found o is =
      let are = are_the_calls devices held wanted in
      find_first (call_cmp held wanted) p (own_take devices o) (calls devices held wanted) are.sorted
      (are.complete (own_take devices o) (call_of_taken devices held wanted o is.due))
      (takes o _ _)
      (λ x member passes less.
      let due = take_due x (are.sound x member) passes in
      is.first devices due.0 due.1 (subst (λ c. call_cmp held wanted c (own_take devices o) ≡ Less) (sym due.2) less))

  pub no_take_found : ((o : Object) → is_taken held wanted o ≡ true → ⊥) → find p (calls devices held wanted) ≡ None
  no_take_found none =
      let are = are_the_calls devices held wanted in
      find_none p (calls devices held wanted) (λ x member passes. let due = take_due x (are.sound x member) passes in none due.0 due.1)

-- a test that puts alone pass
module _ (p : Call → Bool) (takes : (o : Object) (mtu : ℕ) (mac : Mac) → p (Take o mtu mac) ≡ false) (puts : (o : Object) → p (Put o) ≡ true) (devices : Devices) (held wanted : Objects) where
  put_due : (x : Call) → is_call devices held wanted x ≡ true → p x ≡ true → (o : Object) × (is_put held wanted o ≡ true) × (Put o ≡ x)
  put_due (Put o) due passes = (o, due, refl)
  put_due (Take o mtu mac) due passes = let off = takes o mtu mac in absurd (cc (passes, off))

  pub first_put_found : (o : Object) → IsFirst Puts held wanted o → find p (calls devices held wanted) ≡ Some (Put o)
  first_put_found o is =
      let are = are_the_calls devices held wanted in
      find_first (call_cmp held wanted) p (Put o) (calls devices held wanted) are.sorted (are.complete (Put o) is.due) (puts o)
      (λ x member passes less.
      let due = put_due x (are.sound x member) passes in
      is.first devices due.0 due.1 (subst (λ c. call_cmp held wanted c (Put o) ≡ Less) (sym due.2) less))

  pub no_put_found : ((o : Object) → is_put held wanted o ≡ true → ⊥) → find p (calls devices held wanted) ≡ None
  no_put_found none =
      let are = are_the_calls devices held wanted in
      find_none p (calls devices held wanted) (λ x member passes. let due = put_due x (are.sound x member) passes in none due.0 due.1)

-- what is found first is that of the first call of its kind, and nothing where there is none
pub take_found : (test : Call → Bool) → TellsTakes test → (devices : Devices) (held wanted : Objects) (found : Option Object) → IfSome found (IsFirst Takes held wanted)
    → IfNone found ((o : Object) → is_taken held wanted o ≡ true → ⊥) → find test (calls devices held wanted) ≡ option_map (own_take devices) found
take_found test tells devices held wanted (Some o) some none = first_take_found test tells.takes tells.puts devices held wanted o some
take_found test tells devices held wanted None some none = no_take_found test tells.takes tells.puts devices held wanted none

pub put_found : (test : Call → Bool) → TellsTakes test → (devices : Devices) (held wanted : Objects) (found : Option Object) → IfSome found (IsFirst Puts held wanted)
    → IfNone found ((o : Object) → is_put held wanted o ≡ true → ⊥) → find (λ call. not (test call)) (calls devices held wanted) ≡ option_map Put found
put_found test tells devices held wanted (Some o) some none = first_put_found (λ call. not (test call)) (λ x mtu mac. ap not (tells.takes x mtu mac)) (λ x. ap not (tells.puts x)) devices held wanted o some
put_found test tells devices held wanted None some none = no_put_found (λ call. not (test call)) (λ x mtu mac. ap not (tells.takes x mtu mac)) (λ x. ap not (tells.puts x)) devices held wanted none
