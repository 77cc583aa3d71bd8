-- The first of a turn is found by going over the gifts once.
use Rattle.std.proofs.Common.{add-one, ℕ, zero, suc, ◌≡◌, ◌⊎◌, ◌+◌, inl, inr, [], ◌∷◌, ◌++◌, length, take, slice_get, Contains, Option, Some, None, IfSome, IfNone, true, false, Bool, refl, ap, sym, subst}
use Rattle.std.specs.Prelude.{if◌then◌else◌}
use Rattle.std.specs.Ordering.{is_lt}
use Rattle.std.specs.declared.cmp.Ordering.{Ordering}
use Rattle.std.specs.declared.cmp.Ordering.TheVariants.{Less, Equal, Greater}
use Rattle.std.specs.Cmp.{tied_itself}
use Rattle.std.specs.FinSet as set
use Rattle.std.proofs.lemmas.List.Elements.{Contains-append_left, Contains-append_right}
use Rattle.kern_model.specs.declared.object.Object.{Object}
use Rattle.kern_model.specs.CallOrder.{call_cmp}
use Rattle.kern_model.proofs.OrderLemmas.{calls_total}
use Rattle.kern_model.proofs.MemberLemmas.{here, there, first_or_later, none_in_nil}
use Rattle.kern_calls.specs.Upper.{is_upper}
use Rattle.given_objects.specs.declared.gift.Gift.{Gift}
use Rattle.given_objects.specs.declared.first.Turn.{Turn}
use Rattle.given_objects.specs.Gifts.{Gifts, AreGifts}
use Rattle.given_objects.specs.First.{IsFirstGift, NoneDue}
use Rattle.given_objects.specs.Turns.{is_due, call_of, nearer, sooner}

-- the object of the first gift that a turn calls for, or none where it calls for none
pub record Finds (turn : Turn) (gs : Gifts) (found : Option Object) : Type 0 where
  pub some : IfSome found (IsFirstGift (is_due turn) (call_of turn) gs)
  pub none : IfNone found (NoneDue (is_due turn) gs)

pub finds_none_at_first : (turn : Turn) (gs : Gifts) → Finds turn (take 0 gs) None
finds_none_at_first turn [] = record { some = tt; none = λ g member due. none_in_nil g member }
finds_none_at_first turn (x ∷ xs) = record { some = tt; none = λ g member due. none_in_nil g member }

-- members with one more at the end
pub old_or_new : (gs : Gifts) (g other : Gift) → Contains (gs ++ g ∷ []) other → Contains gs other ⊎ (g ≡ other)
old_or_new [] g other member = elim (first_or_later g [] other member) as (λ _. Contains [] other ⊎ (g ≡ other)) [ inl same ↦ inr same | inr later ↦ inl later ]
old_or_new (x ∷ xs) g other member = elim (first_or_later x (xs ++ g ∷ []) other member) as (λ _. Contains (x ∷ xs) other ⊎ (g ≡ other)) [
  | inl same ↦ inl (subst (Contains (x ∷ xs)) same (here x xs))
  | inr later ↦ elim (old_or_new xs g other later) as (λ _. Contains (x ∷ xs) other ⊎ (g ≡ other)) [ inl old ↦ inl (there x xs other old) | inr new ↦ inr new ]
]

module _ (turn : Turn) (gs : Gifts) (g : Gift) where
  abbrev pub more : Gifts
  more = gs ++ g ∷ []

  last : Contains more g
  last = Contains-append_right gs (g ∷ []) g (here g [])

  still : (other : Gift) → Contains gs other → Contains more other
  still other member = Contains-append_left gs (g ∷ []) other member

  not_due : is_due turn g ≡ false → (best : Option Object) → Finds turn gs best → Finds turn more best
  not_due off None found = record {
    some = tt;
    none = λ other member due. elim (old_or_new gs g other member) as (λ _. ⊥) [
      | inl old ↦ found.none other old due
      | inr new ↦ let on = subst (λ x. is_due turn x ≡ true) (sym new) due in cc (on, off)
    ];
  }
  not_due off (Some o) found = record {
    some = record {
      gift = found.some.gift;
      member = still found.some.gift found.some.member;
      is = found.some.is;
      due = found.some.due;
      first = λ other member due less. elim (old_or_new gs g other member) as (λ _. ⊥) [
        | inl old ↦ found.some.first other old due less
        | inr new ↦ let on = subst (λ x. is_due turn x ≡ true) (sym new) due in cc (on, off)
      ];
    };
    none = tt;
  }

  only : is_due turn g ≡ true → Finds turn gs None → Finds turn more (Some g.object)
  only on found = record {
    some = record {
      gift = g;
      member = last;
      is = refl;
      due = on;
      first = λ other member due less. elim (old_or_new gs g other member) as (λ _. ⊥) [
        | inl old ↦ found.none other old due
        | inr new ↦
            let itself = subst (λ (x : Gift). call_cmp set.empty set.empty (call_of turn x.object) (call_of turn g.object) ≡ Less) (sym new) less in
            let tie = tied_itself (calls_total set.empty set.empty) (call_of turn g.object) in
            cc (itself, tie)
      ];
    };
    none = tt;
  }

  stays : is_due turn g ≡ true → (o : Object) → Finds turn gs (Some o) → (call_cmp set.empty set.empty (call_of turn g.object) (call_of turn o) ≡ Less → ⊥) → Finds turn more (Some o)
  stays on o found after = record {
    some = record {
      gift = found.some.gift;
      member = still found.some.gift found.some.member;
      is = found.some.is;
      due = found.some.due;
      first = λ other member due less. elim (old_or_new gs g other member) as (λ _. ⊥) [
        | inl old ↦ found.some.first other old due less
        | inr new ↦ after (subst (λ (x : Gift). call_cmp set.empty set.empty (call_of turn x.object) (call_of turn o) ≡ Less) (sym new) less)
      ];
    };
    none = tt;
  }

  compared : is_due turn g ≡ true → (o : Object) → Finds turn gs (Some o) → (r : Ordering) → call_cmp set.empty set.empty (call_of turn g.object) (call_of turn o) ≡ r → Finds turn more (if is_lt r then Some g.object else Some o)
  compared on o found Less is = record {
    some = record {
      gift = g;
      member = last;
      is = refl;
      due = on;
      first = λ other member due less. elim (old_or_new gs g other member) as (λ _. ⊥) [
        | inl old ↦ found.some.first other old due ((calls_total set.empty set.empty).trans (call_of turn other.object) (call_of turn g.object) (call_of turn o) less is)
        | inr new ↦
            let itself = subst (λ (x : Gift). call_cmp set.empty set.empty (call_of turn x.object) (call_of turn g.object) ≡ Less) (sym new) less in
            let tie = tied_itself (calls_total set.empty set.empty) (call_of turn g.object) in
            cc (itself, tie)
      ];
    };
    none = tt;
  }
  compared on o found Equal is = stays on o found (λ less. cc (less, is))
  compared on o found Greater is = stays on o found (λ less. cc (less, is))

  where_due : is_due turn g ≡ true → (best : Option Object) → Finds turn gs best → Finds turn more (nearer turn best g.object)
  where_due on None found = only on found
  where_due on (Some o) found = compared on o found (call_cmp set.empty set.empty (call_of turn g.object) (call_of turn o)) refl

  pub finds_more : (best : Option Object) → Finds turn gs best → Finds turn more (sooner turn best g)
  finds_more best found = by (is_due turn g) refl
    where
      by : (b : Bool) → is_due turn g ≡ b → Finds turn more (if b then nearer turn best g.object else best)
      by true on = where_due on best found
      by false off = not_due off best found

-- the first items with the one at a place more
one_taken : (gs : Gifts) (i : ℕ) (g : Gift) → slice_get gs i ≡ Some g → take (suc i) gs ≡ take i gs ++ g ∷ []
one_taken [] i g at = cc at
one_taken (x ∷ xs) zero g at = let same : x ≡ g = cc at in ap (λ (y : Gift). y ∷ []) same
one_taken (x ∷ xs) (suc i) g at = ap (λ (ys : Gifts). x ∷ ys) (one_taken xs i g at)

pub next_taken : (gs : Gifts) (i : ℕ) (g : Gift) → slice_get gs i ≡ Some g → take (i + 1) gs ≡ take i gs ++ g ∷ []
next_taken gs i g at = rw add-one (one_taken gs i g at)

pub taken_member : (gs : Gifts) (i : ℕ) (g : Gift) → slice_get gs i ≡ Some g → Contains gs g
taken_member [] i g at = cc at
taken_member (x ∷ xs) zero g at = subst (Contains (x ∷ xs)) (cc at) (here x xs)
taken_member (x ∷ xs) (suc i) g at = there x xs g (taken_member xs i g at)

-- what is found is the object of a gift, so it is an address or a route
pub found_upper : (turn : Turn) (gs all : Gifts) → ((g : Gift) → Contains gs g → Contains all g) → AreGifts all → (best : Option Object) → Finds turn gs best → IfSome best (λ o. is_upper o ≡ true)
found_upper turn gs all within are None found = tt
found_upper turn gs all within are (Some o) found = subst (λ x. is_upper x ≡ true) found.some.is (are.upper found.some.gift (within found.some.gift found.some.member))

-- the first items are items, and as many as there are, they are all
pub taken_within : (gs : Gifts) (i : ℕ) (g : Gift) → Contains (take i gs) g → Contains gs g
taken_within [] zero g member = absurd (none_in_nil g member)
taken_within [] (suc i) g member = absurd (none_in_nil g member)
taken_within (x ∷ xs) zero g member = absurd (none_in_nil g member)
taken_within (x ∷ xs) (suc i) g member = elim (first_or_later x (take i xs) g member) as (λ _. Contains (x ∷ xs) g) [
  | inl same ↦ subst (Contains (x ∷ xs)) same (here x xs)
  | inr later ↦ there x xs g (taken_within xs i g later)
]

pub all_taken : (gs : Gifts) → take (length gs) gs ≡ gs
all_taken [] = refl
all_taken (x ∷ xs) = ap (λ (ys : Gifts). x ∷ ys) (all_taken xs)
