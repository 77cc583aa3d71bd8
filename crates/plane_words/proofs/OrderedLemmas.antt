-- Putting items in one by one makes the list of their set in order.
use Rattle.std.proofs.Common.{◌≡◌, ◌⊎◌, inl, inr, List, [], ◌∷◌, Bool, true, Contains, refl, ap, sym, subst, ◌∙◌}
use Rattle.std.specs.declared.cmp.Ordering.{Ordering}
use Rattle.std.specs.declared.cmp.Ordering.TheVariants.{Less, Equal, Greater}
use Rattle.std.specs.Ordering.{ordering_reverse}
use Rattle.std.specs.Cmp.{IsTotalOrder}
use Rattle.std.specs.List.Sorted.{IsStrictlySortedBy}
use Rattle.plane_words.specs.InOrder.{ListsInOrder, TellsApart, placed, put_in, ordered}
use Rattle.plane_words.proofs.MemberLemmas.{first_member, later_member, first_or_later, no_member, all_from_members, member_of_all}

module _ {K : Type 0} {cmp : K → K → Ordering} (total : IsTotalOrder cmp) (apart : TellsApart cmp) where
  -- what stands in a list with one more item was that item, or stood there
  member_placed : (o : Ordering) (new first : K) (others later : List K) (k : K) → ((j : K) → Contains later j → (new ≡ j) ⊎ Contains others j) → Contains (placed o new first others later) k → (new ≡ k) ⊎ Contains (first ∷ others) k
  member_placed Less new first others later k from h = first_or_later new (first ∷ others) k h
  member_placed Equal new first others later k from h = inr h
  member_placed Greater new first others later k from h = elim (first_or_later first later k h) as (λ _. (new ≡ k) ⊎ Contains (first ∷ others) k) [
    | inl same ↦ inr (subst (Contains (first ∷ others)) same (first_member first others))
    | inr inside ↦ elim (from k inside) as (λ _. (new ≡ k) ⊎ Contains (first ∷ others) k) [ inl same ↦ inl same | inr old ↦ inr (later_member first others k old) ]
  ]

  member_put : (new : K) (items : List K) (k : K) → Contains (put_in cmp new items) k → (new ≡ k) ⊎ Contains items k
  member_put new [] k h = first_or_later new [] k h
  member_put new (first ∷ others) k h = member_placed (cmp new first) new first others (put_in cmp new others) k (member_put new others) h

  -- the new item stands there
  placed_is_member : (o : Ordering) (new first : K) (others later : List K) → cmp new first ≡ o → Contains later new → Contains (placed o new first others later) new
  placed_is_member Less new first others later is h = first_member new (first ∷ others)
  placed_is_member Equal new first others later is h = subst (Contains (first ∷ others)) (sym (apart new first is)) (first_member first others)
  placed_is_member Greater new first others later is h = later_member first later new h

  put_is_member : (new : K) (items : List K) → Contains (put_in cmp new items) new
  put_is_member new [] = first_member new []
  put_is_member new (first ∷ others) = placed_is_member (cmp new first) new first others (put_in cmp new others) refl (put_is_member new others)

  -- and the others still do
  placed_keeps : (o : Ordering) (new first : K) (others later : List K) (k : K) → (Contains others k → Contains later k) → Contains (first ∷ others) k → Contains (placed o new first others later) k
  placed_keeps Less new first others later k to h = later_member new (first ∷ others) k h
  placed_keeps Equal new first others later k to h = h
  placed_keeps Greater new first others later k to h = elim (first_or_later first others k h) as (λ _. Contains (first ∷ later) k) [
    | inl same ↦ subst (Contains (first ∷ later)) same (first_member first later)
    | inr old ↦ later_member first later k (to old)
  ]

  put_keeps : (new : K) (items : List K) (k : K) → Contains items k → Contains (put_in cmp new items) k
  put_keeps new [] k h = absurd (no_member k h)
  put_keeps new (first ∷ others) k h = placed_keeps (cmp new first) new first others (put_in cmp new others) k (put_keeps new others k) h

  placed_sorted : (o : Ordering) (new first : K) (others later : List K) → cmp new first ≡ o → IsStrictlySortedBy cmp (first ∷ others) → IsStrictlySortedBy cmp later → ((j : K) → Contains later j → (new ≡ j) ⊎ Contains others j)
      → IsStrictlySortedBy cmp (placed o new first others later)
  unfolding IsStrictlySortedBy
  placed_sorted Less new first others later is s l from = ((is, all_from_members (λ k. cmp new k ≡ Less) others (λ k inside. total.trans new first k is (member_of_all (λ j. cmp first j ≡ Less) others k s.0 inside))), s)
  placed_sorted Equal new first others later is s l from = s
  placed_sorted Greater new first others later is s l from = (
    all_from_members (λ k. cmp first k ≡ Less) later (λ k inside. elim (from k inside) as (λ _. cmp first k ≡ Less) [
      | inl same ↦ subst (λ j. cmp first j ≡ Less) same (total.antisymm first new ∙ ap ordering_reverse is)
      | inr old ↦ member_of_all (λ j. cmp first j ≡ Less) others k s.0 old
    ]),
    l,
  )

  put_sorted : (new : K) (items : List K) → IsStrictlySortedBy cmp items → IsStrictlySortedBy cmp (put_in cmp new items)
  unfolding IsStrictlySortedBy
  put_sorted new [] s = (tt, tt)
  put_sorted new (first ∷ others) s = placed_sorted (cmp new first) new first others (put_in cmp new others) refl s (put_sorted new others s.1) (member_put new others)

  ordered_sorted : (items : List K) → IsStrictlySortedBy cmp (ordered cmp items)
  unfolding IsStrictlySortedBy
  ordered_sorted [] = tt
  ordered_sorted (item ∷ items) = put_sorted item (ordered cmp items) (ordered_sorted items)

  pub member_of_ordered : (items : List K) (k : K) → Contains (ordered cmp items) k → Contains items k
  member_of_ordered [] k h = h
  member_of_ordered (item ∷ items) k h = elim (member_put item (ordered cmp items) k h) as (λ _. Contains (item ∷ items) k) [
    | inl same ↦ subst (Contains (item ∷ items)) same (first_member item items)
    | inr inside ↦ later_member item items k (member_of_ordered items k inside)
  ]

  pub ordered_has_member : (items : List K) (k : K) → Contains items k → Contains (ordered cmp items) k
  ordered_has_member [] k h = absurd (no_member k h)
  ordered_has_member (item ∷ items) k h = elim (first_or_later item items k h) as (λ _. Contains (put_in cmp item (ordered cmp items)) k) [
    | inl same ↦ subst (Contains (put_in cmp item (ordered cmp items))) same (put_is_member item (ordered cmp items))
    | inr inside ↦ put_keeps item (ordered cmp items) k (ordered_has_member items k inside)
  ]

  pub ordered_lists : (member : K → Bool) (items : List K) → ((k : K) → Contains items k → member k ≡ true) → ((k : K) → member k ≡ true → Contains items k) → ListsInOrder cmp member (ordered cmp items)
  ordered_lists member items sound complete = record {
    sorted = ordered_sorted items;
    sound = λ k h. sound k (member_of_ordered items k h);
    complete = λ k h. ordered_has_member items k (complete k h);
  }
