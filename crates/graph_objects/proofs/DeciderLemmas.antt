-- What is listed at ids after slots are written or made, and after more is listed.
use Rattle.std.proofs.Common.{arith, ℕ, zero, suc, ◌≡◌, ◌≢◌, ◌≤◌, ◌<◌, ◌⊎◌, inl, inr, List, [], ◌∷◌, ◌++◌, length, get_or, slice_set, Contains, Option, Some, None, true, false, Bool, Vec, refl, ap, sym, subst, ◌∙◌}
use Rattle.std.specs.Prelude.{slice_get, nat_eq, if◌then◌else◌}
use Rattle.std.specs.declared.alloc.Global.{Global}
use Rattle.std.specs.Option.{option_map}
use Rattle.std.proofs.lemmas.Bool.{cases_eq}
use Rattle.std.proofs.lemmas.Bool.Decides.{Decides-eqb}
use Rattle.std.proofs.lemmas.List.{length-map}
use Rattle.std.proofs.lemmas.List.Elements.{Contains-append_cases, Contains-append_left, Contains-append_right}
use Rattle.indexmap.specs.IndexMap.{set_value_at}
use Rattle.kern_model.proofs.MemberLemmas.{here, first_or_later, none_in_nil}
use Rattle.kern_model.proofs.TestLemmas.{either, from_any}
use Rattle.graph_objects.specs.declared.key.ObjectKey.{ObjectKey}
use Rattle.graph_objects.specs.declared.slot.Wish.{Wish}
use Rattle.graph_objects.specs.declared.slot.Slot.{Slot}
use Rattle.graph_objects.specs.Slots.{Entries}
use Rattle.graph_objects.specs.Marks.{judged}
use Rattle.graph_objects.specs.Decided.{decides, is_decided, judged_by}
use Rattle.graph_objects.specs.Deciders.{slots_of, unjudged, deciders, AreListed, HasNoNewWish, HasListed, IsListed}
use Rattle.graph_objects.specs.Changed.{each_slot, let_go, judged_slot, judged_slot_by}
use Rattle.graph_objects.specs.Grown.{empty_slot, HasSlot}
use Rattle.graph_objects.proofs.EachLemmas.{let_go_wish}

-- the wish of a slot, whether it is wanted or not
decider_at : (es : Entries) (i : ℕ) (e : ObjectKey × Slot) (w : Wish) → slice_get es i ≡ Some e → e.1.wish ≡ Some w → slice_get (deciders es) i ≡ Some (Some (unjudged w))
decider_at [] i e w at is = cc at
decider_at (x ∷ xs) zero e w at is =
    let same : x ≡ e = cc at in
    ap (λ (y : ObjectKey × Slot). Some (option_map unjudged y.1.wish)) same ∙ ap (λ (r : Option Wish). Some (option_map unjudged r)) is
decider_at (x ∷ xs) (suc i) e w at is = decider_at xs i e w at is

pub as_many_deciders : (es : Entries) → length (deciders es) ≡ length es
as_many_deciders es = length-map es (λ (e : ObjectKey × Slot). option_map unjudged e.1.wish)

pub as_many_slots : (es now : Entries) → deciders now ≡ deciders es → length now ≡ length es
as_many_slots es now same = sym (as_many_deciders now) ∙ ap length same ∙ as_many_deciders es

-- slots are written, and the ids of their wishes stay
pub deciders_each : (f : Slot → Slot) → ((s : Slot) → option_map unjudged (f s).wish ≡ option_map unjudged s.wish) → (es : Entries) → deciders (each_slot f es) ≡ deciders es
deciders_each f same [] = refl
deciders_each f same (e ∷ es) = λ i. same e.1 i ∷ deciders_each f same es i

pub deciders_written : (es : Entries) (i : ℕ) (key : ObjectKey) (s w : Slot) → slice_get es i ≡ Some (key, s) → w.wish ≡ s.wish → deciders (set_value_at es i w) ≡ deciders es
deciders_written [] i key s w at same = refl
deciders_written (x ∷ xs) zero key s w at same =
    let is : x ≡ (key, s) = cc at in
    ap (λ (r : Option Wish). option_map unjudged r ∷ deciders xs) (same ∙ ap (λ (e : ObjectKey × Slot). e.1.wish) (sym is))
deciders_written (x ∷ xs) (suc i) key s w at same = ap (λ (ws : List (Option Wish)). option_map unjudged x.1.wish ∷ ws) (deciders_written xs i key s w at same)

pub gone_deciders : (es : Entries) (f : Slot → Slot) → ((s : Slot) → (f s).wish ≡ s.wish) → deciders (each_slot let_go (each_slot f es)) ≡ deciders es
gone_deciders es f same =
    deciders_each let_go (λ s. ap (option_map unjudged) (let_go_wish s)) (each_slot f es)
    ∙ deciders_each f (λ s. ap (option_map unjudged) (same s)) es

pub judged_deciders : (used : List Bool) (es : Entries) → deciders (each_slot (judged_slot used) es) ≡ deciders es
judged_deciders used es = deciders_each (judged_slot used) (λ s. still s.wish) es
  where
    still : (r : Option Wish) → option_map unjudged (option_map (judged used) r) ≡ option_map unjudged r
    still None = refl
    still (Some w) = refl

pub decided_deciders : (used : List Bool) (ids : List ℕ) (es : Entries) → deciders (each_slot (judged_slot_by used ids) es) ≡ deciders es
decided_deciders used ids es = deciders_each (judged_slot_by used ids) (λ s. still s.wish) es
  where
    either_way : (w : Wish) (b : Bool) → unjudged (if b then judged used w else w) ≡ unjudged w
    either_way w true = refl
    either_way w false = refl

    still : (r : Option Wish) → option_map unjudged (option_map (judged_by used ids) r) ≡ option_map unjudged r
    still None = refl
    still (Some w) = ap (λ (v : Wish). Some v) (either_way w (is_decided ids w))

-- no wish is new
pub none_new : (old new : List (Option Wish)) → new ≡ old → HasNoNewWish old new
none_new old new same = record { size = omega (arith, ap length same); was = λ i w h. ap (λ (ws : List (Option Wish)). slice_get ws i) (sym same) ∙ h }

pub none_new_on : (old mid new : List (Option Wish)) → HasNoNewWish old mid → HasNoNewWish mid new → HasNoNewWish old new
none_new_on old mid new first second = record { size = omega (arith, first.size, second.size); was = λ i w h. first.was i w (second.was i w h) }

deciders_more : (old : Entries) (key : ObjectKey) → deciders (old ++ (key, empty_slot) ∷ []) ≡ deciders old ++ None ∷ []
deciders_more [] key = refl
deciders_more (e ∷ es) key = ap (λ (ws : List (Option Wish)). option_map unjudged e.1.wish ∷ ws) (deciders_more es key)

none_at_end : (ws : List (Option Wish)) → HasNoNewWish ws (ws ++ None ∷ [])
none_at_end ws = record { size = longer ws; was = was ws }
  where
    longer : (ws : List (Option Wish)) → length ws ≤ length (ws ++ None ∷ [])
    longer [] = omega arith
    longer (w ∷ ws) = let rest = longer ws in omega (arith, rest)

    was : (ws : List (Option Wish)) (i : ℕ) (w : Wish) → slice_get (ws ++ None ∷ []) i ≡ Some (Some w) → slice_get ws i ≡ Some (Some w)
    was [] zero w h = cc h
    was [] (suc i) w h = cc h
    was (v ∷ ws) zero w h = h
    was (v ∷ ws) (suc i) w h = was ws i w h

pub none_new_slot : (old new : Entries) (key : ObjectKey) (index : ℕ) → HasSlot old new key index → HasNoNewWish (deciders old) (deciders new)
none_new_slot old new key index has = elim has.more as (λ _. HasNoNewWish (deciders old) (deciders new)) [
  | inl is ↦ none_new (deciders old) (deciders new) (ap deciders is)
  | inr more ↦ subst (HasNoNewWish (deciders old)) (sym (ap deciders more ∙ deciders_more old key)) (none_at_end (deciders old))
]

-- what is listed
module _ (lists : List (Vec ℕ Global)) where
  pub none_listed : lists ≡ [] → AreListed lists []
  none_listed none = record {
    first = λ i w h. cc h;
    second = λ i w h. cc h;
    within = λ id i h. absurd (none_in_nil i (subst (λ (ls : List (Vec ℕ Global)). Contains (slots_of ls id) i) none h));
  }

  pub still_listed : (old new : List (Option Wish)) → HasNoNewWish old new → AreListed lists old → AreListed lists new
  still_listed old new stay are = record {
    first = λ i w h. are.first i w (stay.was i w h);
    second = λ i w h. are.second i w (stay.was i w h);
    within = λ id i h. let inside = are.within id i h in omega (arith, inside, stay.size);
  }

pub listed_with : (old new : List (Vec ℕ Global)) (index : ℕ) (ws : List (Option Wish)) → HasListed old new index → index < length ws → AreListed old ws → AreListed new ws
listed_with old new index ws more inside are = record {
  first = λ i w h. more.kept w.first i (are.first i w h);
  second = λ i w h. more.kept w.second i (are.second i w h);
  within = λ id i h. elim (more.only id i h) as (λ _. i < length ws) [
    | inl was ↦ are.within id i was
    | inr is ↦ omega (arith, is, inside)
  ];
}

-- a wish takes its place in a slot that is listed at both of its ids
decider_set : (es : Entries) (i j : ℕ) (w : Slot) (v : Wish) → slice_get (deciders (set_value_at es i w)) j ≡ Some (Some v) → ((j ≡ i) × (option_map unjudged w.wish ≡ Some v)) ⊎ (slice_get (deciders es) j ≡ Some (Some v))
decider_set [] i j w v h = cc h
decider_set (x ∷ xs) zero zero w v h = inl (refl, cc h)
decider_set (x ∷ xs) zero (suc j) w v h = inr h
decider_set (x ∷ xs) (suc i) zero w v h = inr h
decider_set (x ∷ xs) (suc i) (suc j) w v h = elim (decider_set xs i j w v h) as (λ _. ((suc j ≡ suc i) × (option_map unjudged w.wish ≡ Some v)) ⊎ (slice_get (deciders xs) j ≡ Some (Some v))) [
  | inl this ↦ inl (ap suc this.0, this.1)
  | inr was ↦ inr was
]

set_deciders_size : (es : Entries) (i : ℕ) (w : Slot) → length (deciders (set_value_at es i w)) ≡ length (deciders es)
set_deciders_size [] i w = refl
set_deciders_size (x ∷ xs) zero w = refl
set_deciders_size (x ∷ xs) (suc i) w = ap suc (set_deciders_size xs i w)

pub wish_listed_at : (lists : List (Vec ℕ Global)) (es : Entries) (i : ℕ) (s : Slot) (wish : Wish) → AreListed lists (deciders es) → Contains (slots_of lists wish.first) i → Contains (slots_of lists wish.second) i
    → AreListed lists (deciders (set_value_at es i (record s { wish = Some wish })))
wish_listed_at lists es i s wish are first second = record {
  first = λ j v h. elim (decider_set es i j (record s { wish = Some wish }) v h) as (λ _. Contains (slots_of lists v.first) j) [
    | inl this ↦ let is : unjudged wish ≡ v = cc this.1 in subst (λ (u : Wish). Contains (slots_of lists u.first) j) is (subst (Contains (slots_of lists wish.first)) (sym this.0) first)
    | inr was ↦ are.first j v was
  ];
  second = λ j v h. elim (decider_set es i j (record s { wish = Some wish }) v h) as (λ _. Contains (slots_of lists v.second) j) [
    | inl this ↦ let is : unjudged wish ≡ v = cc this.1 in subst (λ (u : Wish). Contains (slots_of lists u.second) j) is (subst (Contains (slots_of lists wish.second)) (sym this.0) second)
    | inr was ↦ are.second j v was
  ];
  within = λ id j h. let inside = are.within id j h in omega (arith, inside, set_deciders_size es i (record s { wish = Some wish }));
}

-- a slot that is listed at none of the ids has no wish that they decide
module _ (lists : List (Vec ℕ Global)) (es : Entries) (are : AreListed lists (deciders es)) (used : List Bool) (ids : List ℕ) (i : ℕ) (x : ObjectKey × Slot) (at : slice_get es i ≡ Some x) (off : IsListed lists ids i → ⊥) where
  at_id : (w : Wish) → x.1.wish ≡ Some w → (id : ℕ) → Contains ids id → decides id w ≡ true → ⊥
  at_id w is id member one = elim (either (nat_eq w.first id) (nat_eq w.second id) one) as (λ _. ⊥) [
    | inl same ↦ off (record {
      id = id;
      among = member;
      there = subst (λ n. Contains (slots_of lists n) i) ((Decides-eqb w.first id).0 same) (are.first i (unjudged w) (decider_at es i x w at is));
    })
    | inr same ↦ off (record {
      id = id;
      among = member;
      there = subst (λ n. Contains (slots_of lists n) i) ((Decides-eqb w.second id).0 same) (are.second i (unjudged w) (decider_at es i x w at is));
    })
  ]

  pub off_slot : judged_slot_by used ids x.1 ≡ x.1
  off_slot = ap (λ (r : Option Wish). record x.1 { wish = r }) (by x.1.wish refl)
    where
      stays : (w : Wish) → x.1.wish ≡ Some w → (b : Bool) → is_decided ids w ≡ b → judged_by used ids w ≡ w
      stays w is true one =
          let found = from_any (λ id. decides id w) ids one in
          absurd (at_id w is found.passing found.member found.passes)
      stays w is false none = ap (λ b. if b then judged used w else w) none

      by : (r : Option Wish) → x.1.wish ≡ r → option_map (judged_by used ids) r ≡ r
      by None is = refl
      by (Some w) is = ap (λ (v : Wish). Some v) (stays w is (is_decided ids w) refl)

-- a list more that is empty
pub slots_with_empty : (lists : List (Vec ℕ Global)) (v : Vec ℕ Global) (n : ℕ) → v.items ≡ [] → slots_of (lists ++ v ∷ []) n ≡ slots_of lists n
slots_with_empty [] v zero none = none
slots_with_empty [] v (suc n) none = refl
slots_with_empty (l ∷ ls) v zero none = refl
slots_with_empty (l ∷ ls) v (suc n) none = slots_with_empty ls v n none

-- another list at an id
slots_here : (lists : List (Vec ℕ Global)) (id : ℕ) (v : Vec ℕ Global) → id < length lists → slots_of (slice_set lists id v) id ≡ v.items
slots_here [] id v inside = absurd (omega (arith, inside))
slots_here (l ∷ ls) zero v inside = refl
slots_here (l ∷ ls) (suc id) v inside = slots_here ls id v (omega (arith, inside))

slots_elsewhere : (lists : List (Vec ℕ Global)) (id n : ℕ) (v : Vec ℕ Global) → n ≢ id → slots_of (slice_set lists id v) n ≡ slots_of lists n
slots_elsewhere [] id n v other = refl
slots_elsewhere (l ∷ ls) zero zero v other = absurd (other refl)
slots_elsewhere (l ∷ ls) zero (suc n) v other = refl
slots_elsewhere (l ∷ ls) (suc id) zero v other = refl
slots_elsewhere (l ∷ ls) (suc id) (suc n) v other = slots_elsewhere ls id n v (λ same. other (ap suc same))

slots_read : (lists : List (Vec ℕ Global)) (id : ℕ) (v : Vec ℕ Global) → id < length lists → v ≡ get_or lists id v → slots_of lists id ≡ v.items
slots_read [] id v inside is = absurd (omega (arith, inside))
slots_read (l ∷ ls) zero v inside is = ap (λ (x : Vec ℕ Global). x.items) (sym is)
slots_read (l ∷ ls) (suc id) v inside is = slots_read ls id v (omega (arith, inside)) is

pub same_listed : (old new : List (Vec ℕ Global)) (index : ℕ) → ((n : ℕ) → slots_of new n ≡ slots_of old n) → HasListed old new index
same_listed old new index same = record {
  kept = λ id i h. subst (λ (is : List ℕ). Contains is i) (sym (same id)) h;
  only = λ id i h. inl (subst (λ (is : List ℕ). Contains is i) (same id) h);
}

pub listed_on : (old mid new : List (Vec ℕ Global)) (index : ℕ) → HasListed old mid index → HasListed mid new index → HasListed old new index
listed_on old mid new index first second = record {
  kept = λ id i h. second.kept id i (first.kept id i h);
  only = λ id i h. elim (second.only id i h) as (λ _. Contains (slots_of old id) i ⊎ (i ≡ index)) [
    | inl before ↦ first.only id i before
    | inr same ↦ inr same
  ];
}

module _ (old mid : List (Vec ℕ Global)) (id index : ℕ) (was now : Vec ℕ Global) (same : (n : ℕ) → slots_of mid n ≡ slots_of old n) (inside : id < length mid) (read : was ≡ get_or mid id was) where
  more_kept : ((i : ℕ) → Contains was.items i → Contains now.items i) → (n i : ℕ) → Contains (slots_of old n) i → Contains (slots_of (slice_set mid id now) n) i
  more_kept keep n i h = elim (cases_eq n id) as (λ _. Contains (slots_of (slice_set mid id now) n) i) [
    | inl here ↦
        let there : Contains was.items i = subst (λ (is : List ℕ). Contains is i) (sym (same n) ∙ ap (slots_of mid) here ∙ slots_read mid id was inside read) h in
        subst (λ (is : List ℕ). Contains is i) (sym (ap (slots_of (slice_set mid id now)) here ∙ slots_here mid id now inside)) (keep i there)
    | inr other ↦ subst (λ (is : List ℕ). Contains is i) (sym (slots_elsewhere mid id n now other ∙ same n)) h
  ]

  more_only : ((i : ℕ) → Contains now.items i → Contains was.items i ⊎ (i ≡ index)) → (n i : ℕ) → Contains (slots_of (slice_set mid id now) n) i → Contains (slots_of old n) i ⊎ (i ≡ index)
  more_only only n i h = elim (cases_eq n id) as (λ _. Contains (slots_of old n) i ⊎ (i ≡ index)) [
    | inl here ↦ elim (only i (subst (λ (is : List ℕ). Contains is i) (ap (slots_of (slice_set mid id now)) here ∙ slots_here mid id now inside) h)) as (λ _. Contains (slots_of old n) i ⊎ (i ≡ index)) [
      | inl before ↦ inl (subst (λ (is : List ℕ). Contains is i) (sym (sym (same n) ∙ ap (slots_of mid) here ∙ slots_read mid id was inside read)) before)
      | inr this ↦ inr this
    ]
    | inr other ↦ inl (subst (λ (is : List ℕ). Contains is i) (slots_elsewhere mid id n now other ∙ same n) h)
  ]

  last_or_before : (xs : List ℕ) (i : ℕ) → Contains (xs ++ index ∷ []) i → Contains xs i ⊎ (i ≡ index)
  last_or_before xs i h = elim (Contains-append_cases xs (index ∷ []) i h) as (λ _. Contains xs i ⊎ (i ≡ index)) [
    | inl before ↦ inl before
    | inr now ↦ elim (first_or_later index [] i now) as (λ _. Contains xs i ⊎ (i ≡ index)) [
      | inl same ↦ inr (sym same)
      | inr none ↦ absurd (none_in_nil i none)
    ]
  ]

  -- one more is listed there
  pub one_listed : now.items ≡ was.items ++ index ∷ [] → HasListed old (slice_set mid id now) index
  one_listed is = record {
    kept = more_kept (λ i h. subst (λ (is : List ℕ). Contains is i) (sym is) (Contains-append_left was.items (index ∷ []) i h));
    only = more_only (λ i h. last_or_before was.items i (subst (λ (is : List ℕ). Contains is i) is h));
  }

  pub one_there : now.items ≡ was.items ++ index ∷ [] → Contains (slots_of (slice_set mid id now) id) index
  one_there is = subst (λ (is : List ℕ). Contains is index) (sym (slots_here mid id now inside ∙ is)) (Contains-append_right was.items (index ∷ []) index (here index []))

  -- none is
  pub none_more : now.items ≡ was.items → HasListed old (slice_set mid id now) index
  none_more is = record {
    kept = more_kept (λ i h. subst (λ (is : List ℕ). Contains is i) (sym is) h);
    only = more_only (λ i h. inl (subst (λ (is : List ℕ). Contains is i) is h));
  }
