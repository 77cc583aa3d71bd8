-- Lists of what comes, in order: filled and sorted, read from the end, and kept while calls are made.
use Rattle.std.proofs.Common.{arith, ℕ, zero, suc, ◌≡◌, ◌≤◌, ◌<◌, ◌+◌, ◌-◌, inl, inr, List, [], ◌∷◌, ◌++◌, take, length, get_or, position, Contains, Option, Some, None, true, false, Bool, refl, ap, sym, subst, ◌∙◌}
use Rattle.std.specs.Prelude.{slice_get, slice_index_or, is_some, ◌&&◌, ◌||◌, not, if◌then◌else◌}
use Rattle.std.specs.Option.{option_map_or, option_to_list}
use Rattle.std.specs.Map.{keys_of, lookup}
use Rattle.std.specs.Ordering.{is_lt}
use Rattle.std.specs.declared.cmp.Ordering.TheVariants.{Less}
use Rattle.std.specs.Cmp.{IsTotalOrder, IsStrictWeakOrder, tied_itself, nat_cmp_total}
use Rattle.std.specs.Cmp.Lexicographic.{nat_list_cmp_total}
use Rattle.std.specs.List.Sorted.{IsPermutation, IsSortedBy}
use Rattle.std.proofs.lemmas.Cmp.{on_total, then_total}
use Rattle.std.proofs.lemmas.Bool.{cases_eq, cases_lt}
use Rattle.std.proofs.lemmas.List.{append-nil, length-map, length-set}
use Rattle.std.proofs.lemmas.List.Quantifiers.{position-Some}
use Rattle.std.proofs.lemmas.List.Elements.{Contains-append_cases, Contains-append_left, Contains-push}
use Rattle.std.proofs.lemmas.List.Sorted.{IsPermutation-sym, Contains-permutation, ranks_by, IsStrictWeakOrder-flip, sorted_far}
use Rattle.std.proofs.lemmas.Option.{slice_get_within, get_or_from_slice_get}
use Rattle.kern_model.specs.declared.object.Object.{Object}
use Rattle.kern_model.specs.Line.{IsPrintable}
use Rattle.kern_calls.specs.Upper.{is_upper}
use Rattle.kern_model.proofs.MemberLemmas.{first_or_later, none_in_nil}
use Rattle.given_objects.specs.declared.key.GiftKey.{GiftKey}
use Rattle.given_objects.specs.declared.gift.Gift.{Gift}
use Rattle.given_objects.specs.declared.first.Turn.{Turn}
use Rattle.given_objects.specs.declared.first.Turn.TheVariants.{Takes, Puts}
use Rattle.given_objects.specs.declared.order.Placed.{Placed}
use Rattle.given_objects.specs.Gifts.{Gifts, is_of, gift_of, is_given, AreGifts}
use Rattle.given_objects.specs.Changes.{changed, noted, with_lost_link}
use Rattle.given_objects.specs.Keys.{key_eq}
use Rattle.given_objects.specs.Inside.{Entries, gift_in, listed}
use Rattle.given_objects.specs.First.{IsFirstGift, NoneDue}
use Rattle.given_objects.specs.Turns.{is_due, call_of}
use Rattle.given_objects.specs.Ordered.{is_coming, turn_of, of_object, placed, place_cmp, with_coming, HasComing, ComeDown, ListsComing}
use Rattle.given_objects.proofs.KeyLemmas.{key_same}
use Rattle.given_objects.proofs.TableLemmas.{looked}
use Rattle.given_objects.proofs.OrderLemmas.{turns_in_order}
use Rattle.given_objects.proofs.FirstLemmas.{taken_member}
use Rattle.given_objects.proofs.ChangeLemmas.{one_gift, found_gift, was_gift}
use Rattle.given_objects.proofs.KeepLemmas.{no_gift, by_place}

pub places_total : IsTotalOrder place_cmp
places_total = then_total (on_total (λ p. p.rank) nat_cmp_total) (on_total (λ p. p.line) nat_list_cmp_total)

-- what is due comes
pub due_comes : (turn : Turn) (g : Gift) → is_due turn g ≡ true → is_coming turn g ≡ true
due_comes Takes g due = due
due_comes Puts g due = by (is_given g) g.held g.loses_link due
  where
    by : (a h f : Bool) → (a && not h) ≡ true → (a && (not h || f)) ≡ true
    by true false f h = refl
    by true true f h = absurd (cc h)
    by false b f h = absurd (cc h)

-- the gift of an object, and what a test tells of it
pub gift_is : (gs : Gifts) → AreGifts gs → (g : Gift) → Contains gs g → gift_of gs g.object ≡ Some g
gift_is gs are g member = by (gift_of gs g.object) refl
  where
    by : (r : Option Gift) → gift_of gs g.object ≡ r → gift_of gs g.object ≡ Some g
    by None is = absurd (no_gift gs g.object (ap is_some is) g member refl)
    by (Some x) is = let found = found_gift gs g.object x is in is ∙ ap (λ (y : Gift). Some y) (one_gift gs are.once x g found.member member found.is)

pub told_of_gift : (test : Gift → Bool) (gs : Gifts) → AreGifts gs → (g : Gift) → Contains gs g → of_object test gs g.object ≡ test g
told_of_gift test gs are g member = ap (λ (r : Option Gift). option_map_or test r false) (gift_is gs are g member)

pub record IsTold (test : Gift → Bool) (gs : Gifts) (o : Object) : Type 0 where
  pub gift : Gift
  pub member : Contains gs gift
  pub is : gift.object ≡ o
  pub told : test gift ≡ true

pub told_of : (test : Gift → Bool) (gs : Gifts) (o : Object) → of_object test gs o ≡ true → IsTold test gs o
told_of test gs o told = by (gift_of gs o) refl told
  where
    by : (r : Option Gift) → gift_of gs o ≡ r → option_map_or test r false ≡ true → IsTold test gs o
    by None is told = absurd (cc told)
    by (Some g) is told = let found = found_gift gs o g is in record { gift = g; member = found.member; is = found.is; told = told }

-- the gift of a key is read at its place, and there is none where none is looked up
module _ (k : GiftKey) (es : Entries) where
  pub gift_at_key : AreGifts (listed es) → (i : ℕ) (g : Gift) → position (key_eq k) (keys_of es) ≡ Some i → slice_get (listed es) i ≡ Some g → Some g ≡ gift_of (listed es) k.0
  gift_at_key are i g first at =
      let same : g.object ≡ k.0 = object_at es i g at ∙ ap (λ (q : GiftKey). q.0) (sym (key_same k (get_or (keys_of es) i k) (position-Some (key_eq k) (keys_of es) i k first).1)) in
      sym (gift_is (listed es) are g (taken_member (listed es) i g at)) ∙ ap (gift_of (listed es)) same
    where
      object_at : (xs : Entries) (j : ℕ) (h : Gift) → slice_get (listed xs) j ≡ Some h → h.object ≡ (get_or (keys_of xs) j k).0
      object_at [] j h there = cc there
      object_at (x ∷ xs) zero h there = let is : gift_in x ≡ h = cc there in ap (λ (y : Gift). y.object) (sym is)
      object_at (x ∷ xs) (suc j) h there = object_at xs j h there

  pub no_gift_at : false ≡ is_some (lookup (key_eq k) es) → None ≡ gift_of (listed es) k.0
  no_gift_at none = by (gift_of (listed es) k.0) (none ∙ looked k es)
    where
      by : (r : Option Gift) → false ≡ is_some r → None ≡ r
      by None is = refl
      by (Some g) is = absurd (cc is)

-- a list with what comes, and one more gift that does or does not
pub comes_added : (turn : Turn) (ps : List Placed) (g : Gift) (b : Bool) → b ≡ is_coming turn g → b ≡ true → ps ++ placed turn g.object ∷ [] ≡ with_coming turn ps g
comes_added turn ps g b is on = sym (ap (λ c. ps ++ (if c then placed turn g.object ∷ [] else [])) (sym is ∙ on))

pub comes_not_added : (turn : Turn) (ps : List Placed) (g : Gift) (b : Bool) → b ≡ is_coming turn g → b ≡ false → ps ≡ with_coming turn ps g
comes_not_added turn ps g b is off = sym (append_none ps) ∙ sym (ap (λ c. ps ++ (if c then placed turn g.object ∷ [] else [])) (sym is ∙ off))
  where
    append_none : (xs : List Placed) → xs ++ [] ≡ xs
    append_none [] = refl
    append_none (x ∷ xs) = ap (λ (ys : List Placed). x ∷ ys) (append_none xs)

-- a list has what comes at the places so far
pub has_none : (turn : Turn) (gs : Gifts) (places : List ℕ) (ps : List Placed) → ps ≡ [] → HasComing turn gs (take 0 places) ps
has_none turn gs places ps none = record {
  at = λ p member. absurd (none_in_nil p (subst (λ (xs : List Placed). Contains xs p) none member));
  all = λ place g member at on. absurd (none_in_nil place (subst (λ (xs : List ℕ). Contains xs place) (nothing places) member));
}
  where
    nothing : (xs : List ℕ) → take 0 xs ≡ []
    nothing [] = refl
    nothing (x ∷ xs) = refl

module _ (turn : Turn) (gs : Gifts) (places : List ℕ) (place : ℕ) (ps : List Placed) (g : Gift) (there : slice_get gs place ≡ Some g) (has : HasComing turn gs places ps) where
  same_gift : (other : ℕ) (x : Gift) → Contains (place ∷ []) other → slice_get gs other ≡ Some x → g ≡ x
  same_gift other x member at = elim (first_or_later place [] other member) as (λ _. g ≡ x) [
    | inl same ↦ let at_one : slice_get gs other ≡ Some g = ap (slice_get gs) (sym same) ∙ there in cc (at, at_one)
    | inr none ↦ absurd (none_in_nil other none)
  ]

  has_grown : (b : Bool) → is_coming turn g ≡ b → HasComing turn gs (places ++ place ∷ []) (ps ++ (if b then placed turn g.object ∷ [] else []))
  has_grown true is = record {
    at = λ p member. elim (Contains-append_cases ps (placed turn g.object ∷ []) p member) as (λ _. p ≡ placed turn p.object) [
      | inl old ↦ has.at p old
      | inr new ↦ elim (first_or_later (placed turn g.object) [] p new) as (λ _. p ≡ placed turn p.object) [
        | inl same ↦ sym same ∙ ap (λ (x : Placed). placed turn x.object) same
        | inr none ↦ absurd (none_in_nil p none)
      ]
    ];
    all = λ other x member at on. elim (Contains-append_cases places (place ∷ []) other member) as (λ _. Contains (ps ++ placed turn g.object ∷ []) (placed turn x.object)) [
      | inl old ↦ Contains-append_left ps (placed turn g.object ∷ []) (placed turn x.object) (has.all other x old at on)
      | inr new ↦ subst (λ (y : Gift). Contains (ps ++ placed turn g.object ∷ []) (placed turn y.object)) (same_gift other x new at) (Contains-push ps (placed turn g.object))
    ];
  }
  has_grown false is = record {
    at = λ p member. has.at p (subst (λ (xs : List Placed). Contains xs p) (append-nil ps) member);
    all = λ other x member at on. elim (Contains-append_cases places (place ∷ []) other member) as (λ _. Contains (ps ++ []) (placed turn x.object)) [
      | inl old ↦ Contains-append_left ps [] (placed turn x.object) (has.all other x old at on)
      | inr new ↦ let told : is_coming turn g ≡ true = ap (is_coming turn) (same_gift other x new at) ∙ on in absurd (cc (is, told))
    ];
  }

  pub has_more : (more : List ℕ) (qs : List Placed) → more ≡ places ++ place ∷ [] → qs ≡ with_coming turn ps g → HasComing turn gs more qs
  has_more more qs longer is = subst (λ (xs : List ℕ). HasComing turn gs xs qs) (sym longer) (subst (λ (rs : List Placed). HasComing turn gs (places ++ place ∷ []) rs) (sym is) (has_grown (is_coming turn g) refl))

-- sorted by a closure that compares the later with the earlier
abbrev pub before : Placed → Placed → Bool
before p q = is_lt (place_cmp q.place p.place)

pub ranked : IsStrictWeakOrder before
ranked = IsStrictWeakOrder-flip (λ p q. is_lt (place_cmp p.place q.place)) (ranks_by places_total (λ (p : Placed). p.place))

pub comes_down : (ps : List Placed) → IsSortedBy before ps → ComeDown ps
comes_down ps sorted i j p q less at there h =
    let far = sorted_far before ranked ps sorted i j p (omega (arith, less)) (slice_get_within ps j q there) in
    let first = get_or_from_slice_get ps i p p at in
    let second = get_or_from_slice_get ps j q p there in
    let off : is_lt (place_cmp p.place q.place) ≡ false = sym (λ k. before (second k) (first k)) ∙ far in
    let on : is_lt (place_cmp p.place q.place) ≡ true = ap is_lt h in
    cc (on, off)

-- members stand at places
pub some_at : {X : Type 0} (xs : List X) (k : ℕ) (x : X) → k < length xs → slice_index_or xs k x ≡ x → slice_get xs k ≡ Some x
some_at [] k x h is = absurd (omega arith)
some_at (y ∷ ys) zero x h is = ap Some is
some_at (y ∷ ys) (suc k) x h is = some_at ys k x (omega arith) is

-- a filled list is sorted, where all that comes is at its places
pub coming_sorted : (turn : Turn) (gs : Gifts) (places : List ℕ) (ps qs : List Placed) → HasComing turn gs places ps → ((place : ℕ) (g : Gift) → slice_get gs place ≡ Some g → is_coming turn g ≡ true → Contains places place)
    → IsPermutation ps qs → ComeDown qs → ListsComing turn gs qs
coming_sorted turn gs places ps qs has all same down = record {
  at = λ p member. has.at p (Contains-permutation qs ps p (IsPermutation-sym ps qs same) member);
  all = λ g member on.
      let is = some_at gs member.0 g member.1 member.2 in
      Contains-permutation ps qs (placed turn g.object) same (has.all member.0 g (all member.0 g is on) is on);
  down = down;
}

module _ (turn : Turn) (gs : Gifts) where
  -- a list is read from the end: of none from an index on the gift is due
  abbrev pub NoneDueFrom : List Placed → ℕ → Type 0
  NoneDueFrom ps k = (j : ℕ) (p : Placed) → k ≤ j → slice_get ps j ≡ Some p → of_object (is_due turn) gs p.object ≡ true → ⊥

  pub none_from_end : (ps : List Placed) (k : ℕ) → k ≡ length ps → NoneDueFrom ps k
  none_from_end ps k end j p above at due = let inside = slice_get_within ps j p at in omega (arith, end, above, inside)

  pub none_from_one : (ps : List Placed) (k next : ℕ) (p : Placed) → next ≡ k + 1 → slice_get ps k ≡ Some p → (of_object (is_due turn) gs p.object ≡ true → ⊥) → NoneDueFrom ps next → NoneDueFrom ps k
  none_from_one ps k next p is at none later j q above there due = elim (cases_eq j k) as (λ _. ⊥) [
    | inl same ↦
        let here : slice_get ps k ≡ Some q = ap (slice_get ps) (sym same) ∙ there in
        let one : p ≡ q = cc (at, here) in
        none (subst (λ (x : Placed). of_object (is_due turn) gs x.object ≡ true) (sym one) due)
    | inr other ↦ later j q (omega (arith, is, above, other)) there due
  ]

  module _ (are : AreGifts gs) (ps : List Placed) (lists : ListsComing turn gs ps) where
    due_in_list : (g : Gift) → Contains gs g → is_due turn g ≡ true → (j : ℕ) × (slice_get ps j ≡ Some (placed turn g.object))
    due_in_list g member due =
        let found = lists.all g member (due_comes turn g due) in
        (found.0, some_at ps found.0 (placed turn g.object) found.1 found.2)

    pub none_listed_due : NoneDueFrom ps 0 → NoneDue (is_due turn) gs
    none_listed_due none g member due =
        let at = due_in_list g member due in
        none at.0 (placed turn g.object) (omega arith) at.1 (told_of_gift (is_due turn) gs are g member ∙ due)

    module _ (k next : ℕ) (p : Placed) (is_next : next ≡ k + 1) (at : slice_get ps k ≡ Some p) (due : of_object (is_due turn) gs p.object ≡ true) (later : NoneDueFrom ps next) where
      p_placed : p ≡ placed turn p.object
      p_placed = lists.at p (k, slice_get_within ps k p at, get_or_from_slice_get ps k p p at)

      not_after : (g : Gift) → Contains gs g → is_due turn g ≡ true → place_cmp (placed turn g.object).place p.place ≡ Less → ⊥
      not_after g member on less =
          let r : Placed = placed turn g.object in
          let found = due_in_list g member on in
          let j = found.0 in
          elim (cases_lt j k) as (λ _. ⊥) [
            | inl lower ↦ lists.down j k r p lower found.1 at less
            | inr above ↦ elim (cases_eq j k) as (λ _. ⊥) [
              | inl same ↦
                  let there : slice_get ps j ≡ Some p = ap (slice_get ps) same ∙ at in
                  let one : r ≡ p = cc (found.1, there) in
                  let itself : place_cmp p.place p.place ≡ Less = ap (λ (x : Placed). place_cmp x.place p.place) (sym one) ∙ less in
                  let tie = tied_itself places_total p.place in
                  cc (itself, tie)
              | inr other ↦ later j r (omega (arith, is_next, above, other)) found.1 (told_of_gift (is_due turn) gs are g member ∙ on)
            ]
          ]

      pub first_of_list : IsFirstGift (is_due turn) (call_of turn) gs p.object
      first_of_list =
          let first = told_of (is_due turn) gs p.object due in
          let upper = subst (λ o. is_upper o ≡ true) first.is (are.upper first.gift first.member) in
          let fit = subst IsPrintable first.is (are.fit first.gift first.member) in
          record {
            gift = first.gift;
            member = first.member;
            is = first.is;
            due = first.told;
            first = λ other member on less. not_after other member on
                (ap (place_cmp (placed turn other.object).place) (ap (λ (x : Placed). x.place) p_placed)
                ∙ sym (turns_in_order turn other.object p.object (are.upper other member) upper (are.fit other member) fit) ∙ less);
          }

  -- its last is taken off, which does not come
  get_front : (ps qs : List Placed) (i : ℕ) (p : Placed) → slice_get ps i ≡ Some p → slice_get (ps ++ qs) i ≡ Some p
  get_front [] qs i p h = absurd (cc h)
  get_front (x ∷ xs) qs zero p h = h
  get_front (x ∷ xs) qs (suc i) p h = get_front xs qs i p h

  last_at : (ps : List Placed) (p : Placed) → slice_get (ps ++ p ∷ []) (length ps) ≡ Some p
  last_at [] p = refl
  last_at (x ∷ xs) p = last_at xs p

  one_longer : (ps : List Placed) (p : Placed) → length (ps ++ p ∷ []) ≡ length ps + 1
  one_longer [] p = refl
  one_longer (x ∷ xs) p = let rest = one_longer xs p in omega (arith, rest)

  last_is : (ps : List Placed) (p : Placed) → slice_get (ps ++ p ∷ []) (length (ps ++ p ∷ []) - 1) ≡ Some p
  last_is ps p = let end : length (ps ++ p ∷ []) - 1 ≡ length ps = omega (arith, one_longer ps p) in ap (slice_get (ps ++ p ∷ [])) end ∙ last_at ps p

  in_last : (r : Option Placed) (p : Placed) → Contains (option_to_list r) p → r ≡ Some p
  in_last None p member = absurd (none_in_nil p member)
  in_last (Some q) p member = elim (first_or_later q [] p member) as (λ _. Some q ≡ Some p) [
    | inl same ↦ ap (λ (x : Placed). Some x) same
    | inr none ↦ absurd (none_in_nil p none)
  ]

  module _ (are : AreGifts gs) where
    without_last : (qs : List Placed) (r : Option Placed) → ListsComing turn gs (qs ++ option_to_list r) → ((p : Placed) → r ≡ Some p → of_object (is_coming turn) gs p.object ≡ false) → ListsComing turn gs qs
    without_last qs r lists done = record {
      at = λ p member. lists.at p (Contains-append_left qs (option_to_list r) p member);
      all = λ g member comes. elim (Contains-append_cases qs (option_to_list r) (placed turn g.object) (lists.all g member comes)) as (λ _. Contains qs (placed turn g.object)) [
        | inl before ↦ before
        | inr last ↦
            let off = done (placed turn g.object) (in_last r (placed turn g.object) last) in
            let on = told_of_gift (is_coming turn) gs are g member ∙ comes in
            absurd (cc (on, off))
      ];
      down = λ i j p q less at there. lists.down i j p q less (get_front qs (option_to_list r) i p at) (get_front qs (option_to_list r) j q there);
    }

    pub popped : (old new : List Placed) (r : Option Placed) → old ≡ new ++ option_to_list r → ((p : Placed) → slice_get old (length old - 1) ≡ Some p → of_object (is_coming turn) gs p.object ≡ false) → ListsComing turn gs old
        → ListsComing turn gs new
    popped old new r is done lists = without_last new r (subst (ListsComing turn gs) is lists) (last r is)
      where
        last : (r : Option Placed) → old ≡ new ++ option_to_list r → (p : Placed) → r ≡ Some p → of_object (is_coming turn) gs p.object ≡ false
        last None is p some = absurd (cc some)
        last (Some q) is p some =
            let same : q ≡ p = cc some in
            let at : slice_get old (length old - 1) ≡ Some q = ap (λ (xs : List Placed). slice_get xs (length xs - 1)) is ∙ last_is new q in
            done p (at ∙ ap (λ (x : Placed). Some x) same)

-- What comes after a call that was due came before it.
came : (turn : Turn) (held : Bool) (g : Gift) → is_due (turn_of held) g ≡ true → is_coming turn (record g { held = held; loses_link = false }) ≡ true → is_coming turn g ≡ true
came Takes true g due comes = by (is_given g) g.held due comes
  where
    by : (a h : Bool) → (a && not h) ≡ true → (true && (not a || false)) ≡ true → (h && (not a || g.loses_link)) ≡ true
    by true h due comes = absurd (cc comes)
    by false h due comes = absurd (cc due)
came Puts true g due comes = absurd (by (is_given g) comes)
  where
    by : (a : Bool) → (a && (not true || false)) ≡ true → ⊥
    by true comes = cc comes
    by false comes = cc comes
came Takes false g due comes = absurd (cc comes)
came Puts false g due comes = by (is_given g) g.held g.loses_link due comes
  where
    by : (a h f : Bool) → (h && (not a || f)) ≡ true → (a && (not false || false)) ≡ true → (a && (not h || f)) ≡ true
    by true true true due comes = refl
    by true true false due comes = absurd (cc due)
    by true false f due comes = refl
    by false h f due comes = absurd (cc comes)

pub lists_go_on : (turn : Turn) (gs now : Gifts) (o : Object) (held : Bool) → now ≡ noted gs o held → ((g : Gift) → Contains gs g → g.object ≡ o → is_due (turn_of held) g ≡ true) → (ps : List Placed) → ListsComing turn gs ps
    → ListsComing turn now ps
lists_go_on turn gs now o held is due ps lists = subst (λ (xs : Gifts). ListsComing turn xs ps) (sym is) (record {
  at = lists.at;
  all = λ g member comes.
      let past = was_gift (λ (x : Gift). record x { held = held; loses_link = false }) gs o g member in
      elim past.by as (λ _. Contains ps (placed turn g.object)) [
        | inl made ↦ subst (λ (x : Gift). Contains ps (placed turn x.object)) made.1
            (lists.all past.was past.member (came turn held past.was (due past.was past.member made.0) (ap (is_coming turn) made.1 ∙ comes)))
        | inr left ↦ subst (λ (x : Gift). Contains ps (placed turn x.object)) left.1 (lists.all past.was past.member (ap (is_coming turn) left.1 ∙ comes))
      ];
  down = lists.down;
})

-- as many gifts as entries, and what writes leave of that
pub as_many : (es : Entries) → length (listed es) ≡ length es
as_many es = length-map es gift_in

pub as_many_still : (es now : Entries) (change : Gift → Gift) (o : Object) → listed now ≡ changed change (listed es) o → length now ≡ length es
as_many_still es now change o is = sym (as_many now) ∙ ap length is ∙ length-map (listed es) (λ (g : Gift). if is_of o g then change g else g) ∙ as_many es

pub one_more : (es now : Entries) (g : Gift) → listed now ≡ listed es ++ g ∷ [] → length now ≡ length es + 1
one_more es now g is = let more = longer (listed es) in omega (arith, as_many now, as_many es, ap length is, more)
  where
    longer : (gs : Gifts) → length (gs ++ g ∷ []) ≡ length gs + 1
    longer [] = refl
    longer (x ∷ xs) = let rest = longer xs in omega (arith, rest)

pub as_many_told : (es now : Entries) (place : ℕ) (loses_link : Bool) → listed now ≡ with_lost_link (listed es) place loses_link → length now ≡ length es
as_many_told es now place loses_link is = sym (as_many now) ∙ ap length is
    ∙ by_place (listed es) place loses_link (λ (gs : Gifts). length gs ≡ length (listed es)) refl (λ g at. length-set (listed es) place (record g { loses_link = loses_link })) ∙ as_many es

-- the gift at the place of a key that was due is every gift of its object
pub due_there : (gs : Gifts) → AreGifts gs → (k : GiftKey) (es : Entries) → listed es ≡ gs → (held : Bool) (i : ℕ) (found : Gift) → position (key_eq k) (keys_of es) ≡ Some i → slice_get (listed es) i ≡ Some found
    → is_due (turn_of held) found ≡ true → (g : Gift) → Contains gs g → g.object ≡ k.0 → is_due (turn_of held) g ≡ true
due_there gs are k es is held i found first at due g member same =
    let there = gift_at_key k es (subst AreGifts (sym is) are) i found first at in
    let it = gift_is gs are g member in
    let one : Some g ≡ Some found = sym it ∙ ap (gift_of gs) same ∙ ap (λ (xs : Gifts). gift_of xs k.0) (sym is) ∙ sym there in
    let both : g ≡ found = cc one in
    ap (is_due (turn_of held)) both ∙ due

pub and_left : (a b : Bool) → (a && b) ≡ true → a ≡ true
and_left true b h = refl
and_left false b h = absurd (cc h)

pub and_right : (a b : Bool) → (a && b) ≡ true → b ≡ true
and_right true b h = h
and_right false b h = absurd (cc h)
