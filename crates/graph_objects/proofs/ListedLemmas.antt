-- Lists of what is due in order: filled and sorted, read from the end, and kept while calls are made.
use Rattle.std.proofs.Common.{arith, ℕ, zero, suc, ◌≡◌, ◌≤◌, ◌<◌, ◌+◌, ◌-◌, inl, inr, List, [], ◌∷◌, ◌++◌, length, Contains, Option, Some, None, true, false, Bool, refl, ap, sym, subst, ◌∙◌}
use Rattle.std.specs.Prelude.{slice_get, if◌then◌else◌}
use Rattle.std.specs.Option.{option_and_then, option_to_list}
use Rattle.std.specs.FinSet as set
use Rattle.std.specs.Ordering.{is_lt}
use Rattle.std.specs.declared.cmp.Ordering.TheVariants.{Less}
use Rattle.std.specs.Cmp.{IsStrictWeakOrder, tied_itself}
use Rattle.std.specs.List.Sorted.{IsPermutation, IsSortedBy}
use Rattle.std.proofs.lemmas.Bool.{cases_eq, cases_lt}
use Rattle.std.proofs.lemmas.List.Elements.{Contains-append_cases, Contains-append_left, Contains-append_right}
use Rattle.std.proofs.lemmas.List.Sorted.{IsPermutation-sym, Contains-permutation, ranks_by, IsStrictWeakOrder-flip, sorted_far}
use Rattle.std.proofs.lemmas.Option.{slice_get_within, get_or_from_slice_get}
use Rattle.kern_model.specs.declared.object.Object.{Object}
use Rattle.kern_model.specs.declared.object.Call.TheVariants.{Put}
use Rattle.kern_model.specs.ObjectOrder.{Has}
use Rattle.kern_model.specs.Kernel.{after_call}
use Rattle.kern_model.specs.Line.{line_of}
use Rattle.kern_model.specs.Touched.{is_taken, is_put}
use Rattle.kern_model.specs.CallOrder.{rank, height_of}
use Rattle.kern_model.proofs.MemberLemmas.{here, first_or_later, none_in_nil}
use Rattle.kern_model.proofs.TouchLemmas.{taken_held, put_wanted}
use Rattle.graph_objects.specs.declared.key.ObjectKey.{ObjectKey}
use Rattle.graph_objects.specs.declared.slot.Slot.{Slot}
use Rattle.graph_objects.specs.declared.slot.Side.TheVariants.{Held, Wanted}
use Rattle.graph_objects.specs.declared.turn.Turn.{Turn}
use Rattle.graph_objects.specs.declared.turn.Turn.TheVariants.{Takes, Puts}
use Rattle.graph_objects.specs.declared.turn.Placed.{Placed}
use Rattle.graph_objects.specs.Steady.{IsSteady}
use Rattle.graph_objects.specs.Slots.{on, Entries, set_on, AreSlots}
use Rattle.graph_objects.specs.Bits.{NoneBetween}
use Rattle.graph_objects.specs.Marked.{AreMarked}
use Rattle.graph_objects.specs.Turns.{side_of, is_due, IsFirst}
use Rattle.graph_objects.specs.Places.{plain_call, place_of, place_cmp, due_slot, due_in}
use Rattle.graph_objects.specs.Ordered.{ComeDown, HasDue, ListsDue}
use Rattle.graph_objects.proofs.SlotLemmas.{in_slot}
use Rattle.graph_objects.proofs.TurnLemmas.{places_total, some_at, IsDueAt, IsBest, due_at_index, first_is}
use Rattle.graph_objects.proofs.MarkedLemmas.{no_due}
use Rattle.graph_objects.proofs.OrderLemmas.{was_taken, was_put, high_still, still_none_taken, was_to_be_put}

pub had_due : (turn : Turn) (es : Entries) (o : Object) → is_due turn (set_on Held es) (set_on Wanted es) o ≡ true → Has (set_on (side_of turn) es) o
had_due Takes es o due = taken_held (set_on Held es) (set_on Wanted es) o due
had_due Puts es o due = put_wanted (set_on Held es) (set_on Wanted es) o due

module _ (turn : Turn) (es : Entries) where
  abbrev Due : Object → Type 0
  Due o = is_due turn (set_on Held es) (set_on Wanted es) o ≡ true

  abbrev placed_at : Object → Placed
  placed_at o = record { place = place_of (length es) (set_on Held es) (set_on Wanted es) (plain_call turn o); object = o }

  -- what is due is in a slot
  due_somewhere : (o : Object) → Due o → (k : ℕ) × (due_in turn es k ≡ Some (placed_at o))
  due_somewhere o due =
      let from = in_slot (side_of turn) es o (had_due turn es o due) in (
        from.member.0,
        ap (λ r. due_slot turn es (option_and_then (λ (e : ObjectKey × Slot). on (side_of turn) e.1) r)) (some_at es from.member.0 from.source from.member.1 from.member.2)
            ∙ ap (due_slot turn es) from.gives
            ∙ ap (λ b. if b then Some (placed_at o) else None) due,
      )

  -- a list is filled
  pub record IsFilled (low : ℕ) (ps : List Placed) : Type 0 where
    pub from : (p : Placed) → Contains ps p → (k : ℕ) × (due_in turn es k ≡ Some p)
    pub all : (k : ℕ) (p : Placed) → k < low → due_in turn es k ≡ Some p → Contains ps p

  pub filled_none : (ps : List Placed) → ps ≡ [] → IsFilled 0 ps
  filled_none ps none = record {
    from = λ p member. absurd (none_in_nil p (subst (λ qs. Contains qs p) none member));
    all = λ k p below is. absurd (omega (arith, below));
  }

  pub filled_to : (marks : List ℕ) (low high : ℕ) (ps : List Placed) → AreMarked marks es → NoneBetween marks low high → IsFilled low ps → IsFilled high ps
  filled_to marks low high ps marked none filled = record {
    from = filled.from;
    all = λ k p below is. elim (cases_lt k low) as (λ _. Contains ps p) [
      | inl lower ↦ filled.all k p lower is
      | inr above ↦ absurd (no_due turn es marks marked k p (none k above below) is)
    ];
  }

  pub filled_more : (index : ℕ) (ps next : List Placed) (r : Option Placed) → r ≡ due_in turn es index → next ≡ ps ++ option_to_list r → IsFilled index ps → IsFilled (index + 1) next
  filled_more index ps next r is more filled = record {
    from = λ p member. elim (Contains-append_cases ps (option_to_list r) p (subst (λ qs. Contains qs p) more member)) as (λ _. (k : ℕ) × (due_in turn es k ≡ Some p)) [
      | inl before ↦ filled.from p before
      | inr now ↦ (index, sym is ∙ of_list r p now)
    ];
    all = λ k p below due. subst (λ qs. Contains qs p) (sym more) (elim (cases_eq k index) as (λ _. Contains (ps ++ option_to_list r) p) [
      | inl same ↦ Contains-append_right ps (option_to_list r) p (in_list r p (is ∙ ap (due_in turn es) (sym same) ∙ due))
      | inr other ↦ Contains-append_left ps (option_to_list r) p (filled.all k p (omega (arith, below, other)) due)
    ]);
  }
    where
      of_list : (r : Option Placed) (p : Placed) → Contains (option_to_list r) p → r ≡ Some p
      of_list None p member = absurd (none_in_nil p member)
      of_list (Some q) p member = elim (first_or_later q [] p member) as (λ _. Some q ≡ Some p) [
        | inl same ↦ ap (λ (x : Placed). Some x) same
        | inr none ↦ absurd (none_in_nil p none)
      ]

      in_list : (r : Option Placed) (p : Placed) → r ≡ Some p → Contains (option_to_list r) p
      in_list r p some = subst (λ (x : Option Placed). Contains (option_to_list x) p) (sym some) (here p [])

  pub filled_all : (low : ℕ) (ps : List Placed) → low ≡ length es → IsFilled low ps → HasDue turn es ps
  filled_all low ps all filled = record {
    from = filled.from;
    all = λ k p is. filled.all k p (omega (arith, all, due_within k p is)) is;
  }
    where
      due_within : (k : ℕ) (p : Placed) → due_in turn es k ≡ Some p → k < length es
      due_within k p is = by (slice_get es k) refl is
        where
          by : (r : Option (ObjectKey × Slot)) → slice_get es k ≡ r → due_slot turn es (option_and_then (λ (e : ObjectKey × Slot). on (side_of turn) e.1) r) ≡ Some p → k < length es
          by None at h = absurd (cc h)
          by (Some e) at h = slice_get_within es k e at

  -- it is sorted
  pub listed_due : (ps qs : List Placed) → HasDue turn es ps → IsPermutation ps qs → ComeDown qs → ListsDue turn es qs
  listed_due ps qs has same down = record {
    placed = λ p member due. let at = has.from p (Contains-permutation qs ps p (IsPermutation-sym ps qs same) member) in (due_at_index turn es at.0 p at.1).place;
    all = λ o due. let at = due_somewhere o due in (placed_at o, Contains-permutation ps qs (placed_at o) same (has.all at.0 (placed_at o) at.1), refl);
    down = down;
  }

  -- it is read from the end: none from an index on is due
  abbrev pub NoneDueFrom : List Placed → ℕ → Type 0
  NoneDueFrom ps k = (j : ℕ) (p : Placed) → k ≤ j → slice_get ps j ≡ Some p → Due p.object → ⊥

  pub none_from_end : (ps : List Placed) (k : ℕ) → k ≡ length ps → NoneDueFrom ps k
  none_from_end ps k end j p above at due = let inside = slice_get_within ps j p at in omega (arith, end, above, inside)

  pub none_from_one : (ps : List Placed) (k next : ℕ) (p : Placed) → next ≡ k + 1 → slice_get ps k ≡ Some p → (Due p.object → ⊥) → NoneDueFrom ps next → NoneDueFrom ps k
  none_from_one ps k next p is at none later j q above there due = elim (cases_eq j k) as (λ _. ⊥) [
    | inl same ↦
        let here : slice_get ps k ≡ Some q = ap (slice_get ps) (sym same) ∙ there in
        let one : p ≡ q = cc (at, here) in
        none (subst (λ (x : Placed). Due x.object) (sym one) due)
    | inr other ↦ later j q (omega (arith, is, above, other)) there due
  ]

  module _ (ps : List Placed) (lists : ListsDue turn es ps) where
    listed_at : (o : Object) → Due o → (j : ℕ) × (p : Placed) × (slice_get ps j ≡ Some p) × Contains ps p × (p.object ≡ o)
    listed_at o due =
        let found = lists.all o due in
        let member = found.1 in
        (member.0, found.0, some_at ps member.0 found.0 member.1 member.2, member, found.2)

    pub none_listed_due : NoneDueFrom ps 0 → (o : Object) → Due o → ⊥
    none_listed_due none o due =
        let at = listed_at o due in
        none at.0 at.1 (omega arith) at.2 (subst Due (sym at.4) due)

    module _ (k next : ℕ) (p : Placed) (is_next : next ≡ k + 1) (at : slice_get ps k ≡ Some p) (due : Due p.object) (later : NoneDueFrom ps next) where
      p_member : Contains ps p
      p_member = (k, slice_get_within ps k p at, get_or_from_slice_get ps k p p at)

      not_after : (q : Placed) → IsDueAt turn es q → place_cmp q.place p.place ≡ Less → ⊥
      not_after q is less =
          let found = listed_at q.object is.due in
          let j = found.0 in
          let r = found.1 in
          let object : r.object ≡ q.object = found.4 in
          let due_r : Due r.object = subst Due (sym object) is.due in
          let place : q.place ≡ r.place = is.place ∙ ap (λ o. place_of (length es) (set_on Held es) (set_on Wanted es) (plain_call turn o)) (sym object) ∙ sym (lists.placed r found.3 due_r) in
          let before : place_cmp r.place p.place ≡ Less = ap (λ x. place_cmp x p.place) (sym place) ∙ less in
          elim (cases_lt j k) as (λ _. ⊥) [
            | inl lower ↦ lists.down j k r p lower found.2 at before
            | inr above ↦ elim (cases_eq j k) as (λ _. ⊥) [
              | inl same ↦
                  let there : slice_get ps j ≡ Some p = ap (slice_get ps) same ∙ at in
                  let one : r ≡ p = cc (found.2, there) in
                  let itself : place_cmp p.place p.place ≡ Less = ap (λ (x : Placed). place_cmp x.place p.place) (sym one) ∙ before in
                  let tie = tied_itself places_total p.place in
                  cc (itself, tie)
              | inr other ↦ later j r (omega (arith, is_next, above, other)) found.2 due_r
            ]
          ]

      pub best_of_list : IsBest turn es (length es) (Some p)
      best_of_list = record {
        some = λ q h. let same : p ≡ q = cc h in subst (IsDueAt turn es) same (record { had = had_due turn es p.object due; due = due; place = lists.placed p p_member due });
        least = λ i q below is. record { by = p; is = refl; not_after = not_after q (due_at_index turn es i q is) };
      }

      pub first_of_list : AreSlots es → IsSteady (set_on (side_of turn) es) → IsFirst turn (set_on Held es) (set_on Wanted es) p.object
      first_of_list slots steady = first_is turn es slots steady p best_of_list

  -- its last is taken off, which is not due
  get_front : (ps qs : List Placed) (i : ℕ) (p : Placed) → slice_get ps i ≡ Some p → slice_get (ps ++ qs) i ≡ Some p
  get_front [] qs i p h = absurd (cc h)
  get_front (x ∷ xs) qs zero p h = h
  get_front (x ∷ xs) qs (suc i) p h = get_front xs qs i p h

  last_at : (ps : List Placed) (p : Placed) → slice_get (ps ++ p ∷ []) (length ps) ≡ Some p
  last_at [] p = refl
  last_at (x ∷ xs) p = last_at xs p

  one_longer : (ps : List Placed) (p : Placed) → length (ps ++ p ∷ []) ≡ length ps + 1
  one_longer [] p = refl
  one_longer (x ∷ xs) p = let rest = one_longer xs p in omega (arith, rest)

  last_is : (ps : List Placed) (p : Placed) → slice_get (ps ++ p ∷ []) (length (ps ++ p ∷ []) - 1) ≡ Some p
  last_is ps p = let end : length (ps ++ p ∷ []) - 1 ≡ length ps = omega (arith, one_longer ps p) in ap (slice_get (ps ++ p ∷ [])) end ∙ last_at ps p

  without_last : (qs : List Placed) (r : Option Placed) → ListsDue turn es (qs ++ option_to_list r) → ((p : Placed) → r ≡ Some p → Due p.object → ⊥) → ListsDue turn es qs
  without_last qs r lists none = record {
    placed = λ p member due. lists.placed p (Contains-append_left qs (option_to_list r) p member) due;
    all = λ o due.
        let found = lists.all o due in
        let there : Contains qs found.0 = elim (Contains-append_cases qs (option_to_list r) found.0 found.1) as (λ _. Contains qs found.0) [
          | inl before ↦ before
          | inr last ↦ absurd (is_last r found.0 last none (subst Due (sym found.2) due))
        ] in
        (found.0, there, found.2);
    down = λ i j p q less at there. lists.down i j p q less (get_front qs (option_to_list r) i p at) (get_front qs (option_to_list r) j q there);
  }
    where
      is_last : (r : Option Placed) (p : Placed) → Contains (option_to_list r) p → ((p : Placed) → r ≡ Some p → Due p.object → ⊥) → Due p.object → ⊥
      is_last None p member none due = none_in_nil p member
      is_last (Some q) p member none due = elim (first_or_later q [] p member) as (λ _. ⊥) [
        | inl same ↦ none p (ap (λ (x : Placed). Some x) same) due
        | inr never ↦ none_in_nil p never
      ]

  pub popped : (old new : List Placed) (r : Option Placed) → old ≡ new ++ option_to_list r → ((p : Placed) → slice_get old (length old - 1) ≡ Some p → is_due turn (set_on Held es) (set_on Wanted es) p.object ≡ false) → ListsDue turn es old
      → ListsDue turn es new
  popped old new r is done lists = without_last new r (subst (ListsDue turn es) is lists) (last r is)
    where
      last : (r : Option Placed) → old ≡ new ++ option_to_list r → (p : Placed) → r ≡ Some p → Due p.object → ⊥
      last None is p some due = cc some
      last (Some q) is p some due =
          let same : q ≡ p = cc some in
          let at : slice_get old (length old - 1) ≡ Some q = ap (λ (xs : List Placed). slice_get xs (length xs - 1)) is ∙ last_is new q in
          let off = done p (at ∙ ap (λ (x : Placed). Some x) same) in
          cc (due, off)

-- sorted by a closure that compares the later with the earlier
abbrev pub before : Placed → Placed → Bool
before p q = is_lt (place_cmp q.place p.place)

pub ranked : IsStrictWeakOrder before
ranked = IsStrictWeakOrder-flip (λ p q. is_lt (place_cmp p.place q.place)) (ranks_by places_total (λ (p : Placed). p.place))

pub comes_down : (ps : List Placed) → IsSortedBy before ps → ComeDown ps
comes_down ps sorted i j p q less at there h =
    let far = sorted_far before ranked ps sorted i j p (omega (arith, less)) (slice_get_within ps j q there) in
    let first = get_or_from_slice_get ps i p p at in
    let second = get_or_from_slice_get ps j q p there in
    let off : is_lt (place_cmp p.place q.place) ≡ false = sym (λ k. before (second k) (first k)) ∙ far in
    let on : is_lt (place_cmp p.place q.place) ≡ true = ap is_lt h in
    cc (on, off)

-- The lists go on while calls are made. The slots are as many, and what is wanted is the same.
module _ (es now : Entries) (wanted : set_on Wanted now ≡ set_on Wanted es) (size : length now ≡ length es) where
  same_place : (x : Object) → place_of (length es) (set_on Held es) (set_on Wanted es) (plain_call Puts x) ≡ place_of (length now) (set_on Held now) (set_on Wanted now) (plain_call Puts x)
  same_place x = λ i. record { rank = rank (Put x); height = height_of (sym wanted i) x; line = line_of (Put x) }

  -- the first of the takes was taken
  module _ (o : Object) (held : set_on Held now ≡ set.remove (set_on Held es) o) (steady : IsSteady (set_on Held es)) (first : IsFirst Takes (set_on Held es) (set_on Wanted es) o) where
    still_taken : (x : Object) → is_taken (set_on Held now) (set_on Wanted now) x ≡ true → is_taken (set.remove (set_on Held es) o) (set_on Wanted es) x ≡ true
    still_taken x due = (λ i. is_taken (sym held i) (sym wanted i) x) ∙ due

    still_put : (x : Object) → is_put (set_on Held now) (set_on Wanted now) x ≡ true → is_put (set.remove (set_on Held es) o) (set_on Wanted es) x ≡ true
    still_put x due = (λ i. is_put (sym held i) (sym wanted i) x) ∙ due

    same_take : (x : Object) → height_of (set_on Held es) x ≡ height_of (set_on Held now) x → place_of (length es) (set_on Held es) (set_on Wanted es) (plain_call Takes x)
        ≡ place_of (length now) (set_on Held now) (set_on Wanted now) (plain_call Takes x)
    same_take x high = λ i. record { rank = rank (plain_call Takes x); height = sym size i - high i; line = line_of (plain_call Takes x) }

    pub takes_go_on : (ps : List Placed) → ListsDue Takes es ps → ListsDue Takes now ps
    takes_go_on ps lists = record {
      placed = λ p member due.
          let taken = still_taken p.object due in
          let high = high_still (set_on Held es) (set_on Wanted es) steady o first p.object taken ∙ ap (λ h. height_of h p.object) (sym held) in
          lists.placed p member (was_taken (set_on Held es) (set_on Wanted es) steady o first p.object taken) ∙ same_take p.object high;
      all = λ x due. lists.all x (was_taken (set_on Held es) (set_on Wanted es) steady o first x (still_taken x due));
      down = lists.down;
    }

    pub puts_go_on : (ps : List Placed) → ListsDue Puts es ps → ListsDue Puts now ps
    puts_go_on ps lists = record {
      placed = λ p member due. lists.placed p member (was_put (set_on Held es) (set_on Wanted es) steady o first p.object (still_put p.object due)) ∙ same_place p.object;
      all = λ x due. lists.all x (was_put (set_on Held es) (set_on Wanted es) steady o first x (still_put x due));
      down = lists.down;
    }

  -- a wanted object was put, where none is to be taken
  module _ (o : Object) (held : set_on Held now ≡ after_call (set_on Held es) (Put o)) (steady : IsSteady (set_on Wanted es)) (is : Has (set_on Wanted es) o)
      (done : (x : Object) → is_taken (set_on Held es) (set_on Wanted es) x ≡ true → ⊥) where
    none_now : (x : Object) → is_taken (set_on Held now) (set_on Wanted now) x ≡ true → ⊥
    none_now x taken = still_none_taken (set_on Held es) (set_on Wanted es) steady o is done x ((λ i. is_taken (sym held i) (sym wanted i) x) ∙ taken)

    put_before : (x : Object) → is_put (set_on Held now) (set_on Wanted now) x ≡ true → is_put (set_on Held es) (set_on Wanted es) x ≡ true
    put_before x due = was_to_be_put (set_on Held es) (set_on Wanted es) steady o is done x ((λ i. is_put (sym held i) (sym wanted i) x) ∙ due)

    pub no_takes_left : (ps : List Placed) → ListsDue Takes es ps → ListsDue Takes now ps
    no_takes_left ps lists = record {
      placed = λ p member due. absurd (none_now p.object due);
      all = λ x due. absurd (none_now x due);
      down = lists.down;
    }

    pub puts_left : (ps : List Placed) → ListsDue Puts es ps → ListsDue Puts now ps
    puts_left ps lists = record {
      placed = λ p member due. lists.placed p member (put_before p.object due) ∙ same_place p.object;
      all = λ x due. lists.all x (put_before x due);
      down = lists.down;
    }
