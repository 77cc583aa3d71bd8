-- The first of a turn is found by going over the slots once.
use Rattle.std.proofs.Common.{arith, ℕ, ◌≡◌, ◌≤◌, ◌<◌, ◌+◌, ◌-◌, map, zero, suc, inl, inr, ◌⊎◌, List, [], ◌∷◌, length, slice_index_or, Option, Some, None, true, false, Bool, refl, ap, sym, subst, ◌∙◌}
use Rattle.std.specs.Prelude.{slice_get, nat_lt, if◌then◌else◌}
use Rattle.std.specs.Option.{option_and_then}
use Rattle.std.specs.Ordering.{nat_cmp, ordering_then, is_lt}
use Rattle.std.specs.declared.cmp.Ordering.{Ordering}
use Rattle.std.specs.declared.cmp.Ordering.TheVariants.{Less, Equal, Greater}
use Rattle.std.specs.Cmp.{IsTotalOrder, tied_itself, nat_cmp_total}
use Rattle.std.specs.Cmp.Lexicographic.{slice_cmp, nat_list_cmp_total}
use Rattle.std.specs.FinSet as set
use Rattle.std.proofs.lemmas.Cmp.{on_total, then_total}
use Rattle.std.proofs.lemmas.Option.{slice_get_within, get_or_from_slice_get}
use Rattle.std.proofs.lemmas.Map.Lookups.{exact_bytes}
use Rattle.kern_model.specs.declared.object.Object.{Object}
use Rattle.kern_model.specs.declared.object.Call.TheVariants.{Put}
use Rattle.kern_model.specs.ObjectOrder.{Objects, Has}
use Rattle.kern_model.specs.Kernel.{Devices}
use Rattle.kern_model.specs.Line.{line_of, IsPrintable}
use Rattle.kern_model.specs.CallOrder.{rank, height_of, height_place, call_cmp}
use Rattle.kern_model.proofs.OrderLemmas.{tied_of_equal, calls_total}
use Rattle.kern_model.proofs.TestLemmas.{true_or_not, false_of_not, below_test, above_test}
use Rattle.kern_model.proofs.TouchLemmas.{taken_held, put_wanted}
use Rattle.kern_calls.specs.Between.{height_number}
use Rattle.kern_calls.proofs.AlikeLemmas.{left_alike}
use Rattle.kern_calls.proofs.GoOnLemmas.{low_enough}
use Rattle.graph_objects.specs.declared.key.ObjectKey.{ObjectKey}
use Rattle.graph_objects.specs.declared.slot.Slot.{Slot}
use Rattle.graph_objects.specs.declared.slot.Side.{Side}
use Rattle.graph_objects.specs.declared.slot.Side.TheVariants.{Held, Wanted}
use Rattle.graph_objects.specs.declared.turn.Turn.{Turn}
use Rattle.graph_objects.specs.declared.turn.Turn.TheVariants.{Takes, Puts}
use Rattle.graph_objects.specs.declared.turn.Placed.{Placed}
use Rattle.graph_objects.specs.Keys.{key_of}
use Rattle.graph_objects.specs.Steady.{IsSteady}
use Rattle.graph_objects.specs.Slots.{on, Entries, set_on, AreSlots}
use Rattle.graph_objects.specs.Turns.{side_of, is_due, call_in, IsFirst}
use Rattle.graph_objects.specs.Places.{plain_call, height_number_of, place_of, place_cmp, sooner, due_slot, due_in}
use Rattle.graph_objects.proofs.LineLemmas.{key_of_put, key_of_take, takes_alike}
use Rattle.graph_objects.proofs.SlotLemmas.{in_slot, of_slot, is_at, size_on, value_on}

pub places_total : IsTotalOrder place_cmp
places_total = then_total (on_total (λ p. p.rank) nat_cmp_total) (then_total (on_total (λ p. p.height) nat_cmp_total) (on_total (λ p. p.line) nat_list_cmp_total))

-- the best so far is not after another
pub record IsNotAfter (best : Option Placed) (q : Placed) : Type 0 where
  pub by : Placed
  pub is : best ≡ Some by
  pub not_after : place_cmp q.place by.place ≡ Less → ⊥

not_after_itself : (p : Placed) → IsNotAfter (Some p) p
not_after_itself p = record { by = p; is = refl; not_after = λ less. let tie = tied_itself places_total p.place in cc (less, tie) }

-- the sooner of two is not after either
module _ (a b q : Placed) where
  sooner_than_earlier : (r : Ordering) → place_cmp b.place a.place ≡ r → (place_cmp q.place a.place ≡ Less → ⊥) → IsNotAfter (if is_lt r then Some b else Some a) q
  sooner_than_earlier Less is apart = record { by = b; is = refl; not_after = λ less. apart (places_total.trans q.place b.place a.place less is) }
  sooner_than_earlier Equal is apart = record { by = a; is = refl; not_after = apart }
  sooner_than_earlier Greater is apart = record { by = a; is = refl; not_after = apart }

sooner_than_later : (a b : Placed) (r : Ordering) → place_cmp b.place a.place ≡ r → IsNotAfter (if is_lt r then Some b else Some a) b
sooner_than_later a b Less is = not_after_itself b
sooner_than_later a b Equal is = record { by = a; is = refl; not_after = λ less. cc (less, is) }
sooner_than_later a b Greater is = record { by = a; is = refl; not_after = λ less. cc (less, is) }

still_first : (best later : Option Placed) (q : Placed) → IsNotAfter best q → IsNotAfter (sooner best later) q
still_first None later q h = let none = h.is in cc none
still_first (Some a) None q h = h
still_first (Some a) (Some b) q h =
    let same : a ≡ h.by = cc h.is in
    sooner_than_earlier a b q (place_cmp b.place a.place) refl (subst (λ (p : Placed). place_cmp q.place p.place ≡ Less → ⊥) (sym same) h.not_after)

first_of_later : (best later : Option Placed) (q : Placed) → later ≡ Some q → IsNotAfter (sooner best later) q
first_of_later best None q h = cc h
first_of_later None (Some b) q h = let same : b ≡ q = cc h in subst (IsNotAfter (Some b)) same (not_after_itself b)
first_of_later (Some a) (Some b) q h = let same : b ≡ q = cc h in subst (IsNotAfter (sooner (Some a) (Some b))) same (sooner_than_later a b (place_cmp b.place a.place) refl)

one_of_both : (best later : Option Placed) (p : Placed) → sooner best later ≡ Some p → (best ≡ Some p) ⊎ (later ≡ Some p)
one_of_both None later p h = inr h
one_of_both (Some a) None p h = inl h
one_of_both (Some a) (Some b) p h = by (place_cmp b.place a.place) h
  where
    by : (r : Ordering) → (if is_lt r then Some b else Some a) ≡ Some p → (Some a ≡ Some p) ⊎ (Some b ≡ Some p)
    by Less h = inr h
    by Equal h = inl h
    by Greater h = inl h

-- an object that is due, at its place
pub record IsDueAt (turn : Turn) (es : Entries) (p : Placed) : Type 0 where
  pub had : Has (set_on (side_of turn) es) p.object
  pub due : is_due turn (set_on Held es) (set_on Wanted es) p.object ≡ true
  pub place : p.place ≡ place_of (length es) (set_on Held es) (set_on Wanted es) (plain_call turn p.object)

-- the best of the slots so far
pub record IsBest (turn : Turn) (es : Entries) (index : ℕ) (best : Option Placed) : Type 0 where
  pub some : (p : Placed) → best ≡ Some p → IsDueAt turn es p
  pub least : (k : ℕ) (q : Placed) → k < index → due_in turn es k ≡ Some q → IsNotAfter best q

pub best_at_first : (turn : Turn) (es : Entries) → IsBest turn es 0 None
best_at_first turn es = record { some = λ p h. cc h; least = λ k q h is. absurd (omega arith) }

module _ (turn : Turn) (es : Entries) where
  due_here : (o : Object) (b : Bool) → is_due turn (set_on Held es) (set_on Wanted es) o ≡ b → Has (set_on (side_of turn) es) o → (p : Placed) → due_slot turn es (Some o) ≡ Some p → IsDueAt turn es p
  due_here o true is had p h =
      let found : Some (record { place = place_of (length es) (set_on Held es) (set_on Wanted es) (plain_call turn o); object = o }) ≡ Some p =
      sym (ap (λ b. if b then Some (record { place = place_of (length es) (set_on Held es) (set_on Wanted es) (plain_call turn o); object = o }) else None) is) ∙ h in
      let same : record { place = place_of (length es) (set_on Held es) (set_on Wanted es) (plain_call turn o); object = o } ≡ p = cc found in
      subst (IsDueAt turn es) same (record { had = had; due = is; place = refl })
  due_here o false is had p h =
      let none : None ≡ Some p = sym (ap (λ b. if b then Some (record { place = place_of (length es) (set_on Held es) (set_on Wanted es) (plain_call turn o); object = o }) else None) is) ∙ h in
      cc none

  due_of_slot : (r : Option Object) → ((o : Object) → r ≡ Some o → Has (set_on (side_of turn) es) o) → (p : Placed) → due_slot turn es r ≡ Some p → IsDueAt turn es p
  due_of_slot None had p h = cc h
  due_of_slot (Some o) had p h = due_here o (is_due turn (set_on Held es) (set_on Wanted es) o) refl (had o refl) p h

  in_set : (index : ℕ) (o : Object) → option_and_then (λ (e : ObjectKey × Slot). on (side_of turn) e.1) (slice_get es index) ≡ Some o → Has (set_on (side_of turn) es) o
  in_set index o h = by (slice_get es index) refl h
    where
      by : (r : Option (ObjectKey × Slot)) → slice_get es index ≡ r → option_and_then (λ (e : ObjectKey × Slot). on (side_of turn) e.1) r ≡ Some o → Has (set_on (side_of turn) es) o
      by None is h = cc h
      by (Some e) is h = of_slot (side_of turn) es e o (index, slice_get_within es index e is, get_or_from_slice_get es index e e is) h

  pub due_at_index : (index : ℕ) (p : Placed) → due_in turn es index ≡ Some p → IsDueAt turn es p
  due_at_index index p h = due_of_slot (option_and_then (λ e. on (side_of turn) e.1) (slice_get es index)) (in_set index) p h

  pub best_of_more : (index : ℕ) (best : Option Placed) → IsBest turn es index best → IsBest turn es (index + 1) (sooner best (due_in turn es index))
  best_of_more index best so_far = record {
    some = λ p h. elim (one_of_both best (due_in turn es index) p h) as (λ _. IsDueAt turn es p) [
      | inl before ↦ so_far.some p before
      | inr now ↦ due_of_slot (option_and_then (λ e. on (side_of turn) e.1) (slice_get es index)) (in_set index) p now
    ];
    least = λ k q h is. by k q h is;
  }
    where
      before_or_now : (k : ℕ) → k < index + 1 → (k < index) ⊎ (k ≡ index)
      before_or_now k h = elim (true_or_not (nat_lt k index)) as (λ _. (k < index) ⊎ (k ≡ index)) [
        | inl is ↦ inl (below_test k index is)
        | inr other ↦ let up = above_test k index (false_of_not (nat_lt k index) other) in inr (omega arith)
      ]

      by : (k : ℕ) (q : Placed) → k < index + 1 → due_in turn es k ≡ Some q → IsNotAfter (sooner best (due_in turn es index)) q
      by k q h is = elim (before_or_now k h) as (λ _. IsNotAfter (sooner best (due_in turn es index)) q) [
        | inl before ↦ still_first best (due_in turn es index) q (so_far.least k q before is)
        | inr now ↦ first_of_later best (due_in turn es index) q (ap (due_in turn es) (sym now) ∙ is)
      ]

  -- what is in the slot at an index
  module _ (side : Side) (index : ℕ) (s : Slot) (same : side ≡ side_of turn) (at : slice_get (map (λ (e : ObjectKey × Slot). e.1) es) index ≡ Some s) where
    is_there : (r : Option Object) → r ≡ on side s → option_and_then (λ (e : ObjectKey × Slot). on (side_of turn) e.1) (slice_get es index) ≡ r
    is_there r is = value_on (side_of turn) es index s at ∙ subst (λ d. on d s ≡ r) same (sym is)

    pub due_none : None ≡ on side s → None ≡ due_in turn es index
    due_none none = sym (ap (due_slot turn es) (is_there None none))

    module _ (o : Object) (some : Some o ≡ on side s) (b : Bool) (told : Has (set_on (side_of turn) es) o → b ≡ is_due turn (set_on Held es) (set_on Wanted es) o) where
      due_is : is_due turn (set_on Held es) (set_on Wanted es) o ≡ b
      due_is = sym (told (in_set index o (is_there (Some o) some)))

      pub due_not : b ≡ false → None ≡ due_in turn es index
      due_not is = sym (ap (due_slot turn es) (is_there (Some o) some) ∙ ap (λ b. if b then Some (record { place = place_of (length es) (set_on Held es) (set_on Wanted es) (plain_call turn o); object = o }) else None) (due_is ∙ is))

      pub due_some : (p : Placed) → p.object ≡ o → p.place ≡ place_of (length es) (set_on Held es) (set_on Wanted es) (plain_call turn o) → b ≡ true → Some p ≡ due_in turn es index
      due_some p object place is =
          let found : due_in turn es index ≡ Some (record { place = place_of (length es) (set_on Held es) (set_on Wanted es) (plain_call turn o); object = o }) =
          ap (due_slot turn es) (is_there (Some o) some) ∙ ap (λ b. if b then Some (record { place = place_of (length es) (set_on Held es) (set_on Wanted es) (plain_call turn o); object = o }) else None) (due_is ∙ is) in
          (λ j. Some (record { place = place j; object = object j })) ∙ sym found

-- heights and their numbers
pub number_is : (turn : Turn) (es : Entries) (o : Object) (h : ℕ) → h ≡ height_of (set_on (side_of turn) es) o → height_number_of turn (length es) h ≡ height_number (length es) (set_on Held es) (set_on Wanted es) (plain_call turn o)
number_is Takes es o h is = ap (λ x. length es - x) is
number_is Puts es o h is = is

-- an item is read at its place
pub some_at : {X : Type 0} (xs : List X) (k : ℕ) (x : X) → k < length xs → slice_index_or xs k x ≡ x → slice_get xs k ≡ Some x
some_at [] k x h is = absurd (omega arith)
some_at (y ∷ ys) zero x h is = ap Some is
some_at (y ∷ ys) (suc k) x h is = some_at ys k x (omega arith) is

-- what is less by rank, height and line is less by the numbers and lines that are compared
then_less : (r h s k h' s' : Ordering) → h ≡ h' → (r ≡ Equal → s ≡ s') → (s' ≡ Equal → ⊥) → ordering_then r (ordering_then h (ordering_then s k)) ≡ Less → ordering_then r (ordering_then h' s') ≡ Less
then_less Less h s k h' s' same alike apart less = refl
then_less Equal h s k h' s' same alike apart less = ap (λ x. ordering_then x s') (sym same) ∙ next h s s' (alike refl) apart less
  where
    last : (s s' : Ordering) → s ≡ s' → (s' ≡ Equal → ⊥) → ordering_then s k ≡ Less → s' ≡ Less
    last Less s' alike apart less = sym alike
    last Equal s' alike apart less = absurd (apart (sym alike))
    last Greater s' alike apart less = cc less

    next : (h s s' : Ordering) → s ≡ s' → (s' ≡ Equal → ⊥) → ordering_then h (ordering_then s k) ≡ Less → ordering_then h s' ≡ Less
    next Less s s' alike apart less = refl
    next Equal s s' alike apart less = last s s' alike apart less
    next Greater s s' alike apart less = cc less
then_less Greater h s k h' s' same alike apart less = cc less

module _ (most : ℕ) (held wanted : Objects) (few : set.len held ≤ most) (devices : Devices) where
  -- a call that comes before another has a place before
  pub place_before : (turn : Turn) (a o : Object) → IsPrintable a → IsPrintable o → (key_of a ≡ key_of o → a ≡ o) → call_cmp held wanted (call_in devices turn a) (call_in devices turn o) ≡ Less
      → place_cmp (place_of most held wanted (plain_call turn a)) (place_of most held wanted (plain_call turn o)) ≡ Less
  place_before Takes a o p q one less =
      then_less (nat_cmp (rank (plain_call Takes a)) (rank (plain_call Takes o)))
      (nat_cmp (height_place held wanted (call_in devices Takes a)) (height_place held wanted (call_in devices Takes o)))
      (slice_cmp nat_cmp (line_of (call_in devices Takes a)) (line_of (call_in devices Takes o))) _
      (nat_cmp (height_number most held wanted (plain_call Takes a)) (height_number most held wanted (plain_call Takes o)))
      (slice_cmp nat_cmp (line_of (plain_call Takes a)) (line_of (plain_call Takes o)))
      heights lines apart less
    where
      heights : nat_cmp (height_place held wanted (call_in devices Takes a)) (height_place held wanted (call_in devices Takes o))
          ≡ nat_cmp (height_number most held wanted (plain_call Takes a)) (height_number most held wanted (plain_call Takes o))
      heights =
          let low_a = low_enough held a in
          let low_o = low_enough held o in
          left_alike (set.len held) most (height_of held a) (height_of held o) low_a low_o (omega arith) (omega arith)

      apart : slice_cmp nat_cmp (line_of (plain_call Takes a)) (line_of (plain_call Takes o)) ≡ Equal → ⊥
      apart tie =
          let same = one (key_of_take a o _ p q (exact_bytes (line_of (plain_call Takes a)) (line_of (plain_call Takes o)) tie)) in
          let itself = subst (λ x. call_cmp held wanted (call_in devices Takes x) (call_in devices Takes o) ≡ Less) same less in
          let equal = tied_itself (calls_total held wanted) (call_in devices Takes o) in
          cc (itself, equal)

      lines : nat_cmp (rank (plain_call Takes a)) (rank (plain_call Takes o)) ≡ Equal → slice_cmp nat_cmp (line_of (call_in devices Takes a)) (line_of (call_in devices Takes o))
          ≡ slice_cmp nat_cmp (line_of (plain_call Takes a)) (line_of (plain_call Takes o))
      lines tie = takes_alike a o _ _ 0 0 _ _ _ _ p q (tied_of_equal (rank (plain_call Takes a)) (rank (plain_call Takes o)) tie)
          (λ key. apart (ap (λ x. slice_cmp nat_cmp (line_of (plain_call Takes x)) (line_of (plain_call Takes o))) (one key) ∙ tied_itself nat_list_cmp_total (line_of (plain_call Takes o))))
  place_before Puts a o p q one less =
      then_less (nat_cmp (rank (Put a)) (rank (Put o)))
      (nat_cmp (height_of wanted a) (height_of wanted o))
      (slice_cmp nat_cmp (line_of (Put a)) (line_of (Put o))) _
      (nat_cmp (height_of wanted a) (height_of wanted o))
      (slice_cmp nat_cmp (line_of (Put a)) (line_of (Put o)))
      refl (λ tie. refl) apart less
    where
      apart : slice_cmp nat_cmp (line_of (Put a)) (line_of (Put o)) ≡ Equal → ⊥
      apart tie =
          let same = one (key_of_put a o p q (exact_bytes (line_of (Put a)) (line_of (Put o)) tie)) in
          let itself = subst (λ x. call_cmp held wanted (Put x) (Put o) ≡ Less) same less in
          let equal = tied_itself (calls_total held wanted) (Put o) in
          cc (itself, equal)

module _ (turn : Turn) (es : Entries) (slots : AreSlots es) (steady : IsSteady (set_on (side_of turn) es)) where
  had_of_due : (t : Turn) (o : Object) → is_due t (set_on Held es) (set_on Wanted es) o ≡ true → Has (set_on (side_of t) es) o
  had_of_due Takes o due = taken_held (set_on Held es) (set_on Wanted es) o due
  had_of_due Puts o due = put_wanted (set_on Held es) (set_on Wanted es) o due

  due_there : (o : Object) (best : Option Placed) → IsBest turn es (length es) best → is_due turn (set_on Held es) (set_on Wanted es) o ≡ true
      → IsNotAfter best (record { place = place_of (length es) (set_on Held es) (set_on Wanted es) (plain_call turn o); object = o })
  due_there o best so_far due =
      let from = in_slot (side_of turn) es o (had_of_due turn o due) in
      so_far.least from.member.0 _ from.member.1
      (ap (λ r. due_slot turn es (option_and_then (λ (e : ObjectKey × Slot). on (side_of turn) e.1) r)) (some_at es from.member.0 from.source from.member.1 from.member.2)
      ∙ ap (due_slot turn es) from.gives
      ∙ ap (λ b. if b then Some (record { place = place_of (length es) (set_on Held es) (set_on Wanted es) (plain_call turn o); object = o }) else None) due)

  pub none_due : IsBest turn es (length es) None → (o : Object) → is_due turn (set_on Held es) (set_on Wanted es) o ≡ true → ⊥
  none_due so_far o due = let by = due_there o None so_far due in let none = by.is in cc none

  pub first_is : (best : Placed) → IsBest turn es (length es) (Some best) → IsFirst turn (set_on Held es) (set_on Wanted es) best.object
  first_is best so_far =
      let here = so_far.some best refl in
      record {
        due = here.due;
        first = λ devices other due less.
            let by = due_there other (Some best) so_far due in
            let same : best ≡ by.by = cc by.is in
            let had = had_of_due turn other due in
            let a = is_at (side_of turn) es slots other had (key_of other) refl in
            let o = is_at (side_of turn) es slots best.object here.had (key_of best.object) refl in
            let size = size_on Held es in
            let before = place_before (length es) (set_on Held es) (set_on Wanted es) size devices turn other best.object a.fit o.fit (λ key. steady.one other best.object had here.had key) less in
            by.not_after (subst (λ (p : Placed). place_cmp (place_of (length es) (set_on Held es) (set_on Wanted es) (plain_call turn other)) p.place ≡ Less) same
            (subst (λ p. place_cmp (place_of (length es) (set_on Held es) (set_on Wanted es) (plain_call turn other)) p ≡ Less) (sym here.place) before));
      }
