-- What one more object that may be wanted, or that is held, makes of the slots.
use Rattle.std.proofs.Common.{arith, ℕ, zero, suc, ◌≡◌, ◌≤◌, ◌<◌, ◌+◌, ◌⊎◌, ◌↔◌, inl, inr, List, [], ◌∷◌, ◌++◌, map, length, Contains, Option, Some, None, true, refl, ap, sym, subst, ◌∙◌}
use Rattle.std.specs.Prelude.{slice_get, slice_index_or, position, nat_lt}
use Rattle.std.specs.List.{cons_option, IsDistinct}
use Rattle.std.specs.Map.{keys_of}
use Rattle.std.specs.FinSet as set
use Rattle.std.proofs.lemmas.List.Elements.{Contains-push_cases}
use Rattle.std.proofs.lemmas.Option.{slice_get_within}
use Rattle.indexmap.specs.IndexMap.{set_value_at}
use Rattle.kern_model.specs.declared.object.Object.{Object}
use Rattle.kern_model.specs.ObjectOrder.{Objects, Has}
use Rattle.kern_model.specs.Line.{IsPrintable}
use Rattle.kern_calls.specs.Lower.{is_lower}
use Rattle.kern_model.proofs.MemberLemmas.{here, there, map_member, member_of_map}
use Rattle.kern_model.proofs.SetLemmas.{set_of_member, member_of_set, has_itself, has_before, new_or_before, same_members, none_in_empty}
use Rattle.kern_model.proofs.TestLemmas.{true_or_not, false_of_not, below_test, above_test, in_filter_map, from_filter_map}
use Rattle.graph_objects.specs.declared.key.ObjectKey.{ObjectKey}
use Rattle.graph_objects.specs.declared.slot.Wish.{Wish}
use Rattle.graph_objects.specs.declared.slot.Slot.{Slot}
use Rattle.graph_objects.specs.declared.slot.Side.{Side}
use Rattle.graph_objects.specs.declared.slot.Side.TheVariants.{Held, Wanted}
use Rattle.graph_objects.specs.Keys.{key_of}
use Rattle.graph_objects.specs.Steady.{IsGrounded}
use Rattle.graph_objects.specs.Slots.{on, Entries, listed, set_on, wishes, wished_set, IsAt, IsSlot, AreSlots}
use Rattle.graph_objects.specs.Grown.{empty_slot, HasSlot, HasMore, CanExpect, CanKeep, with_held}
use Rattle.graph_objects.proofs.SteadyLemmas.{grounded_within}
use Rattle.graph_objects.proofs.KeyLemmas.{key_eq, key_same, key_itself}
use Rattle.graph_objects.proofs.SlotLemmas.{in_slot, of_slot, entry_at, one_at}
use Rattle.graph_objects.proofs.ChangeLemmas.{after, before, written, at_place, wishes_stay}

-- an empty slot at the end
pub last_there : (es : Entries) (e : ObjectKey × Slot) → slice_get (es ++ e ∷ []) (length es) ≡ Some e
last_there [] e = refl
last_there (x ∷ xs) e = last_there xs e

pub listed_more : (side : Side) (es : Entries) (key : ObjectKey) → listed side (es ++ (key, empty_slot) ∷ []) ≡ listed side es
listed_more Held [] key = refl
listed_more Wanted [] key = refl
listed_more side (e ∷ es) key = ap (cons_option (on side e.1)) (listed_more side es key)

wishes_more : (es : Entries) (key : ObjectKey) → wishes (es ++ (key, empty_slot) ∷ []) ≡ wishes es
wishes_more [] key = refl
wishes_more (e ∷ es) key = ap (cons_option e.1.wish) (wishes_more es key)

-- the slot at a place, by its value
pub same_slot : (es : Entries) (i : ℕ) (key : ObjectKey) (t s : Slot) → slice_get es i ≡ Some (key, t) → slice_get (map (λ (e : ObjectKey × Slot). e.1) es) i ≡ Some s → slice_get es i ≡ Some (key, s)
same_slot [] i key t s h g = cc h
same_slot (e ∷ es) zero key t s h g =
    let is : e ≡ (key, t) = cc h in
    let slot : e.1 ≡ s = cc g in
    ap (λ (x : Slot). Some (e.0, x)) slot ∙ ap (λ (k : ObjectKey). Some (k, s)) (ap (λ (y : ObjectKey × Slot). y.0) is)
same_slot (e ∷ es) (suc i) key t s h g = same_slot es i key t s h g

-- a slot is there already, or is the last
value_there : (xs : List Slot) (i : ℕ) → i < length xs → (s : Slot) × (slice_get xs i ≡ Some s)
value_there [] i h = absurd (omega arith)
value_there (x ∷ xs) zero h = (x, refl)
value_there (x ∷ xs) (suc i) h = value_there xs i (omega arith)

as_many_values : (es : Entries) → length (map (λ (e : ObjectKey × Slot). e.1) es) ≡ length es
as_many_values [] = refl
as_many_values (e ∷ es) = ap suc (as_many_values es)

pub has_there : (es : Entries) (key : ObjectKey) (index : ℕ) → Some index ≡ position (key_eq key) (keys_of es) → index < length es → HasSlot es es key index
has_there es key index at inside =
    let many = as_many_values es in
    let found = value_there (map (λ (e : ObjectKey × Slot). e.1) es) index (omega arith) in
    record { slot = found.0; there = entry_at key_eq key_same key_itself key es index found.0 (sym at) found.1; more = inl refl }

pub has_more : (old new : Entries) (key : ObjectKey) (index : ℕ) → new ≡ old ++ (key, empty_slot) ∷ [] → index ≡ length old → HasSlot old new key index
has_more old new key index is last =
    record { slot = empty_slot; there = (λ j. slice_get (is j) (last j)) ∙ last_there old (key, empty_slot); more = inr is }

pub within : (es : Entries) (i : ℕ) (e : ObjectKey × Slot) → slice_get es i ≡ Some e → i < length es
within es i e h = slice_get_within es i e h

pub one_slot_more : (old new : Entries) (key : ObjectKey) (index : ℕ) → HasSlot old new key index → length new ≤ length old + 1
one_slot_more old new key index has = elim has.more as (λ _. length new ≤ length old + 1) [
  | inl is ↦ omega (arith, ap length is)
  | inr more ↦ omega (arith, ap length more, one_longer old (key, empty_slot))
]
  where
    one_longer : (es : Entries) (e : ObjectKey × Slot) → length (es ++ e ∷ []) ≡ length es + 1
    one_longer [] e = refl
    one_longer (x ∷ xs) e = let rest = one_longer xs e in omega (arith, rest)

empty_is : (key : ObjectKey) → IsSlot (key, empty_slot)
empty_is key = record { held = λ o none. cc none; wish = λ w none. cc none }

-- with a slot made where there was none, all is as it was
module _ (old new : Entries) (key : ObjectKey) (index : ℕ) (has : HasSlot old new key index) where
  pub same_held : set_on Held new ≡ set_on Held old
  same_held = elim has.more as (λ _. set_on Held new ≡ set_on Held old) [
    | inl is ↦ ap (set_on Held) is
    | inr more ↦ ap (set_on Held) more ∙ ap set.from_list (listed_more Held old key)
  ]

  pub same_listed : listed Held new ≡ listed Held old
  same_listed = elim has.more as (λ _. listed Held new ≡ listed Held old) [
    | inl is ↦ ap (listed Held) is
    | inr more ↦ ap (listed Held) more ∙ listed_more Held old key
  ]

  pub same_wishes : wishes new ≡ wishes old
  same_wishes = elim has.more as (λ _. wishes new ≡ wishes old) [
    | inl is ↦ ap wishes is
    | inr more ↦ ap wishes more ∙ wishes_more old key
  ]

  pub same_slots : AreSlots old → AreSlots new
  same_slots slots = elim has.more as (λ _. AreSlots new) [
    | inl is ↦ subst AreSlots (sym is) slots
    | inr more ↦ record {
      each = λ e member. elim (Contains-push_cases old (key, empty_slot) e (subst (λ es. Contains es e) more member)) as (λ _. IsSlot e) [
        | inl was ↦ slots.each e was
        | inr is ↦ subst IsSlot is (empty_is key)
      ];
      held = subst IsGrounded (sym same_held) slots.held;
      wishes = subst (λ ws. IsGrounded (wished_set ws)) (sym same_wishes) slots.wishes;
    }
  ]

held_stays : (es : Entries) (i : ℕ) (key : ObjectKey) (s w : Slot) → slice_get es i ≡ Some (key, s) → w.held ≡ s.held → listed Held (set_value_at es i w) ≡ listed Held es
held_stays [] i key s w at same = refl
held_stays (x ∷ xs) zero key s w at same = let is : x ≡ (key, s) = cc at in ap (λ r. cons_option r (listed Held xs)) (same ∙ ap (λ (e : ObjectKey × Slot). e.1.held) (sym is))
held_stays (x ∷ xs) (suc i) key s w at same = ap (cons_option x.1.held) (held_stays xs i key s w at same)

module _ (es : Entries) (slots : AreSlots es) (i : ℕ) (key : ObjectKey) (s : Slot) (at : slice_get es i ≡ Some (key, s)) where
  -- an object may be wanted
  module _ (wish : Wish) (place : key ≡ key_of wish.object) (lower : is_lower wish.object ≡ true) (fit : IsPrintable wish.object)
      (apart : (w : Wish) → Contains (wishes es) w → key_of w.object ≡ key_of wish.object → w ≡ wish)
      (grounded : IsGrounded (wished_set (wish ∷ wishes es))) where
    abbrev now : Entries
    now = set_value_at es i (record s { wish = Some wish })

    pub wish_listed : listed Held now ≡ listed Held es
    wish_listed = held_stays es i key s (record s { wish = Some wish }) at refl

    wish_held : set_on Held now ≡ set_on Held es
    wish_held = ap set.from_list wish_listed

    wish_new : (w : Wish) → Contains (wishes now) w → Contains (wishes es) w ⊎ (w ≡ wish)
    wish_new w member =
        let from = from_filter_map (λ (e : ObjectKey × Slot). e.1.wish) now w member in
        elim (after es i key s (record s { wish = Some wish }) at from.source from.member) as (λ _. Contains (wishes es) w ⊎ (w ≡ wish)) [
          | inl was ↦ inl (in_filter_map (λ (e : ObjectKey × Slot). e.1.wish) es from.source w was from.gives)
          | inr is ↦ let one : Some wish ≡ Some w = ap (λ (e : ObjectKey × Slot). e.1.wish) is ∙ from.gives in let same : w ≡ wish = cc one in inr same
        ]

    wish_there : Contains (wishes now) wish
    wish_there = in_filter_map (λ (e : ObjectKey × Slot). e.1.wish) now (key, record s { wish = Some wish }) wish (written es i key s (record s { wish = Some wish }) at) refl

    wish_old : (w : Wish) → Contains (wishes es) w → Contains (wishes now) w
    wish_old w member =
        let from = from_filter_map (λ (e : ObjectKey × Slot). e.1.wish) es w member in
        elim (before es i key s (record s { wish = Some wish }) at from.source from.member) as (λ _. Contains (wishes now) w) [
          | inl stays ↦ in_filter_map (λ (e : ObjectKey × Slot). e.1.wish) now from.source w stays from.gives
          | inr is ↦
              let mine : s.wish ≡ Some w = ap (λ (e : ObjectKey × Slot). e.1.wish) is ∙ from.gives in
              let keys = ((slots.each (key, s) (at_place es i (key, s) at)).wish w mine).key ∙ place in
              subst (Contains (wishes now)) (sym (apart w member keys)) wish_there
        ]

    pub wish_more : HasMore (wishes es) (wishes now) wish
    wish_more w = (wish_new w, λ h. elim h as (λ _. Contains (wishes now) w) [ inl was ↦ wish_old w was | inr is ↦ subst (Contains (wishes now)) (sym is) wish_there ])

    wish_within : (x : Object) → Has (wished_set (wishes now)) x → Has (wished_set (wish ∷ wishes es)) x
    wish_within x h =
        let from = member_of_map (λ (w : Wish). w.object) (wishes now) x (member_of_set (map (λ (w : Wish). w.object) (wishes now)) x h) in
        let all : List Wish = wish ∷ wishes es in
        let member : Contains all from.source = elim (wish_new from.source from.member) as (λ _. Contains all from.source) [ inl was ↦ there wish (wishes es) from.source was | inr is ↦ subst (Contains all) (sym is) (here wish (wishes es)) ]
        in
        set_of_member (map (λ (w : Wish). w.object) all) x (subst (Contains (map (λ (w : Wish). w.object) all)) from.same (map_member (λ (w : Wish). w.object) all from.source member))

    pub wish_slots : AreSlots now
    wish_slots = record {
      each = λ e member. elim (after es i key s (record s { wish = Some wish }) at e member) as (λ _. IsSlot e) [
        | inl was ↦ slots.each e was
        | inr is ↦ subst IsSlot is (record {
          held = (slots.each (key, s) (at_place es i (key, s) at)).held;
          wish = λ w one. let same : wish ≡ w = cc one in subst (λ (u : Wish). IsAt key u.object) same (record { key = sym place; lower = lower; fit = fit });
        })
      ];
      held = subst IsGrounded (sym wish_held) slots.held;
      wishes = grounded_within (wished_set (wishes now)) (wished_set (wish ∷ wishes es)) wish_within grounded;
    }

  -- an object is held from before
  module _ (o : Object) (place : key ≡ key_of o) (lower : is_lower o ≡ true) (fit : IsPrintable o)
      (apart : (x : Object) → Has (set_on Held es) x → key_of x ≡ key_of o → x ≡ o)
      (grounded : IsGrounded (set.insert (set_on Held es) o)) where
    abbrev kept : Entries
    kept = set_value_at es i (record s { held = Some o })

    pub keep_wishes : wishes kept ≡ wishes es
    keep_wishes = wishes_stay es i key s (record s { held = Some o }) at refl

    keep_there : Has (set_on Held kept) o
    keep_there = of_slot Held kept (key, record s { held = Some o }) o (written es i key s (record s { held = Some o }) at) refl

    pub keep_held : set_on Held kept ≡ set.insert (set_on Held es) o
    keep_held = same_members (set_on Held kept) (set.insert (set_on Held es) o)
        (λ x h.
        let from = in_slot Held kept x h in
        elim (after es i key s (record s { held = Some o }) at from.source from.member) as (λ _. Has (set.insert (set_on Held es) o) x) [
          | inl was ↦ has_before (set_on Held es) o x (of_slot Held es from.source x was from.gives)
          | inr is ↦ let one : Some o ≡ Some x = ap (λ (e : ObjectKey × Slot). e.1.held) is ∙ from.gives in let same : o ≡ x = cc one in subst (Has (set.insert (set_on Held es) o)) same (has_itself (set_on Held es) o)
        ])
        (λ x h. elim (new_or_before (set_on Held es) o x h) as (λ _. Has (set_on Held kept) x) [
          | inl is ↦ subst (Has (set_on Held kept)) (sym is) keep_there
          | inr was ↦
              let from = in_slot Held es x was in
              elim (before es i key s (record s { held = Some o }) at from.source from.member) as (λ _. Has (set_on Held kept) x) [
                | inl stays ↦ of_slot Held kept from.source x stays from.gives
                | inr is ↦
                    let mine : s.held ≡ Some x = ap (λ (e : ObjectKey × Slot). e.1.held) is ∙ from.gives in
                    let keys = ((slots.each (key, s) (at_place es i (key, s) at)).held x mine).key ∙ place in
                    subst (Has (set_on Held kept)) (sym (apart x was keys)) keep_there
              ]
        ])

    pub keep_slots : AreSlots kept
    keep_slots = record {
      each = λ e member. elim (after es i key s (record s { held = Some o }) at e member) as (λ _. IsSlot e) [
        | inl was ↦ slots.each e was
        | inr is ↦ subst IsSlot is (record {
          held = λ x one. let same : o ≡ x = cc one in subst (IsAt key) same (record { key = sym place; lower = lower; fit = fit });
          wish = (slots.each (key, s) (at_place es i (key, s) at)).wish;
        })
      ];
      held = subst IsGrounded (sym keep_held) grounded;
      wishes = subst (λ ws. IsGrounded (wished_set ws)) (sym keep_wishes) slots.wishes;
    }

-- a wish, and an object that is held from before, in the slot that was made for them
module _ (old new : Entries) (key : ObjectKey) (index : ℕ) (has : HasSlot old new key index) (slots : AreSlots old) (s : Slot) (at : slice_get (map (λ (e : ObjectKey × Slot). e.1) new) index ≡ Some s) where
  there_now : slice_get new index ≡ Some (key, s)
  there_now = same_slot new index key has.slot s has.there at

  slots_now : AreSlots new
  slots_now = same_slots old new key index has slots

  module _ (wish : Wish) (place : key ≡ key_of wish.object) (fits : CanExpect (wishes old) wish) (fit : IsPrintable wish.object) where
    apart_now : (w : Wish) → Contains (wishes new) w → key_of w.object ≡ key_of wish.object → w ≡ wish
    apart_now = subst (λ (ws : List Wish). (w : Wish) → Contains ws w → key_of w.object ≡ key_of wish.object → w ≡ wish) (sym (same_wishes old new key index has)) fits.apart

    grounded_now : IsGrounded (wished_set (wish ∷ wishes new))
    grounded_now = subst (λ (ws : List Wish). IsGrounded (wished_set (wish ∷ ws))) (sym (same_wishes old new key index has)) fits.grounded

    pub expected_slots : AreSlots (set_value_at new index (record s { wish = Some wish }))
    expected_slots = wish_slots new slots_now index key s there_now wish place fits.lower fit apart_now grounded_now

    pub expected_held : listed Held (set_value_at new index (record s { wish = Some wish })) ≡ listed Held old
    expected_held = wish_listed new slots_now index key s there_now wish place fits.lower fit apart_now grounded_now ∙ same_listed old new key index has

    pub expected_more : HasMore (wishes old) (wishes (set_value_at new index (record s { wish = Some wish }))) wish
    expected_more = subst (λ (ws : List Wish). HasMore ws (wishes (set_value_at new index (record s { wish = Some wish }))) wish) (same_wishes old new key index has)
        (wish_more new slots_now index key s there_now wish place fits.lower fit apart_now grounded_now)

  module _ (o : Object) (place : key ≡ key_of o) (fits : CanKeep (set_on Held old) o) (fit : IsPrintable o) where
    apart_kept : (x : Object) → Has (set_on Held new) x → key_of x ≡ key_of o → x ≡ o
    apart_kept = subst (λ (held : Objects). (x : Object) → Has held x → key_of x ≡ key_of o → x ≡ o) (sym (same_held old new key index has)) fits.apart

    grounded_kept : IsGrounded (set.insert (set_on Held new) o)
    grounded_kept = subst (λ (held : Objects). IsGrounded (set.insert held o)) (sym (same_held old new key index has)) fits.grounded

    pub kept_slots : AreSlots (set_value_at new index (record s { held = Some o }))
    kept_slots = keep_slots new slots_now index key s there_now o place fits.lower fit apart_kept grounded_kept

    pub kept_held : set_on Held (set_value_at new index (record s { held = Some o })) ≡ set.insert (set_on Held old) o
    kept_held = keep_held new slots_now index key s there_now o place fits.lower fit apart_kept grounded_kept ∙ ap (λ held. set.insert held o) (same_held old new key index has)

    pub kept_wishes : wishes (set_value_at new index (record s { held = Some o })) ≡ wishes old
    kept_wishes = keep_wishes new slots_now index key s there_now o place fits.lower fit apart_kept grounded_kept ∙ same_wishes old new key index has

-- a member is read at its place
slice_at : (es : Entries) (k : ℕ) (e : ObjectKey × Slot) → k < length es → slice_index_or es k e ≡ e → slice_get es k ≡ Some e
slice_at [] k e h is = absurd (omega arith)
slice_at (x ∷ xs) zero e h is = ap Some is
slice_at (x ∷ xs) (suc k) e h is = slice_at xs k e (omega arith) is

-- what the first slots hold
pub record HeldBefore (es : Entries) (n : ℕ) (x : Object) : Type 0 where
  pub index : ℕ
  pub entry : ObjectKey × Slot
  pub before : index < n
  pub at : slice_get es index ≡ Some entry
  pub held : entry.1.held ≡ Some x

-- as much is held as the first slots of the others hold
abbrev pub HoldsFirst : Entries → Entries → ℕ → Type 0
HoldsFirst now es n = (x : Object) → Has (set_on Held now) x ↔ HeldBefore es n x

pub holds_none : (now es : Entries) → set_on Held now ≡ set.empty → HoldsFirst now es 0
holds_none now es none x = (λ h. absurd (none_in_empty x (subst (λ s. Has s x) none h)), λ h. let never = h.before in absurd (omega arith))

pub value_of_entry : (es : Entries) (i : ℕ) (s : Slot) → slice_get (map (λ (e : ObjectKey × Slot). e.1) es) i ≡ Some s → (k : ObjectKey) × (slice_get es i ≡ Some (k, s))
value_of_entry [] i s h = absurd (cc h)
value_of_entry (e ∷ es) zero s h = let is : e.1 ≡ s = cc h in (e.0, ap (λ (x : Slot). Some (e.0, x)) is)
value_of_entry (e ∷ es) (suc i) s h = value_of_entry es i s h

module _ (es : Entries) (slots : AreSlots es) (once : IsDistinct key_eq (keys_of es)) (now : Entries) (i : ℕ) (so_far : HoldsFirst now es i) (s : Slot) (at : slice_get (map (λ (e : ObjectKey × Slot). e.1) es) i ≡ Some s) where
  held_of_first : (n : ℕ) (x : Object) → HeldBefore es n x → Has (set_on Held es) x
  held_of_first n x h = of_slot Held es h.entry x (at_place es h.index h.entry h.at) h.held

  pub can_keep : (o : Object) → s.held ≡ Some o → CanKeep (set_on Held now) o
  can_keep o is =
      let there = value_of_entry es i s at in
      let had = of_slot Held es (there.0, s) o (at_place es i (there.0, s) there.1) is in
      record {
        lower = ((slots.each (there.0, s) (at_place es i (there.0, s) there.1)).held o is).lower;
        apart = λ x h key. one_at key_eq key_same key_itself es slots.each once Held x o (held_of_first i x ((so_far x).0 h)) had key;
        grounded = grounded_within (set.insert (set_on Held now) o) (set_on Held es) (λ x h. elim (new_or_before (set_on Held now) o x h) as (λ _. Has (set_on Held es) x) [
          | inl same ↦ subst (Has (set_on Held es)) (sym same) had
          | inr before ↦ held_of_first i x ((so_far x).0 before)
        ]) slots.held;
      }

  -- one more slot's object is held
  pub holds_more : (next : Entries) → set_on Held next ≡ with_held (set_on Held now) s.held → HoldsFirst next es (i + 1)
  holds_more next is x = (λ h. to s.held refl (subst (λ t. Has t x) is h), back)
    where
      later : HeldBefore es i x → HeldBefore es (i + 1) x
      later h = let before = h.before in record { index = h.index; entry = h.entry; before = omega arith; at = h.at; held = h.held }

      to : (r : Option Object) → s.held ≡ r → Has (with_held (set_on Held now) r) x → HeldBefore es (i + 1) x
      to None none h = later ((so_far x).0 h)
      to (Some o) some h = elim (new_or_before (set_on Held now) o x h) as (λ _. HeldBefore es (i + 1) x) [
        | inl same ↦ let there = value_of_entry es i s at in record { index = i; entry = (there.0, s); before = omega arith; at = there.1; held = some ∙ ap Some (sym same) }
        | inr before ↦ later ((so_far x).0 before)
      ]

      more_than : (r : Option Object) → Has (set_on Held now) x → Has (with_held (set_on Held now) r) x
      more_than None h = h
      more_than (Some o) h = has_before (set_on Held now) o x h

      this : (e : ObjectKey × Slot) → slice_get es i ≡ Some e → e.1.held ≡ Some x → Has (with_held (set_on Held now) s.held) x
      this e here held =
          let there = value_of_entry es i s at in
          let one : e ≡ (there.0, s) = cc (here, there.1) in
          let mine : s.held ≡ Some x = ap (λ (y : ObjectKey × Slot). y.1.held) (sym one) ∙ held in
          subst (λ r. Has (with_held (set_on Held now) r) x) (sym mine) (has_itself (set_on Held now) x)

      back : HeldBefore es (i + 1) x → Has (set_on Held next) x
      back h = subst (λ t. Has t x) (sym is) (elim (true_or_not (nat_lt h.index i)) as (λ _. Has (with_held (set_on Held now) s.held) x) [
        | inl below ↦ more_than s.held ((so_far x).1 (record { index = h.index; entry = h.entry; before = below_test h.index i below; at = h.at; held = h.held }))
        | inr other ↦
            let up = above_test h.index i (false_of_not (nat_lt h.index i) other) in
            let before = h.before in
            let same : h.index ≡ i = omega arith in
            this h.entry (ap (slice_get es) (sym same) ∙ h.at) h.held
      ])

pub holds_all : (now es : Entries) (n : ℕ) → n ≡ length es → HoldsFirst now es n → set_on Held now ≡ set_on Held es
holds_all now es n all so_far = same_members (set_on Held now) (set_on Held es)
    (λ x h. let first = (so_far x).0 h in of_slot Held es first.entry x (at_place es first.index first.entry first.at) first.held)
    (λ x h.
    let from = in_slot Held es x h in
    let inside = from.member.1 in
    (so_far x).1 (record { index = from.member.0; entry = from.source; before = omega arith; at = slice_at es from.member.0 from.source inside from.member.2; held = from.gives }))
