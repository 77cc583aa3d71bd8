-- Slots that are written one after another.
use Rattle.std.proofs.Common.{add-one, ℕ, zero, suc, ◌≡◌, ◌+◌, ◌⊎◌, inl, inr, List, [], ◌∷◌, map, length, Contains, Option, Some, None, true, false, Bool, refl, ap, sym, subst, ◌∙◌}
use Rattle.std.specs.Prelude.{slice_get, not, if◌then◌else◌}
use Rattle.std.specs.List.{cons_option}
use Rattle.std.specs.Option.{option_map, option_and_then}
use Rattle.std.specs.FinSet as set
use Rattle.indexmap.specs.IndexMap.{set_value_at}
use Rattle.kern_model.specs.declared.object.Object.{Object}
use Rattle.kern_model.specs.ObjectOrder.{Objects, Has}
use Rattle.kern_model.specs.Standing.{stands_on, gone}
use Rattle.kern_model.proofs.MemberLemmas.{here, there, first_or_later, none_in_nil, map_member, member_of_map}
use Rattle.kern_model.proofs.SetLemmas.{has_retained, of_retained, same_members}
use Rattle.graph_objects.specs.declared.key.ObjectKey.{ObjectKey}
use Rattle.graph_objects.specs.declared.slot.Wish.{Wish}
use Rattle.graph_objects.specs.declared.slot.Slot.{Slot}
use Rattle.graph_objects.specs.declared.slot.Side.{Side}
use Rattle.graph_objects.specs.declared.slot.Side.TheVariants.{Held, Wanted}
use Rattle.graph_objects.specs.Steady.{IsGrounded}
use Rattle.graph_objects.specs.Slots.{on, wished, Entries, listed, set_on, wishes, wished_set, IsAt, IsSlot, AreSlots}
use Rattle.graph_objects.specs.Marks.{judged}
use Rattle.graph_objects.specs.Decided.{is_decided, judged_by}
use Rattle.graph_objects.specs.Changed.{each_slot, first_slots, leaves_with, marked, let_go, judged_slot, judged_slot_by}
use Rattle.graph_objects.proofs.SteadyLemmas.{grounded_within}
use Rattle.graph_objects.proofs.SlotLemmas.{in_slot, of_slot}

module _ (f : Slot → Slot) where
  pub none_written : (es : Entries) → first_slots f es 0 ≡ es
  none_written [] = refl
  none_written (e ∷ es) = refl

  pub one_written : (es : Entries) (i : ℕ) (s : Slot) → slice_get (map (λ e. e.1) (first_slots f es i)) i ≡ Some s → set_value_at (first_slots f es i) i (f s) ≡ first_slots f es (suc i)
  one_written [] i s at = cc at
  one_written (e ∷ es) zero s at = let same : e.1 ≡ s = cc at in ap (λ (x : Slot). (e.0, f x) ∷ es) (sym same) ∙ ap (λ (xs : Entries). (e.0, f e.1) ∷ xs) (sym (none_written es))
  one_written (e ∷ es) (suc i) s at = ap (λ (xs : Entries). (e.0, f e.1) ∷ xs) (one_written es i s at)

  pub more_written : (es now : Entries) (i : ℕ) (t w : Slot) → now ≡ first_slots f es i → slice_get (map (λ (e : ObjectKey × Slot). e.1) now) i ≡ Some t → w ≡ f t → set_value_at now i w ≡ first_slots f es (i + 1)
  more_written es now i t w is at made = rw add-one ((λ j. set_value_at (is j) i (made j)) ∙ one_written es i t (subst (λ (xs : Entries). slice_get (map (λ (e : ObjectKey × Slot). e.1) xs) i ≡ Some t) is at))

  pub all_written : (es : Entries) → first_slots f es (length es) ≡ each_slot f es
  all_written [] = refl
  all_written (e ∷ es) = ap (λ (xs : Entries). (e.0, f e.1) ∷ xs) (all_written es)

  pub as_many : (es : Entries) (i : ℕ) → length (first_slots f es i) ≡ length es
  as_many [] i = refl
  as_many (e ∷ es) zero = refl
  as_many (e ∷ es) (suc i) = ap suc (as_many es i)

  -- a slot is as it was, or as it is made
  pub record Written (es : Entries) (e : ObjectKey × Slot) : Type 0 where
    pub was : ObjectKey × Slot
    pub member : Contains es was
    pub key : was.0 ≡ e.0
    pub slot : (was.1 ≡ e.1) ⊎ (f was.1 ≡ e.1)

  later_written : (x : ObjectKey × Slot) (xs : Entries) (e : ObjectKey × Slot) → Written xs e → Written (x ∷ xs) e
  later_written x xs e w = record { was = w.was; member = there x xs w.was w.member; key = w.key; slot = w.slot }

  pub from_written : (es : Entries) (i : ℕ) (e : ObjectKey × Slot) → Contains (first_slots f es i) e → Written es e
  from_written [] i e member = absurd (none_in_nil e member)
  from_written (x ∷ xs) zero e member = record { was = e; member = member; key = refl; slot = inl refl }
  from_written (x ∷ xs) (suc i) e member = elim (first_or_later (x.0, f x.1) (first_slots f xs i) e member) as (λ _. Written (x ∷ xs) e) [
    | inl is ↦ record { was = x; member = here x xs; key = ap (λ (y : ObjectKey × Slot). y.0) is; slot = inr (ap (λ (y : ObjectKey × Slot). y.1) is) }
    | inr later ↦ later_written x xs e (from_written xs i e later)
  ]

  -- where what is held and what may be wanted stays in each slot, it stays in all
  module _ (held_stays : (s : Slot) → (f s).held ≡ s.held) (wish_stays : (s : Slot) → (f s).wish ≡ s.wish) where
    pub on_stays : (side : Side) (s : Slot) → on side (f s) ≡ on side s
    on_stays Held s = held_stays s
    on_stays Wanted s = ap (option_and_then wished) (wish_stays s)

    pub listed_stays : (side : Side) (es : Entries) (i : ℕ) → listed side (first_slots f es i) ≡ listed side es
    listed_stays side [] i = refl
    listed_stays side (e ∷ es) zero = refl
    listed_stays side (e ∷ es) (suc i) = ap (λ r. cons_option r (listed side (first_slots f es i))) (on_stays side e.1) ∙ ap (cons_option (on side e.1)) (listed_stays side es i)

    pub wishes_stay : (es : Entries) (i : ℕ) → wishes (first_slots f es i) ≡ wishes es
    wishes_stay [] i = refl
    wishes_stay (e ∷ es) zero = refl
    wishes_stay (e ∷ es) (suc i) = ap (λ r. cons_option r (wishes (first_slots f es i))) (wish_stays e.1) ∙ ap (cons_option e.1.wish) (wishes_stay es i)

    slot_stays : (key : ObjectKey) (s t : Slot) → (s ≡ t) ⊎ (f s ≡ t) → IsSlot (key, s) → IsSlot (key, t)
    slot_stays key s t same is = elim same as (λ _. IsSlot (key, t)) [
      | inl one ↦ subst (λ u. IsSlot (key, u)) one is
      | inr made ↦ subst (λ u. IsSlot (key, u)) made (record { held = λ o h. is.held o (sym (held_stays s) ∙ h); wish = λ w h. is.wish w (sym (wish_stays s) ∙ h) })
    ]

    pub slots_stay : (es : Entries) (i : ℕ) → AreSlots es → AreSlots (first_slots f es i)
    slots_stay es i slots = record {
      each = λ e member. let w = from_written es i e member in subst (λ k. IsSlot (k, e.1)) w.key (slot_stays w.was.0 w.was.1 e.1 w.slot (slots.each w.was w.member));
      held = subst (λ xs. IsGrounded (set.from_list xs)) (sym (listed_stays Held es i)) slots.held;
      wishes = subst (λ ws. IsGrounded (wished_set ws)) (sym (wishes_stay es i)) slots.wishes;
    }

-- what leaves with a name
module _ (es : Entries) (name : List ℕ) where
  abbrev held : Objects
  held = set_on Held es

  abbrev after : Entries
  after = each_slot let_go (each_slot (marked held name) es)

  gone_slot : (s : Slot) (b : Bool) → leaves_with held name s.held ≡ b → (o : Object) → (let_go (marked held name s)).held ≡ Some o → (s.held ≡ Some o) × (b ≡ false)
  gone_slot s true is o h = let none : None ≡ Some o = sym (ap (λ b. (if b then record s { held = None; leaves = b } else record s { leaves = b }).held) is) ∙ h in absurd (cc none)
  gone_slot s false is o h = (sym (ap (λ b. (if b then record s { held = None; leaves = b } else record s { leaves = b }).held) is) ∙ h, refl)

  kept_slot : (s : Slot) (o : Object) → s.held ≡ Some o → stands_on held name o ≡ false → (let_go (marked held name s)).held ≡ Some o
  kept_slot s o h stays =
      let off : leaves_with held name s.held ≡ false = ap (leaves_with held name) h ∙ stays in
      ap (λ b. (if b then record s { held = None; leaves = b } else record s { leaves = b }).held) off ∙ h

  held_of_gone : (x : Object) → Has (set_on Held after) x → Has (gone held name) x
  held_of_gone x h =
      let from = in_slot Held after x h in
      let second = member_of_map (λ (e : ObjectKey × Slot). (e.0, let_go e.1)) (each_slot (marked held name) es) from.source from.member in
      let first = member_of_map (λ (e : ObjectKey × Slot). (e.0, marked held name e.1)) es second.source second.member in
      let now : (let_go (marked held name first.source.1)).held ≡ Some x = ap (λ (e : ObjectKey × Slot). (let_go e.1).held) first.same ∙ ap (λ (e : ObjectKey × Slot). e.1.held) second.same ∙ from.gives in
      let was = gone_slot first.source.1 (leaves_with held name first.source.1.held) refl x now in
      has_retained held (λ o. not (stands_on held name o)) x (of_slot Held es first.source x first.member was.0)
      (ap not (ap (leaves_with held name) (sym was.0) ∙ was.1))

  gone_to_held : (x : Object) → Has (gone held name) x → Has (set_on Held after) x
  gone_to_held x h =
      let was = of_retained held (λ o. not (stands_on held name o)) x h in
      let from = in_slot Held es x was.0 in
      of_slot Held after (from.source.0, let_go (marked held name from.source.1)) x
      (map_member (λ (e : ObjectKey × Slot). (e.0, let_go e.1)) (each_slot (marked held name) es) (from.source.0, marked held name from.source.1)
      (map_member (λ (e : ObjectKey × Slot). (e.0, marked held name e.1)) es from.source from.member))
      (kept_slot from.source.1 x from.gives (false_of_not_true (stands_on held name x) was.1))
    where
      false_of_not_true : (b : Bool) → not b ≡ true → b ≡ false
      false_of_not_true true h = sym h
      false_of_not_true false h = refl

  pub gone_held : set_on Held after ≡ gone held name
  gone_held = same_members (set_on Held after) (gone held name) held_of_gone gone_to_held

-- one more slot is marked
pub more_marked : (es now : Entries) (name : List ℕ) (i : ℕ) (s t : Slot) (r : Bool) → now ≡ first_slots (marked (set_on Held es) name) es i
    → slice_get (map (λ (e : ObjectKey × Slot). e.1) now) i ≡ Some t → slice_get (map (λ (e : ObjectKey × Slot). e.1) now) i ≡ Some s → r ≡ leaves_with (set_on Held now) name t.held
    → set_value_at now i (record s { leaves = r }) ≡ first_slots (marked (set_on Held es) name) es (i + 1)
more_marked es now name i s t r is at also told =
    let same : s ≡ t = cc (at, also) in
    let stays : set_on Held now ≡ set_on Held es = ap (set_on Held) is ∙ ap set.from_list (listed_stays (marked (set_on Held es) name) (λ s. refl) (λ s. refl) Held es i) in
    more_written (marked (set_on Held es) name) es now i t (record s { leaves = r }) is at
    (ap (λ (y : Slot). record y { leaves = r }) same ∙ ap (λ b. record t { leaves = b }) (told ∙ ap (λ h. leaves_with h name t.held) stays))

pub more_slots : (es now : Entries) (name : List ℕ) (i : ℕ) → AreSlots es → now ≡ first_slots (marked (set_on Held es) name) es i → AreSlots now
more_slots es now name i slots is = subst AreSlots (sym is) (slots_stay (marked (set_on Held es) name) (λ s. refl) (λ s. refl) es i slots)

-- all slots are marked
pub marked_slots : (es : Entries) (name : List ℕ) → AreSlots es → AreSlots (each_slot (marked (set_on Held es) name) es)
marked_slots es name slots = subst AreSlots (all_written (marked (set_on Held es) name) es) (more_slots es (first_slots (marked (set_on Held es) name) es (length es)) name (length es) slots refl)

-- what is marked is let go: the slots stay slots
pub let_go_wish : (s : Slot) → (let_go s).wish ≡ s.wish
let_go_wish s = by s.leaves refl
  where
    by : (b : Bool) → s.leaves ≡ b → (if b then record s { held = None } else s).wish ≡ s.wish
    by true is = refl
    by false is = refl

pub let_go_held : (s : Slot) (o : Object) → (let_go s).held ≡ Some o → s.held ≡ Some o
let_go_held s o h = by s.leaves h
  where
    by : (b : Bool) → (if b then record s { held = None } else s).held ≡ Some o → s.held ≡ Some o
    by true none = cc none
    by false is = is

go_wishes : (es : Entries) → wishes (each_slot let_go es) ≡ wishes es
go_wishes [] = refl
go_wishes (e ∷ es) = ap (λ r. cons_option r (wishes (each_slot let_go es))) (let_go_wish e.1) ∙ ap (cons_option e.1.wish) (go_wishes es)

pub go_slots : (es : Entries) → AreSlots es → AreSlots (each_slot let_go es)
go_slots es slots = record {
  each = λ e member.
      let from = member_of_map (λ (e : ObjectKey × Slot). (e.0, let_go e.1)) es e member in
      let was = slots.each from.source from.member in
      subst IsSlot from.same (record { held = λ o h. was.held o (let_go_held from.source.1 o h); wish = λ w h. was.wish w (sym (let_go_wish from.source.1) ∙ h) });
  held = grounded_within (set_on Held (each_slot let_go es)) (set_on Held es) (λ x h.
      let from = in_slot Held (each_slot let_go es) x h in
      let was = member_of_map (λ (e : ObjectKey × Slot). (e.0, let_go e.1)) es from.source from.member in
      of_slot Held es was.source x was.member (let_go_held was.source.1 x (ap (λ (e : ObjectKey × Slot). e.1.held) was.same ∙ from.gives))) slots.held;
  wishes = subst (λ ws. IsGrounded (wished_set ws)) (sym (go_wishes es)) slots.wishes;
}

pub gone_wishes : (es : Entries) (name : List ℕ) → wishes (each_slot let_go (each_slot (marked (set_on Held es) name) es)) ≡ wishes es
gone_wishes es name =
    go_wishes (each_slot (marked (set_on Held es) name) es)
    ∙ ap wishes (sym (all_written (marked (set_on Held es) name) es))
    ∙ wishes_stay (marked (set_on Held es) name) (λ s. refl) (λ s. refl) es (length es)

-- what may be wanted is judged, and its objects stay
module _ (g : Wish → Wish) (objects : (w : Wish) → (g w).object ≡ w.object) where
  abbrev with_wish : Slot → Slot
  with_wish s = record s { wish = option_map g s.wish }

  pub changed_wishes : (es : Entries) → wishes (each_slot with_wish es) ≡ map g (wishes es)
  changed_wishes [] = refl
  changed_wishes (e ∷ es) = by (changed_wishes es) e.1.wish
    where
      by : wishes (each_slot with_wish es) ≡ map g (wishes es) → (r : Option Wish) → cons_option (option_map g r) (wishes (each_slot with_wish es)) ≡ map g (cons_option r (wishes es))
      by rest None = rest
      by rest (Some w) = ap (λ (ws : List Wish). g w ∷ ws) rest

  pub changed_held : (es : Entries) → listed Held (each_slot with_wish es) ≡ listed Held es
  changed_held [] = refl
  changed_held (e ∷ es) = ap (cons_option e.1.held) (changed_held es)

  same_objects : (ws : List Wish) → map (λ (w : Wish). w.object) (map g ws) ≡ map (λ (w : Wish). w.object) ws
  same_objects [] = refl
  same_objects (w ∷ ws) = λ i. objects w i ∷ same_objects ws i

  changed_wish : (key : ObjectKey) (r : Option Wish) → ((w : Wish) → r ≡ Some w → IsAt key w.object) → (w : Wish) → option_map g r ≡ Some w → IsAt key w.object
  changed_wish key None is w h = cc h
  changed_wish key (Some v) is w h = let same : g v ≡ w = cc h in subst (IsAt key) (sym (objects v) ∙ ap (λ (u : Wish). u.object) same) (is v refl)

  pub changed_slots : (es : Entries) → AreSlots es → AreSlots (each_slot with_wish es)
  changed_slots es slots = record {
    each = λ e member.
        let from = member_of_map (λ (e : ObjectKey × Slot). (e.0, with_wish e.1)) es e member in
        let was = slots.each from.source from.member in
        subst IsSlot from.same (record { held = was.held; wish = changed_wish from.source.0 from.source.1.wish was.wish });
    held = subst (λ xs. IsGrounded (set.from_list xs)) (sym (changed_held es)) slots.held;
    wishes = subst (λ os. IsGrounded (set.from_list os)) (sym (ap (map (λ (w : Wish). w.object)) (changed_wishes es) ∙ same_objects (wishes es))) slots.wishes;
  }

-- by the use of names
module _ (used : List Bool) where
  pub more_judged : (es now : Entries) (i : ℕ) (s t : Slot) (r : Option Wish) → now ≡ first_slots (judged_slot used) es i
      → slice_get (map (λ (e : ObjectKey × Slot). e.1) now) i ≡ Some t → slice_get (map (λ (e : ObjectKey × Slot). e.1) now) i ≡ Some s → r ≡ (judged_slot used t).wish
      → set_value_at now i (record s { wish = r }) ≡ first_slots (judged_slot used) es (i + 1)
  more_judged es now i s t r is at also told =
      let same : s ≡ t = cc (at, also) in
      more_written (judged_slot used) es now i t (record s { wish = r }) is at (ap (λ (y : Slot). record y { wish = r }) same ∙ ap (λ (w : Option Wish). record t { wish = w }) told)

  pub judged_wishes : (es : Entries) → wishes (each_slot (judged_slot used) es) ≡ map (judged used) (wishes es)
  judged_wishes es = changed_wishes (judged used) (λ w. refl) es

  pub judged_held : (es : Entries) → listed Held (each_slot (judged_slot used) es) ≡ listed Held es
  judged_held es = changed_held (judged used) (λ w. refl) es

  pub judged_slots : (es : Entries) → AreSlots es → AreSlots (each_slot (judged_slot used) es)
  judged_slots es slots = changed_slots (judged used) (λ w. refl) es slots

  -- and by some ids
  module _ (ids : List ℕ) where
    same_object : (w : Wish) (b : Bool) → (if b then judged used w else w).object ≡ w.object
    same_object w true = refl
    same_object w false = refl

    pub decided_object : (w : Wish) → (judged_by used ids w).object ≡ w.object
    decided_object w = same_object w (is_decided ids w)

    pub decided_wishes : (es : Entries) → wishes (each_slot (judged_slot_by used ids) es) ≡ map (judged_by used ids) (wishes es)
    decided_wishes es = changed_wishes (judged_by used ids) decided_object es

    pub decided_held : (es : Entries) → listed Held (each_slot (judged_slot_by used ids) es) ≡ listed Held es
    decided_held es = changed_held (judged_by used ids) decided_object es

    pub decided_slots : (es : Entries) → AreSlots es → AreSlots (each_slot (judged_slot_by used ids) es)
    decided_slots es slots = changed_slots (judged_by used ids) decided_object es slots
