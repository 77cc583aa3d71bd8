-- Marks where some ids alone are judged: what stands on links that are wanted does not come to fall.
use Rattle.std.proofs.Common.{arith, ℕ, ◌≡◌, ◌⊎◌, inl, inr, List, [], map, length, Contains, Option, Some, None, true, false, Bool, Vec, refl, ap, sym, subst, ◌∙◌}
use Rattle.std.specs.Prelude.{slice_get, cond, if◌then◌else◌}
use Rattle.std.specs.declared.alloc.Global.{Global}
use Rattle.std.specs.List.{filter_map}
use Rattle.std.specs.Option.{option_map}
use Rattle.std.specs.FinSet as set
use Rattle.std.proofs.lemmas.Bool.{cases_eq}
use Rattle.std.proofs.lemmas.List.{length-map}
use Rattle.std.proofs.lemmas.Option.{slice_get-map}
use Rattle.kern_model.specs.declared.object.LinkKind.{LinkKind}
use Rattle.kern_model.specs.declared.object.LinkKind.TheVariants.{Vlan}
use Rattle.kern_model.specs.declared.object.Object.{Object}
use Rattle.kern_model.specs.declared.object.Object.TheVariants.{Link}
use Rattle.kern_model.specs.ObjectOrder.{Objects, Has}
use Rattle.kern_model.specs.Standing.{places_of, IsOver}
use Rattle.kern_model.specs.Touched.{loses_link, is_on_taken}
use Rattle.kern_model.proofs.MemberLemmas.{here, map_member}
use Rattle.kern_model.proofs.SetLemmas.{set_of_member, member_of_set}
use Rattle.kern_model.proofs.StandingLemmas.{over_itself, over_lower}
use Rattle.kern_model.proofs.TestLemmas.{true_or_not, from_any, in_filter_map, from_filter_map}
use Rattle.kern_model.proofs.TouchLemmas.{loses_link_of, loses_link_with, loses_link_above, on_taken_at}
use Rattle.kern_model.proofs.GoneLemmas.{is_over_of_test}
use Rattle.graph_objects.specs.declared.key.ObjectKey.{ObjectKey}
use Rattle.graph_objects.specs.declared.slot.Wish.{Wish}
use Rattle.graph_objects.specs.declared.slot.Slot.{Slot}
use Rattle.graph_objects.specs.declared.slot.Side.TheVariants.{Held, Wanted}
use Rattle.graph_objects.specs.Slots.{wished, Entries, set_on, wishes}
use Rattle.graph_objects.specs.Bits.{bit, IsPut}
use Rattle.graph_objects.specs.Decided.{judged_by, StandOnWanted}
use Rattle.graph_objects.specs.Deciders.{deciders, AreListed, IsListed}
use Rattle.graph_objects.specs.Changed.{each_slot, judged_slot_by}
use Rattle.graph_objects.specs.Marked.{differs, AreMarked, IsMarkedAt, MarkSome}
use Rattle.graph_objects.proofs.SlotLemmas.{of_slot, wanted_listed}
use Rattle.graph_objects.proofs.ChangeLemmas.{at_place}
use Rattle.graph_objects.proofs.EachLemmas.{decided_object, decided_wishes, decided_held}
use Rattle.graph_objects.proofs.DeciderLemmas.{off_slot}
use Rattle.graph_objects.proofs.MarkedLemmas.{not_apart, value_is}

-- some slots are marked one after another
module _ (es : Entries) where
  pub none_marked_yet : (marks : List ℕ) (IsOne : ℕ → Type 0) → ((i : ℕ) → IsOne i → ⊥) → MarkSome es marks marks IsOne
  none_marked_yet marks IsOne none = record { size = refl; each = λ i. inr (none i, refl) }

  marked_on : (mid new : List ℕ) (i : ℕ) → bit new i ≡ bit mid i → IsMarkedAt mid es i → IsMarkedAt new es i
  marked_on mid new i same is = record { differing = λ e at h. same ∙ is.differing e at h; falling = λ e o at held h. same ∙ is.falling e o at held h }

  pub marked_then : (old mid new : List ℕ) (IsFirst IsSecond IsOne : ℕ → Type 0) → MarkSome es old mid IsFirst → MarkSome es mid new IsSecond → ((i : ℕ) → IsOne i → IsFirst i ⊎ IsSecond i) → MarkSome es old new IsOne
  marked_then old mid new IsFirst IsSecond IsOne first second split = record {
    size = second.size ∙ first.size;
    each = λ i. elim (second.each i) as (λ _. IsMarkedAt new es i ⊎ ((IsOne i → ⊥) × (bit new i ≡ bit old i))) [
      | inl right ↦ inl right
      | inr stays ↦ elim (first.each i) as (λ _. IsMarkedAt new es i ⊎ ((IsOne i → ⊥) × (bit new i ≡ bit old i))) [
        | inl right ↦ inl (marked_on mid new i stays.1 right)
        | inr before ↦ inr ((λ one. elim (split i one) as (λ _. ⊥) [ inl a ↦ before.0 a | inr b ↦ stays.0 b ]), stays.1 ∙ before.1)
      ]
    ];
  }

  pub one_marked : (old new : List ℕ) (index : ℕ) (s : Slot) (b : Bool) → IsPut old new index b → slice_get (map (λ (e : ObjectKey × Slot). e.1) es) index ≡ Some s
      → (differs s ≡ true → b ≡ true) → ((o : Object) → s.held ≡ Some o → is_on_taken (set_on Held es) (set_on Wanted es) o ≡ true → b ≡ true) → MarkSome es old new (λ i. i ≡ index)
  one_marked old new index s b put at differing falling = record {
    size = put.size;
    each = λ i. elim (cases_eq i index) as (λ _. IsMarkedAt new es i ⊎ ((i ≡ index → ⊥) × (bit new i ≡ bit old i))) [
      | inr other ↦ inr (other, put.others i other)
      | inl same ↦
          let slot : (e : ObjectKey × Slot) → slice_get es i ≡ Some e → s ≡ e.1 = λ e there. value_is es index s e at (ap (slice_get es) (sym same) ∙ there) in
          let is : b ≡ true → bit new i ≡ 1 = λ h. ap (bit new) same ∙ put.here ∙ ap (λ t. if t then 1 else 0) h in
          inl (record {
            differing = λ e there h. is (differing (ap differs (slot e there) ∙ h));
            falling = λ e o there held h. is (falling o (ap (λ (t : Slot). t.held) (slot e there) ∙ held) h);
          })
    ];
  }

-- what is wanted is the object of a wish that is wanted
record IsWantedBy (ws : List Wish) (x : Object) : Type 0 where
  by : Wish
  member : Contains ws by
  wanted : by.wanted ≡ true
  object : by.object ≡ x

by_wish : (w : Wish) (x : Object) (b : Bool) → cond b (Some w.object) None ≡ Some x → (b ≡ true) × (w.object ≡ x)
by_wish w x true h = (refl, cc h)
by_wish w x false h = absurd (cc h)

wanted_by : (es : Entries) (x : Object) → Has (set_on Wanted es) x → IsWantedBy (wishes es) x
wanted_by es x h =
    let from = from_filter_map wished (wishes es) x (member_of_set (filter_map wished (wishes es)) x (subst (λ (xs : List Object). Has (set.from_list xs) x) (sym (wanted_listed es)) h)) in
    let is = by_wish from.source x from.source.wanted from.gives in
    record { by = from.source; member = from.member; wanted = is.0; object = is.1 }

of_wish : (es : Entries) (w : Wish) → Contains (wishes es) w → w.wanted ≡ true → Has (set_on Wanted es) w.object
of_wish es w member is =
    subst (λ (xs : List Object). Has (set.from_list xs) w.object) (wanted_listed es)
    (set_of_member (filter_map wished (wishes es)) w.object (in_filter_map wished (wishes es) w w.object member (ap (λ b. cond b (Some w.object) None) is)))

-- other wishes for the same objects, of which each that is wanted stands on links that are wanted
module _ (es now : Entries) (stand : StandOnWanted (wishes now)) (may : (w : Wish) → Contains (wishes es) w → (v : Wish) × Contains (wishes now) v × (v.object ≡ w.object)) where
  abbrev held : Objects
  held = set_on Held es

  abbrev before : Objects
  before = set_on Wanted es

  abbrev later : Objects
  later = set_on Wanted now

  link_stays : (x : Object) (name : List ℕ) (kind : LinkKind) → Has later x → Contains (places_of x) name → Has before (Link name kind) → Has later (Link name kind)
  link_stays x name kind is at was =
      let w = wanted_by now x is in
      let v = wanted_by es (Link name kind) was in
      let link = may v.by v.member in
      let object : link.0.object ≡ Link name kind = link.2 ∙ v.object in
      let wanted = stand w.by link.0 name kind w.member w.wanted (subst (λ (o : Object). Contains (places_of o) name) (sym w.object) at) link.1 object in
      subst (Has later) object (of_wish now link.0 link.1 wanted)

  wanted_before : (name : List ℕ) (kind : LinkKind) → Has held (Link name kind) → (loses_link held before name ≡ true → ⊥) → Has before (Link name kind)
  wanted_before name kind had none = elim (true_or_not (set.contains before (Link name kind))) as (λ _. Has before (Link name kind)) [
    | inl is ↦ is
    | inr unwanted ↦ absurd (none (loses_link_of held before name name kind had unwanted (over_itself held name)))
  ]

  walk : (base : List ℕ) (kind : LinkKind) → Has held (Link base kind) → (x : Object) (name : List ℕ) → Has later x → Contains (places_of x) name → (loses_link held before name ≡ true → ⊥) → IsOver held base name
      → Has later (Link base kind)
  walk base kind had x name is at none IsOver.itself = link_stays x base kind is at (wanted_before base kind had none)
  walk base kind had x name is at none (IsOver.above n lower id mac link over) =
      walk base kind had (Link n (Vlan lower id mac)) lower
      (link_stays x n (Vlan lower id mac) is at (wanted_before n (Vlan lower id mac) link none))
      (here lower []) (λ fell. none (loses_link_above held before lower n fell (over_lower held n lower id mac link))) over

  pub never_falls : (o : Object) → Has later o → (is_on_taken held before o ≡ true → ⊥) → is_on_taken held later o ≡ true → ⊥
  never_falls o is none h =
      let found = from_any (loses_link held later) (places_of o) h in
      let f = loses_link_with held later found.passing found.passes in
      f.unwanted (walk f.base f.kind f.had o found.passing is found.member (λ fell. none (on_taken_at held before o found.passing found.member fell)) (is_over_of_test held f.base found.passing f.over))

-- what is at an index after the slots are written
record IsMadeAt (f : Slot → Slot) (es : Entries) (i : ℕ) (e : ObjectKey × Slot) : Type 0 where
  was : ObjectKey × Slot
  at : slice_get es i ≡ Some was
  is : f was.1 ≡ e.1

made_from : (f : Slot → Slot) (es : Entries) (i : ℕ) (e : ObjectKey × Slot) → slice_get (each_slot f es) i ≡ Some e → IsMadeAt f es i e
made_from f es i e h = by (slice_get es i) refl (sym (slice_get-map (λ (x : ObjectKey × Slot). (x.0, f x.1)) es i) ∙ h)
  where
    by : (r : Option (ObjectKey × Slot)) → slice_get es i ≡ r → option_map (λ (x : ObjectKey × Slot). (x.0, f x.1)) r ≡ Some e → IsMadeAt f es i e
    by None at h = absurd (cc h)
    by (Some x) at h = let same : (x.0, f x.1) ≡ e = cc h in record { was = x; at = at; is = ap (λ (y : ObjectKey × Slot). y.1) same }

-- the marks after some ids are judged
module _ (es : Entries) (lists : List (Vec ℕ Global)) (used : List Bool) (ids : List ℕ) (old new : List ℕ) (marked : AreMarked old es) (are : AreListed lists (deciders es)) (stand : StandOnWanted (map (judged_by used ids) (wishes es)))
    (some : MarkSome (each_slot (judged_slot_by used ids) es) old new (IsListed lists ids)) where
  abbrev now : Entries
  now = each_slot (judged_slot_by used ids) es

  same_held : set_on Held now ≡ set_on Held es
  same_held = ap set.from_list (decided_held used ids es)

  may_now : (w : Wish) → Contains (wishes es) w → (v : Wish) × Contains (wishes now) v × (v.object ≡ w.object)
  may_now w member = (
    judged_by used ids w,
    subst (λ (ws : List Wish). Contains ws (judged_by used ids w)) (sym (decided_wishes used ids es)) (map_member (judged_by used ids) (wishes es) w member),
    decided_object used ids w,
  )

  stand_now : StandOnWanted (wishes now)
  stand_now = subst StandOnWanted (sym (decided_wishes used ids es)) stand

  -- a slot that no id decides is marked as it was
  module _ (i : ℕ) (e : ObjectKey × Slot) (at : slice_get now i ≡ Some e) (off : IsListed lists ids i → ⊥) (stays : bit new i ≡ bit old i) where
    from : IsMadeAt (judged_slot_by used ids) es i e
    from = made_from (judged_slot_by used ids) es i e at

    same : from.was.1 ≡ e.1
    same = sym (off_slot lists es are used ids i from.was from.at off) ∙ from.is

    left_differing : differs e.1 ≡ true → bit new i ≡ 1
    left_differing h = stays ∙ marked.differing i from.was from.at (ap differs same ∙ h)

    left_falling : (o : Object) → e.1.held ≡ Some o → is_on_taken (set_on Held now) (set_on Wanted now) o ≡ true → bit new i ≡ 1
    left_falling o holds h = by_difference (differs e.1) refl
      where
        had : from.was.1.held ≡ Some o
        had = ap (λ (t : Slot). t.held) same ∙ holds

        falling : is_on_taken (set_on Held es) (set_on Wanted now) o ≡ true
        falling = ap (λ (t : Objects). is_on_taken t (set_on Wanted now) o) (sym same_held) ∙ h

        by_lost_link : differs e.1 ≡ false → (is_on_taken (set_on Held es) (set_on Wanted es) o ≡ true) ⊎ (is_on_taken (set_on Held es) (set_on Wanted es) o ≡ true → ⊥) → bit new i ≡ 1
        by_lost_link even (inl was) = stays ∙ marked.falling i from.was o from.at had was
        by_lost_link even (inr none) =
            let wanted : Has (set_on Wanted now) o = of_slot Wanted now e o (at_place now i e at) (sym (not_apart e.1 even) ∙ holds) in
            absurd (never_falls es now stand_now may_now o wanted none falling)

        by_difference : (b : Bool) → differs e.1 ≡ b → bit new i ≡ 1
        by_difference true is = left_differing is
        by_difference false is = by_lost_link is (true_or_not (is_on_taken (set_on Held es) (set_on Wanted es) o))

  pub marks_after_ids : AreMarked new now
  marks_after_ids =
      let size = length-map {B = ObjectKey × Slot} es (λ (e : ObjectKey × Slot). (e.0, judged_slot_by used ids e.1)) in
      record {
        room = omega (arith, marked.room, some.size, size);
        differing = λ i e at h. elim (some.each i) as (λ _. bit new i ≡ 1) [
          | inl right ↦ right.differing e at h
          | inr left ↦ left_differing i e at left.0 left.1 h
        ];
        falling = λ i e o at held h. elim (some.each i) as (λ _. bit new i ≡ 1) [
          | inl right ↦ right.falling e o at held h
          | inr left ↦ left_falling i e at left.0 left.1 o held h
        ];
      }
