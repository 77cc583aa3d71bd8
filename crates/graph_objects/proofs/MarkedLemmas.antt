-- What a slot that is not marked has not, and which slots are marked after a write.
use Rattle.std.proofs.Common.{arith, ℕ, zero, suc, ◌≡◌, ◌≢◌, ◌≤◌, ◌<◌, ◌+◌, ◌*◌, ◌⊎◌, inl, inr, List, [], ◌∷◌, ◌++◌, map, length, Contains, Option, Some, None, true, false, Bool, refl, ap, sym, subst, ◌∙◌}
use Rattle.std.specs.Prelude.{slice_get, nat_lt, ◌&&◌, ◌||◌, if◌then◌else◌}
use Rattle.std.specs.List.{filter_map}
use Rattle.std.specs.Ordering.{eq_by_cmp}
use Rattle.std.specs.FinSet as set
use Rattle.std.specs.Option.{option_and_then}
use Rattle.std.proofs.lemmas.Bool.{cases_eq, cases_lt}
use Rattle.std.proofs.lemmas.Option.{slice_get_within}
use Rattle.indexmap.specs.IndexMap.{set_value_at}
use Rattle.kern_model.specs.declared.object.LinkKind.{LinkKind}
use Rattle.kern_model.specs.declared.object.Object.{Object}
use Rattle.kern_model.specs.declared.object.Object.TheVariants as object
use Rattle.kern_model.specs.ObjectOrder.{object_cmp, Objects, Has}
use Rattle.kern_model.specs.Standing.{places_of}
use Rattle.kern_model.specs.Touched.{loses_link, is_on_taken, is_touched}
use Rattle.kern_model.proofs.SetLemmas.{same_object, set_of_member, member_of_set}
use Rattle.kern_model.proofs.TestLemmas.{above_test, from_any, of_any, in_filter_map, from_filter_map}
use Rattle.kern_model.proofs.TouchLemmas.{loses_link_with, loses_link_of, touched_cases, taken_touched, put_touched}
use Rattle.kern_model.proofs.GoneLemmas.{is_over_of_test, test_of_is_over}
use Rattle.kern_calls.proofs.GoOnLemmas.{still_over}
use Rattle.graph_objects.specs.declared.key.ObjectKey.{ObjectKey}
use Rattle.graph_objects.specs.declared.slot.Wish.{Wish}
use Rattle.graph_objects.specs.declared.slot.Slot.{Slot}
use Rattle.graph_objects.specs.declared.slot.Side.{Side}
use Rattle.graph_objects.specs.declared.slot.Side.TheVariants.{Held, Wanted}
use Rattle.graph_objects.specs.declared.turn.Placed.{Placed}
use Rattle.graph_objects.specs.declared.turn.Turn.{Turn}
use Rattle.graph_objects.specs.declared.turn.Turn.TheVariants.{Takes, Puts}
use Rattle.graph_objects.specs.Slots.{on, wished, Entries, listed, set_on, wishes}
use Rattle.graph_objects.specs.Alone.{alone}
use Rattle.graph_objects.specs.Bits.{bit, IsPut, NoneBetween}
use Rattle.graph_objects.specs.Changed.{each_slot, let_go}
use Rattle.graph_objects.specs.Grown.{empty_slot, HasSlot}
use Rattle.graph_objects.specs.Places.{plain_call, place_of, due_slot, due_in}
use Rattle.graph_objects.specs.Marked.{differs, holds_link, MarkDifferences, AreMarked, AreLinksWanted}
use Rattle.graph_objects.specs.Turns.{is_due, side_of}
use Rattle.graph_objects.proofs.SlotLemmas.{in_slot, of_slot, wanted_listed}
use Rattle.graph_objects.proofs.ChangeLemmas.{after, at_place, wishes_stay}
use Rattle.graph_objects.proofs.EachLemmas.{all_written, as_many, on_stays, listed_stays, let_go_wish, let_go_held}
use Rattle.graph_objects.proofs.GrowLemmas.{listed_more, same_slot, value_of_entry}
use Rattle.graph_objects.proofs.DueLemmas.{counted_none, counted_first}
use Rattle.graph_objects.proofs.TurnLemmas.{some_at, IsNotAfter, IsBest}

-- what a slot without a difference holds is wanted
abbrev two_unless : Bool → ℕ
two_unless t = if t then 0 else 2

alike : (a b : Option Object) → alone a b ≡ 0 → a ≡ b
alike None None h = refl
alike None (Some b) h = absurd (omega (arith, h))
alike (Some a) None h = absurd (omega (arith, h))
alike (Some a) (Some b) h = by (eq_by_cmp object_cmp a b) refl h
  where
    by : (t : Bool) → eq_by_cmp object_cmp a b ≡ t → two_unless t ≡ 0 → Some a ≡ Some b
    by true is h = ap Some (same_object a b is)
    by false is h = absurd (omega (arith, h))

not_alone : (n : ℕ) → nat_lt 0 n ≡ false → n ≡ 0
not_alone n h = let up = above_test 0 n h in omega arith

pub not_apart : (s : Slot) → differs s ≡ false → on Held s ≡ on Wanted s
not_apart s h = alike (on Held s) (on Wanted s) (not_alone (alone (on Held s) (on Wanted s)) h)

no_mark : (b : ℕ) → b ≡ 0 → b ≡ 1 → ⊥
no_mark b none one = omega (arith, none, one)

module _ (marks : List ℕ) (es : Entries) (marked : AreMarked marks es) (i : ℕ) (e : ObjectKey × Slot) (at : slice_get es i ≡ Some e) (none : bit marks i ≡ 0) where
  unmarked : (b : Bool) → differs e.1 ≡ b → b ≡ false
  unmarked true h = absurd (no_mark (bit marks i) none (marked.differing i e at h))
  unmarked false h = refl

  pub alone_unmarked : alone (on Held e.1) (on Wanted e.1) ≡ 0
  alone_unmarked = not_alone (alone (on Held e.1) (on Wanted e.1)) (unmarked (differs e.1) refl)

  -- no object of it is touched
  module _ (o : Object) (side : Side) (is : on side e.1 ≡ Some o) where
    on_both : (other : Side) → on other e.1 ≡ Some o
    on_both other = by side other is
      where
        same : on Held e.1 ≡ on Wanted e.1
        same = not_apart e.1 (unmarked (differs e.1) refl)

        by : (a b : Side) → on a e.1 ≡ Some o → on b e.1 ≡ Some o
        by Held Held h = h
        by Held Wanted h = sym same ∙ h
        by Wanted Held h = same ∙ h
        by Wanted Wanted h = h

    in_set : (other : Side) → Has (set_on other es) o
    in_set other = of_slot other es e o (at_place es i e at) (on_both other)

    pub not_touched : is_touched (set_on Held es) (set_on Wanted es) o ≡ true → ⊥
    not_touched h = elim (touched_cases (set_on Held es) (set_on Wanted es) o (in_set Held) h) as (λ _. ⊥) [
      | inl unwanted ↦ unwanted (in_set Wanted)
      | inr on ↦ no_mark (bit marks i) none (marked.falling i e o at (on_both Held) on)
    ]

    pub not_due : (turn : Turn) → is_due turn (set_on Held es) (set_on Wanted es) o ≡ true → ⊥
    not_due Takes h = not_touched (taken_touched (set_on Held es) (set_on Wanted es) o h)
    not_due Puts h = not_touched (put_touched (set_on Held es) (set_on Wanted es) o h)

-- where fewer links are held and more are wanted, fewer objects are on links that are taken
module _ (held now wanted later : Objects) (links : (n : List ℕ) (k : LinkKind) → Has now (object.Link n k) → Has held (object.Link n k))
    (more : (n : List ℕ) (k : LinkKind) → Has wanted (object.Link n k) → Has later (object.Link n k)) where
  loses_link_before : (name : List ℕ) → loses_link now later name ≡ true → loses_link held wanted name ≡ true
  loses_link_before name h =
      let f = loses_link_with now later name h in
      loses_link_of held wanted name f.base f.kind (links f.base f.kind f.had) (λ is. f.unwanted (more f.base f.kind is))
      (test_of_is_over held f.base name (still_over now held f.base name (λ v kind g _. links v kind g) (is_over_of_test now f.base name f.over)))

  pub on_taken_before : (o : Object) → is_on_taken now later o ≡ true → is_on_taken held wanted o ≡ true
  on_taken_before o h =
      let found = from_any (loses_link now later) (places_of o) h in
      of_any (loses_link held wanted) (places_of o) found.passing found.member (loses_link_before found.passing found.passes)

pub none_on_taken : (held wanted : Objects) → ((n : List ℕ) (k : LinkKind) → Has held (object.Link n k) → Has wanted (object.Link n k)) → (o : Object) → is_on_taken held wanted o ≡ true → ⊥
none_on_taken held wanted all o h =
    let found = from_any (loses_link held wanted) (places_of o) h in
    let f = loses_link_with held wanted found.passing found.passes in
    f.unwanted (all f.base f.kind f.had)

-- no more objects are on links that are taken than before
abbrev pub AreFewer : Entries → Entries → Type 0
AreFewer now es = (o : Object) → is_on_taken (set_on Held now) (set_on Wanted now) o ≡ true → is_on_taken (set_on Held es) (set_on Wanted es) o ≡ true

pub wanted_same : (es now : Entries) → wishes now ≡ wishes es → set_on Wanted now ≡ set_on Wanted es
wanted_same es now same = ap set.from_list (sym (wanted_listed now) ∙ ap (filter_map wished) same ∙ wanted_listed es)

pub fewer_held : (es now : Entries) → ((n : List ℕ) (k : LinkKind) → Has (set_on Held now) (object.Link n k) → Has (set_on Held es) (object.Link n k)) → wishes now ≡ wishes es → AreFewer now es
fewer_held es now links same o h =
    on_taken_before (set_on Held es) (set_on Held now) (set_on Wanted es) (set_on Wanted now) links (λ n k is. subst (λ (t : Objects). Has t (object.Link n k)) (sym (wanted_same es now same)) is) o h

-- what is at a place after a write
pub size_stays : (es : Entries) (i : ℕ) (w : Slot) → length (set_value_at es i w) ≡ length es
size_stays [] i w = refl
size_stays (x ∷ xs) zero w = refl
size_stays (x ∷ xs) (suc i) w = ap suc (size_stays xs i w)

pub at_written : (es : Entries) (i : ℕ) (key : ObjectKey) (s w : Slot) → slice_get es i ≡ Some (key, s) → slice_get (set_value_at es i w) i ≡ Some (key, w)
at_written [] i key s w at = cc at
at_written (x ∷ xs) zero key s w at = let same : x ≡ (key, s) = cc at in ap (λ (e : ObjectKey × Slot). Some (e.0, w)) same
at_written (x ∷ xs) (suc i) key s w at = at_written xs i key s w at

pub at_others : (es : Entries) (i j : ℕ) (w : Slot) → j ≢ i → slice_get (set_value_at es i w) j ≡ slice_get es j
at_others [] i j w apart = refl
at_others (x ∷ xs) zero zero w apart = absurd (apart refl)
at_others (x ∷ xs) zero (suc j) w apart = refl
at_others (x ∷ xs) (suc i) zero w apart = refl
at_others (x ∷ xs) (suc i) (suc j) w apart = at_others xs i j w (λ e. apart (ap suc e))

pub same_written : (es : Entries) (i : ℕ) (key : ObjectKey) (s : Slot) → slice_get es i ≡ Some (key, s) → set_value_at es i s ≡ es
same_written [] i key s at = refl
same_written (x ∷ xs) zero key s at = let same : x ≡ (key, s) = cc at in ap (λ (t : Slot). (x.0, t) ∷ xs) (sym (ap (λ (e : ObjectKey × Slot). e.1) same))
same_written (x ∷ xs) (suc i) key s at = ap (λ (ys : Entries). x ∷ ys) (same_written xs i key s at)

-- one slot is written
module _ (es : Entries) (i : ℕ) (key : ObjectKey) (s w : Slot) (at : slice_get es i ≡ Some (key, s)) where
  abbrev now : Entries
  now = set_value_at es i w

  module _ (old new : List ℕ) (marked : AreMarked old es) (size : length new ≡ length old) (others : (n : ℕ) → n ≢ i → bit new n ≡ bit old n) (fewer : AreFewer now es) where
    here_is : (j : ℕ) (e : ObjectKey × Slot) → slice_get now j ≡ Some e → j ≡ i → (key, w) ≡ e
    here_is j e there same = let first = at_written es i key s w at in let second = ap (slice_get now) (sym same) ∙ there in cc (first, second)

    pub marks_after : (differs w ≡ true → bit new i ≡ 1) → ((o : Object) → w.held ≡ Some o → is_on_taken (set_on Held now) (set_on Wanted now) o ≡ true → bit new i ≡ 1) → AreMarked new now
    marks_after differing falling = record {
      room = omega (arith, size_stays es i w, size, marked.room);
      differing = λ j e there apart. elim (cases_eq j i) as (λ _. bit new j ≡ 1) [
        | inl same ↦ ap (bit new) same ∙ differing (ap (λ (y : ObjectKey × Slot). differs y.1) (here_is j e there same) ∙ apart)
        | inr other ↦ others j other ∙ marked.differing j e (sym (at_others es i j w other) ∙ there) apart
      ];
      falling = λ j e o there held on. elim (cases_eq j i) as (λ _. bit new j ≡ 1) [
        | inl same ↦ ap (bit new) same ∙ falling o (ap (λ (y : ObjectKey × Slot). y.1.held) (here_is j e there same) ∙ held) on
        | inr other ↦ others j other ∙ marked.falling j e o (sym (at_others es i j w other) ∙ there) held (fewer o on)
      ];
    }

  -- it is marked where it differs, and holds nothing on a link that is taken
  pub marks_after_write : (old new : List ℕ) → AreMarked old es → IsPut old new i (differs w) → AreFewer now es → ((o : Object) → w.held ≡ Some o → is_on_taken (set_on Held now) (set_on Wanted now) o ≡ true → ⊥) → AreMarked new now
  marks_after_write old new marked put fewer never =
      marks_after old new marked put.size put.others fewer (λ h. put.here ∙ ap (λ b. if b then 1 else 0) h) (λ o held on. absurd (never o held on))

  -- so where all links that are held then are wanted
  pub marks_after_links : (old new : List ℕ) → AreMarked old es → IsPut old new i (differs w) → w.wish ≡ s.wish → ((n : List ℕ) (k : LinkKind) → Has (set_on Held now) (object.Link n k) → Has (set_on Wanted es) (object.Link n k))
      → AreMarked new now
  marks_after_links old new marked put same links =
      let all : (n : List ℕ) (k : LinkKind) → Has (set_on Held now) (object.Link n k) → Has (set_on Wanted now) (object.Link n k) =
      λ n k h. subst (λ (t : Objects). Has t (object.Link n k)) (sym (wanted_same es now (wishes_stay es i key s w at same))) (links n k h) in
      marks_after_write old new marked put (λ o on. absurd (none_on_taken (set_on Held now) (set_on Wanted now) all o on)) (λ o held on. none_on_taken (set_on Held now) (set_on Wanted now) all o on)

  -- it is marked
  pub marks_after_mark : (old new : List ℕ) → AreMarked old es → IsPut old new i true → AreFewer now es → AreMarked new now
  marks_after_mark old new marked put fewer = marks_after old new marked put.size put.others fewer (λ h. put.here) (λ o held on. put.here)

  module _ (fewer_here : (x : Object) → w.held ≡ Some x → s.held ≡ Some x) where
    held_before : (x : Object) → Has (set_on Held now) x → Has (set_on Held es) x
    held_before x h =
        let from = in_slot Held now x h in
        elim (after es i key s w at from.source from.member) as (λ _. Has (set_on Held es) x) [
          | inl was ↦ of_slot Held es from.source x was from.gives
          | inr is ↦ of_slot Held es (key, s) x (at_place es i (key, s) at) (fewer_here x (ap (λ (e : ObjectKey × Slot). e.1.held) is ∙ from.gives))
        ]

    pub fewer_after : w.wish ≡ s.wish → AreFewer now es
    fewer_after same = fewer_held es now (λ n k h. held_before (object.Link n k) h) (wishes_stay es i key s w at same)

    -- with more wishes
    pub fewer_wished : ((v : Wish) → Contains (wishes es) v → Contains (wishes now) v) → AreFewer now es
    fewer_wished more o h = on_taken_before (set_on Held es) (set_on Held now) (set_on Wanted es) (set_on Wanted now) (λ n k h. held_before (object.Link n k) h) (λ n k is. wanted_now (object.Link n k) is) o h
      where
        wanted_now : (x : Object) → Has (set_on Wanted es) x → Has (set_on Wanted now) x
        wanted_now x h =
            let from = from_filter_map wished (wishes es) x (member_of_set (filter_map wished (wishes es)) x (subst (λ (xs : List Object). Has (set.from_list xs) x) (sym (wanted_listed es)) h)) in
            subst (λ (xs : List Object). Has (set.from_list xs) x) (wanted_listed now) (set_of_member (filter_map wished (wishes now)) x (in_filter_map wished (wishes now) from.source x (more from.source from.member) from.gives))

-- no slots
pub none_marked : (marks : List ℕ) → AreMarked marks []
none_marked marks = record { room = omega arith; differing = λ i e at h. absurd (cc at); falling = λ i e o at held on. absurd (cc at) }

-- room for more marks
pub marked_with_room : (old new : List ℕ) (es : Entries) → length es ≤ 64 * length new → ((n : ℕ) → bit new n ≡ bit old n) → AreMarked old es → AreMarked new es
marked_with_room old new es room same marked =
    record { room = room; differing = λ i e at h. same i ∙ marked.differing i e at h; falling = λ i e o at held on. same i ∙ marked.falling i e o at held on }

-- all slots are gone over
put_more : (old new : List ℕ) (i : ℕ) → IsPut old new i true → (n : ℕ) → bit old n ≡ 1 → bit new n ≡ 1
put_more old new i put n h = elim (cases_eq n i) as (λ _. bit new n ≡ 1) [ inl same ↦ ap (bit new) same ∙ put.here | inr other ↦ put.others n other ∙ h ]

pub value_is : (es : Entries) (i : ℕ) (s : Slot) (e : ObjectKey × Slot) → slice_get (map (λ (e : ObjectKey × Slot). e.1) es) i ≡ Some s → slice_get es i ≡ Some e → s ≡ e.1
value_is [] i s e h g = cc h
value_is (x ∷ xs) zero s e h g = let first : x.1 ≡ s = cc h in let second : x ≡ e = cc g in sym first ∙ ap (λ (y : ObjectKey × Slot). y.1) second
value_is (x ∷ xs) (suc i) s e h g = value_is xs i s e h g

before_or_now : (i n : ℕ) → i < n + 1 → (i < n) ⊎ (i ≡ n)
before_or_now i n h = elim (cases_eq i n) as (λ _. (i < n) ⊎ (i ≡ n)) [ inl same ↦ inr same | inr other ↦ inl (omega (arith, h, other)) ]

-- the differences of the slots so far are marked
pub record DifferencesSoFar (es : Entries) (before marks : List ℕ) (n : ℕ) (loses_link : Bool) : Type 0 where
  pub size : length marks ≡ length before
  pub differing : (i : ℕ) (e : ObjectKey × Slot) → i < n → slice_get es i ≡ Some e → differs e.1 ≡ true → bit marks i ≡ 1
  pub links : loses_link ≡ false → (i : ℕ) (e : ObjectKey × Slot) → i < n → slice_get es i ≡ Some e → holds_link e.1.held ≡ true → differs e.1 ≡ false

neither : (a b : Bool) → (a || b) ≡ false → (a ≡ false) × (b ≡ false)
neither true b h = cc h
neither false b h = (refl, h)

not_both : (a b : Bool) → (a && b) ≡ false → b ≡ true → a ≡ false
not_both true b h g = cc (h, g)
not_both false b h g = refl

pub no_differences : (es : Entries) (marks : List ℕ) → DifferencesSoFar es marks marks 0 false
no_differences es marks = record { size = refl; differing = λ i e before at h. absurd (omega (arith, before)); links = λ h i e before at link. absurd (omega (arith, before)) }

pub more_differences : (es : Entries) (before marks next : List ℕ) (n : ℕ) (loses_link : Bool) (s : Slot) (b link : Bool) → DifferencesSoFar es before marks n loses_link → slice_get (map (λ (e : ObjectKey × Slot). e.1) es) n ≡ Some s
    → b ≡ differs s → link ≡ holds_link s.held → IsPut marks next n b → DifferencesSoFar es before next (n + 1) (loses_link || (b && link))
more_differences es before marks next n loses_link s b link so_far here apart_is link_is put = record {
  size = put.size ∙ so_far.size;
  differing = λ i e below at h. elim (before_or_now i n below) as (λ _. bit next i ≡ 1) [
    | inl lower ↦ put.others i (λ same. omega (arith, same, lower)) ∙ so_far.differing i e lower at h
    | inr same ↦
        let is = value_is es n s e here (ap (slice_get es) (sym same) ∙ at) in
        ap (bit next) same ∙ put.here ∙ ap (λ t. if t then 1 else 0) (apart_is ∙ ap differs is ∙ h)
  ];
  links = λ none i e below at held.
      let parts = neither loses_link (b && link) none in
      elim (before_or_now i n below) as (λ _. differs e.1 ≡ false) [
        | inl lower ↦ so_far.links parts.0 i e lower at held
        | inr same ↦
            let is = value_is es n s e here (ap (slice_get es) (sym same) ∙ at) in
            sym (apart_is ∙ ap differs is) ∙ not_both b link parts.1 (link_is ∙ ap (λ (t : Slot). holds_link t.held) is ∙ held)
      ];
}

pub all_differences : (es : Entries) (before marks : List ℕ) (n : ℕ) (loses_link : Bool) → n ≡ length es → DifferencesSoFar es before marks n loses_link → MarkDifferences marks es
all_differences es before marks n loses_link all so_far i e at h = so_far.differing i e (omega (arith, all, slice_get_within es i e at)) at h

pub links_wanted : (es : Entries) (before marks : List ℕ) (n : ℕ) (loses_link : Bool) → n ≡ length es → DifferencesSoFar es before marks n loses_link → loses_link ≡ false → AreLinksWanted es
links_wanted es before marks n loses_link all so_far none name kind h =
    let from = in_slot Held es (object.Link name kind) h in
    let at = some_at es from.member.0 from.source from.member.1 from.member.2 in
    let even = so_far.links none from.member.0 from.source (omega (arith, all, from.member.1)) at (ap holds_link from.gives) in
    of_slot Wanted es from.source (object.Link name kind) from.member (sym (not_apart from.source.1 even) ∙ from.gives)

-- the objects on links that are taken in the slots so far are marked
pub record FallingSoFar (es : Entries) (before marks : List ℕ) (n : ℕ) : Type 0 where
  pub size : length marks ≡ length before
  pub differing : MarkDifferences marks es
  pub falling : (i : ℕ) (e : ObjectKey × Slot) (o : Object) → i < n → slice_get es i ≡ Some e → e.1.held ≡ Some o → is_on_taken (set_on Held es) (set_on Wanted es) o ≡ true → bit marks i ≡ 1

pub no_falling : (es : Entries) (marks : List ℕ) → MarkDifferences marks es → FallingSoFar es marks marks 0
no_falling es marks differing = record { size = refl; differing = differing; falling = λ i e o before at held on. absurd (omega (arith, before)) }

module _ (es : Entries) (before marks : List ℕ) (n : ℕ) (so_far : FallingSoFar es before marks n) (s : Slot) (here : slice_get (map (λ (e : ObjectKey × Slot). e.1) es) n ≡ Some s) where
  pub more_falling : (next : List ℕ) → IsPut marks next n true → FallingSoFar es before next (n + 1)
  more_falling next put = record {
    size = put.size ∙ so_far.size;
    differing = λ i e at h. put_more marks next n put i (so_far.differing i e at h);
    falling = λ i e o below at held on. elim (before_or_now i n below) as (λ _. bit next i ≡ 1) [
      | inl lower ↦ put_more marks next n put i (so_far.falling i e o lower at held on)
      | inr same ↦ ap (bit next) same ∙ put.here
    ];
  }

  pub no_more_falling : ((o : Object) → s.held ≡ Some o → false ≡ is_on_taken (set_on Held es) (set_on Wanted es) o) → FallingSoFar es before marks (n + 1)
  no_more_falling none = record {
    size = so_far.size;
    differing = so_far.differing;
    falling = λ i e o below at held on. elim (before_or_now i n below) as (λ _. bit marks i ≡ 1) [
      | inl lower ↦ so_far.falling i e o lower at held on
      | inr same ↦
          let is = value_is es n s e here (ap (slice_get es) (sym same) ∙ at) in
          let off = none o (ap (λ (t : Slot). t.held) is ∙ held) in
          absurd (cc (off, on))
    ];
  }

pub all_falling : (es : Entries) (before marks : List ℕ) (n : ℕ) → length es ≤ 64 * length before → n ≡ length es → FallingSoFar es before marks n → AreMarked marks es
all_falling es before marks n room all so_far = record {
  room = omega (arith, room, so_far.size);
  differing = so_far.differing;
  falling = λ i e o at held on. so_far.falling i e o (omega (arith, all, slice_get_within es i e at)) at held on;
}

-- where all held links are wanted, differences alone are marked
pub differences_alone : (es : Entries) (marks : List ℕ) → length es ≤ 64 * length marks → MarkDifferences marks es → AreLinksWanted es → AreMarked marks es
differences_alone es marks room differing links = record {
  room = room;
  differing = differing;
  falling = λ i e o at held on. absurd (none_on_taken (set_on Held es) (set_on Wanted es) links o on);
}

-- all slots so far are marked
pub record AllSoFar (before marks : List ℕ) (n : ℕ) : Type 0 where
  pub size : length marks ≡ length before
  pub all : (i : ℕ) → i < n → bit marks i ≡ 1

pub all_at_first : (marks : List ℕ) → AllSoFar marks marks 0
all_at_first marks = record { size = refl; all = λ i before. absurd (omega (arith, before)) }

pub all_and_more : (before marks next : List ℕ) (n : ℕ) → AllSoFar before marks n → IsPut marks next n true → AllSoFar before next (n + 1)
all_and_more before marks next n so_far put = record {
  size = put.size ∙ so_far.size;
  all = λ i below. elim (before_or_now i n below) as (λ _. bit next i ≡ 1) [
    | inl lower ↦ put_more marks next n put i (so_far.all i lower)
    | inr same ↦ ap (bit next) same ∙ put.here
  ];
}

pub all_marked : (es : Entries) (before marks : List ℕ) (n : ℕ) → length es ≤ 64 * length before → n ≡ length es → AllSoFar before marks n → AreMarked marks es
all_marked es before marks n room all so_far = record {
  room = omega (arith, room, so_far.size);
  differing = λ i e at h. so_far.all i (omega (arith, all, slice_get_within es i e at));
  falling = λ i e o at held on. so_far.all i (omega (arith, all, slice_get_within es i e at));
}

-- slots are written one after another, and what they hold and want stays
module _ (f : Slot → Slot) (held_stays : (s : Slot) → (f s).held ≡ s.held) (wish_stays : (s : Slot) → (f s).wish ≡ s.wish) (es : Entries) where
  from_each : (xs : Entries) (j : ℕ) (e : ObjectKey × Slot) → slice_get (each_slot f xs) j ≡ Some e → (x : ObjectKey × Slot) × (slice_get xs j ≡ Some x) × (f x.1 ≡ e.1)
  from_each [] j e h = absurd (cc h)
  from_each (x ∷ xs) zero e h = let is : (x.0, f x.1) ≡ e = cc h in (x, refl, ap (λ (y : ObjectKey × Slot). y.1) is)
  from_each (x ∷ xs) (suc j) e h = from_each xs j e h

  same_set : (side : Side) → set_on side (each_slot f es) ≡ set_on side es
  same_set side = ap set.from_list (ap (listed side) (sym (all_written f es)) ∙ listed_stays f held_stays wish_stays side es (length es))

  differs_stays : (s : Slot) → differs (f s) ≡ differs s
  differs_stays s = λ j. nat_lt 0 (alone (on_stays f held_stays wish_stays Held s j) (on_stays f held_stays wish_stays Wanted s j))

  pub stays_marked : (marks : List ℕ) → AreMarked marks es → AreMarked marks (each_slot f es)
  stays_marked marks marked = record {
    room = omega (arith, ap length (sym (all_written f es)) ∙ as_many f es (length es), marked.room);
    differing = λ j e at h.
        let from = from_each es j e at in
        marked.differing j from.0 from.1 (sym (differs_stays from.0.1) ∙ ap differs from.2 ∙ h);
    falling = λ j e o at held on.
        let from = from_each es j e at in
        let same : is_on_taken (set_on Held (each_slot f es)) (set_on Wanted (each_slot f es)) o ≡ is_on_taken (set_on Held es) (set_on Wanted es) o = λ k. is_on_taken (same_set Held k) (same_set Wanted k) o in
        marked.falling j from.0 o from.1 (sym (held_stays from.0.1) ∙ ap (λ (t : Slot). t.held) from.2 ∙ held) (sym same ∙ on);
  }

-- what leaves is let go, slot by slot
held_gone : (s : Slot) → (let_go s).leaves ≡ true → (let_go s).held ≡ None
held_gone s h = by s.leaves refl h
  where
    by : (b : Bool) → s.leaves ≡ b → (if b then record s { held = None } else s).leaves ≡ true → (if b then record s { held = None } else s).held ≡ None
    by true is h = refl
    by false is h = absurd (cc (is, h))

not_gone : (s : Slot) → (let_go s).leaves ≡ false → let_go s ≡ s
not_gone s h = by s.leaves refl h
  where
    by : (b : Bool) → s.leaves ≡ b → (if b then record s { held = None } else s).leaves ≡ false → (if b then record s { held = None } else s) ≡ s
    by true is h = absurd (cc (is, h))
    by false is h = refl

module _ (es : Entries) (i : ℕ) (s w : Slot) (here : slice_get (map (λ (e : ObjectKey × Slot). e.1) es) i ≡ Some s) (is : w ≡ let_go s) where
  there : (k : ObjectKey) × (slice_get es i ≡ Some (k, s))
  there = value_of_entry es i s here

  pub marks_of_gone : (old new : List ℕ) → AreMarked old es → IsPut old new i (differs w) → w.leaves ≡ true → AreMarked new (set_value_at es i w)
  marks_of_gone old new marked put leaves =
      marks_after_write es i there.0 s w there.1 old new marked put
      (fewer_after es i there.0 s w there.1 (λ x held. let_go_held s x (sym (ap (λ (t : Slot). t.held) is) ∙ held)) (ap (λ (t : Slot). t.wish) is ∙ let_go_wish s))
      (λ o held on.
      let none : w.held ≡ None = ap (λ (t : Slot). t.held) is ∙ held_gone s (sym (ap (λ (t : Slot). t.leaves) is) ∙ leaves) in
      cc (none, held))

  pub marks_of_left : (marks : List ℕ) → AreMarked marks es → w.leaves ≡ false → AreMarked marks (set_value_at es i w)
  marks_of_left marks marked stays =
      let same : w ≡ s = is ∙ not_gone s (sym (ap (λ (t : Slot). t.leaves) is) ∙ stays) in
      subst (AreMarked marks) (sym (ap (set_value_at es i) same ∙ same_written es i there.0 s there.1)) marked

-- with a slot made where there was none
get_more : (es : Entries) (x : ObjectKey × Slot) (j : ℕ) (e : ObjectKey × Slot) → slice_get (es ++ x ∷ []) j ≡ Some e → (slice_get es j ≡ Some e) ⊎ (x ≡ e)
get_more [] x zero e h = inr (cc h)
get_more [] x (suc j) e h = absurd (cc h)
get_more (y ∷ ys) x zero e h = inl h
get_more (y ∷ ys) x (suc j) e h = get_more ys x j e h

pub grown_marked : (old new : Entries) (key : ObjectKey) (index : ℕ) (marks before : List ℕ) → HasSlot old new key index → length new ≤ 64 * length marks → ((n : ℕ) → bit marks n ≡ bit before n) → AreMarked before old → AreMarked marks new
grown_marked old new key index marks before has room stay marked = record {
  room = room;
  differing = λ j e at h. elim has.more as (λ _. bit marks j ≡ 1) [
    | inl is ↦ stay j ∙ marked.differing j e (ap (λ (xs : Entries). slice_get xs j) (sym is) ∙ at) h
    | inr more ↦ elim (get_more old (key, empty_slot) j e (ap (λ (xs : Entries). slice_get xs j) (sym more) ∙ at)) as (λ _. bit marks j ≡ 1) [
      | inl was ↦ stay j ∙ marked.differing j e was h
      | inr is ↦ let none : false ≡ differs e.1 = ap (λ (y : ObjectKey × Slot). differs y.1) is in absurd (cc (none, h))
    ]
  ];
  falling = λ j e o at held on.
      let same : is_on_taken (set_on Held new) (set_on Wanted new) o ≡ is_on_taken (set_on Held old) (set_on Wanted old) o = λ k. is_on_taken (same_on Held k) (same_on Wanted k) o in
      elim has.more as (λ _. bit marks j ≡ 1) [
        | inl is ↦ stay j ∙ marked.falling j e o (ap (λ (xs : Entries). slice_get xs j) (sym is) ∙ at) held (sym same ∙ on)
        | inr more ↦ elim (get_more old (key, empty_slot) j e (ap (λ (xs : Entries). slice_get xs j) (sym more) ∙ at)) as (λ _. bit marks j ≡ 1) [
          | inl was ↦ stay j ∙ marked.falling j e o was held (sym same ∙ on)
          | inr is ↦ let none : None ≡ e.1.held = ap (λ (y : ObjectKey × Slot). y.1.held) is in absurd (cc (none, held))
        ]
      ];
}
  where
    same_on : (side : Side) → set_on side new ≡ set_on side old
    same_on side = elim has.more as (λ _. set_on side new ≡ set_on side old) [
      | inl is ↦ ap (set_on side) is
      | inr more ↦ ap (set_on side) more ∙ ap set.from_list (listed_more side old key)
    ]

-- an object may be wanted in a slot
pub wished_marked : (es : Entries) (i : ℕ) (key : ObjectKey) (t s : Slot) (wish : Wish) (old new : List ℕ) → slice_get es i ≡ Some (key, t) → slice_get (map (λ (e : ObjectKey × Slot). e.1) es) i ≡ Some s
    → ((v : Wish) → Contains (wishes es) v → Contains (wishes (set_value_at es i (record s { wish = Some wish }))) v) → AreMarked old es → IsPut old new i true → AreMarked new (set_value_at es i (record s { wish = Some wish }))
wished_marked es i key t s wish old new at here more marked put =
    let there = same_slot es i key t s at here in
    marks_after_mark es i key s (record s { wish = Some wish }) there old new marked put (fewer_wished es i key s (record s { wish = Some wish }) there (λ x held. held) more)

-- the slots so far are gone over where they are marked
pub count_skipped : (es : Entries) (low high : ℕ) → low ≤ high → ((k : ℕ) (e : ObjectKey × Slot) → low ≤ k → k < high → slice_get es k ≡ Some e → alone (on Held e.1) (on Wanted e.1) ≡ 0) → counted_first es high ≡ counted_first es low
count_skipped [] low high up none = refl
count_skipped (e ∷ es) zero zero up none = refl
count_skipped (e ∷ es) zero (suc high) up none =
    let here = none 0 e (omega arith) (omega arith) refl in
    let rest = count_skipped es 0 high (omega arith) (λ k x above below at. none (suc k) x (omega arith) (omega (arith, below)) at) in
    let start = counted_none es in
    omega (arith, here, rest, start)
count_skipped (e ∷ es) (suc low) zero up none = absurd (omega (arith, up))
count_skipped (e ∷ es) (suc low) (suc high) up none =
    ap (λ n. alone (on Held e.1) (on Wanted e.1) + n) (count_skipped es low high (omega (arith, up)) (λ k x above below at. none (suc k) x (omega (arith, above)) (omega (arith, below)) at))

module _ (turn : Turn) (es : Entries) (marks : List ℕ) (marked : AreMarked marks es) where
  abbrev placed : Object → Placed
  placed o = record { place = place_of (length es) (set_on Held es) (set_on Wanted es) (plain_call turn o); object = o }

  due_of_some : (o : Object) (q : Placed) → due_slot turn es (Some o) ≡ Some q → (b : Bool) → is_due turn (set_on Held es) (set_on Wanted es) o ≡ b → b ≡ true
  due_of_some o q h true is = refl
  due_of_some o q h false is = let none : None ≡ Some q = sym (ap (λ b. if b then Some (placed o) else None) is) ∙ h in cc none

  pub no_due : (k : ℕ) (q : Placed) → bit marks k ≡ 0 → due_in turn es k ≡ Some q → ⊥
  no_due k q none h = by (slice_get es k) refl h
    where
      on_slot : (e : ObjectKey × Slot) → slice_get es k ≡ Some e → (r : Option Object) → on (side_of turn) e.1 ≡ r → due_slot turn es r ≡ Some q → ⊥
      on_slot e at None is h = cc h
      on_slot e at (Some o) is h =
          let told = due_of_some o q h (is_due turn (set_on Held es) (set_on Wanted es) o) refl in
          not_due marks es marked k e at none o (side_of turn) is turn told

      by : (r : Option (ObjectKey × Slot)) → slice_get es k ≡ r → due_slot turn es (option_and_then (λ (e : ObjectKey × Slot). on (side_of turn) e.1) r) ≡ Some q → ⊥
      by None is h = cc h
      by (Some e) is h = on_slot e is (on (side_of turn) e.1) refl h

  pub best_skipped : (low high : ℕ) (best : Option Placed) → NoneBetween marks low high → IsBest turn es low best → IsBest turn es high best
  best_skipped low high best none so_far = record {
    some = so_far.some;
    least = λ k q below is. elim (cases_lt k low) as (λ _. IsNotAfter best q) [
      | inl lower ↦ so_far.least k q lower is
      | inr above ↦ absurd (no_due k q (none k above below) is)
    ];
  }
