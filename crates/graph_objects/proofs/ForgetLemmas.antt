-- What the last ids decide is forgotten.
use Rattle.std.proofs.Common.{arith, ℕ, zero, suc, ◌≡◌, ◌+◌, ◌⊎◌, inl, inr, List, [], ◌∷◌, map, length, Contains, Option, Some, None, true, false, Bool, refl, ap, sym, subst, ◌∙◌}
use Rattle.std.specs.Prelude.{slice_get, filter, nat_lt, cond, if◌then◌else◌}
use Rattle.std.specs.List.{cons_option}
use Rattle.std.specs.Option.{option_map}
use Rattle.std.specs.FinSet as set
use Rattle.std.proofs.lemmas.List.{length-map}
use Rattle.indexmap.specs.IndexMap.{set_value_at}
use Rattle.kern_model.specs.declared.object.Object.{Object}
use Rattle.kern_model.specs.ObjectOrder.{Has}
use Rattle.kern_model.proofs.MemberLemmas.{here, there, first_or_later, map_member, member_of_map}
use Rattle.kern_model.proofs.SetLemmas.{set_of_member, member_of_set}
use Rattle.graph_objects.specs.declared.key.ObjectKey.{ObjectKey}
use Rattle.graph_objects.specs.declared.slot.Wish.{Wish}
use Rattle.graph_objects.specs.declared.slot.Slot.{Slot}
use Rattle.graph_objects.specs.declared.slot.Side.TheVariants.{Held}
use Rattle.graph_objects.specs.Steady.{IsGrounded}
use Rattle.graph_objects.specs.Slots.{Entries, listed, wishes, wished_set, IsAt, IsSlot, AreSlots}
use Rattle.graph_objects.specs.Deciders.{unjudged, deciders, HasNoNewWish}
use Rattle.graph_objects.specs.Changed.{each_slot, first_slots, wish_below, slot_below}
use Rattle.graph_objects.proofs.SteadyLemmas.{grounded_within}
use Rattle.graph_objects.proofs.EachLemmas.{more_written}
use Rattle.graph_objects.proofs.DeciderLemmas.{as_many_deciders}

first_kept : (b : Bool) (w : Wish) (ws : List Wish) (v : Wish) → Contains (cond b (w ∷ ws) ws) v → (w ≡ v) ⊎ Contains ws v
first_kept true w ws v h = first_or_later w ws v h
first_kept false w ws v h = inr h

was_member : (p : Wish → Bool) (ws : List Wish) (v : Wish) → Contains (filter p ws) v → Contains ws v
was_member p [] v h = h
was_member p (w ∷ ws) v h = elim (first_kept (p w) w (filter p ws) v h) as (λ _. Contains (w ∷ ws) v) [
  | inl same ↦ subst (Contains (w ∷ ws)) same (here w ws)
  | inr later ↦ there w ws v (was_member p ws v later)
]

module _ (count : ℕ) where
  pub more_below : (es now : Entries) (i : ℕ) (s t : Slot) (r : Option Wish) → now ≡ first_slots (slot_below count) es i → slice_get (map (λ (e : ObjectKey × Slot). e.1) now) i ≡ Some t
      → slice_get (map (λ (e : ObjectKey × Slot). e.1) now) i ≡ Some s → r ≡ (slot_below count t).wish → set_value_at now i (record s { wish = r }) ≡ first_slots (slot_below count) es (i + 1)
  more_below es now i s t r is at also told =
      let same : s ≡ t = cc (at, also) in
      more_written (slot_below count) es now i t (record s { wish = r }) is at (ap (λ (y : Slot). record y { wish = r }) same ∙ ap (λ (w : Option Wish). record t { wish = w }) told)

  one_below : (b : Bool) (w : Wish) (now kept : List Wish) → now ≡ kept → cons_option (if b then Some w else None) now ≡ cond b (w ∷ kept) kept
  one_below true w now kept same = ap (λ (ws : List Wish). w ∷ ws) same
  one_below false w now kept same = same

  pub wishes_below : (es : Entries) → wishes (each_slot (slot_below count) es) ≡ filter (λ (w : Wish). nat_lt w.first count) (wishes es)
  wishes_below [] = refl
  wishes_below (e ∷ es) = by e.1.wish (wishes_below es)
    where
      by : (r : Option Wish) → wishes (each_slot (slot_below count) es) ≡ filter (λ (w : Wish). nat_lt w.first count) (wishes es)
          → cons_option (wish_below count r) (wishes (each_slot (slot_below count) es)) ≡ filter (λ (w : Wish). nat_lt w.first count) (cons_option r (wishes es))
      by None rest = rest
      by (Some w) rest = one_below (nat_lt w.first count) w (wishes (each_slot (slot_below count) es)) (filter (λ (v : Wish). nat_lt v.first count) (wishes es)) rest

  pub held_below : (es : Entries) → listed Held (each_slot (slot_below count) es) ≡ listed Held es
  held_below [] = refl
  held_below (e ∷ es) = ap (cons_option e.1.held) (held_below es)

  was_there : (b : Bool) (v w : Wish) → (if b then Some v else None) ≡ Some w → Some v ≡ Some w
  was_there true v w h = h
  was_there false v w h = absurd (cc h)

  wish_was : (r : Option Wish) (w : Wish) → wish_below count r ≡ Some w → r ≡ Some w
  wish_was None w h = cc h
  wish_was (Some v) w h = was_there (nat_lt v.first count) v w h

  objects_below : (es : Entries) (x : Object) → Has (wished_set (wishes (each_slot (slot_below count) es))) x → Has (wished_set (wishes es)) x
  objects_below es x has =
      let now = wishes (each_slot (slot_below count) es) in
      let from = member_of_map (λ (w : Wish). w.object) now x (member_of_set (map (λ (w : Wish). w.object) now) x has) in
      let was = was_member (λ (w : Wish). nat_lt w.first count) (wishes es) from.source (subst (λ (ws : List Wish). Contains ws from.source) (wishes_below es) from.member) in
      set_of_member (map (λ (w : Wish). w.object) (wishes es)) x (subst (Contains (map (λ (w : Wish). w.object) (wishes es))) from.same (map_member (λ (w : Wish). w.object) (wishes es) from.source was))

  pub slots_below : (es : Entries) → AreSlots es → AreSlots (each_slot (slot_below count) es)
  slots_below es slots = record {
    each = λ e member.
        let from = member_of_map (λ (e : ObjectKey × Slot). (e.0, slot_below count e.1)) es e member in
        let was = slots.each from.source from.member in
        subst IsSlot from.same (record { held = was.held; wish = λ w h. was.wish w (wish_was from.source.1.wish w h) });
    held = subst (λ xs. IsGrounded (set.from_list xs)) (sym (held_below es)) slots.held;
    wishes = grounded_within (wished_set (wishes (each_slot (slot_below count) es))) (wished_set (wishes es)) (objects_below es) slots.wishes;
  }

  as_many_below : (es : Entries) → length (each_slot (slot_below count) es) ≡ length es
  as_many_below es = length-map es (λ (e : ObjectKey × Slot). (e.0, slot_below count e.1))

  decider_was : (r : Option Wish) (w : Wish) → option_map unjudged (wish_below count r) ≡ Some w → option_map unjudged r ≡ Some w
  decider_was None w h = h
  decider_was (Some v) w h = by (nat_lt v.first count) h
    where
      by : (b : Bool) → option_map unjudged (if b then Some v else None) ≡ Some w → Some (unjudged v) ≡ Some w
      by true h = h
      by false h = absurd (cc h)

  were_deciders : (es : Entries) (i : ℕ) (w : Wish) → slice_get (deciders (each_slot (slot_below count) es)) i ≡ Some (Some w) → slice_get (deciders es) i ≡ Some (Some w)
  were_deciders [] i w h = h
  were_deciders (e ∷ es) zero w h = let now : option_map unjudged (wish_below count e.1.wish) ≡ Some w = cc h in ap (λ (r : Option Wish). Some r) (decider_was e.1.wish w now)
  were_deciders (e ∷ es) (suc i) w h = were_deciders es i w h

  pub no_new_below : (es : Entries) → HasNoNewWish (deciders es) (deciders (each_slot (slot_below count) es))
  no_new_below es = record {
    size = omega (arith, as_many_deciders es, as_many_deciders (each_slot (slot_below count) es), as_many_below es);
    was = were_deciders es;
  }

  pub size_below : (es now : Entries) → now ≡ each_slot (slot_below count) es → length now ≡ length es
  size_below es now is = ap length is ∙ as_many_below es
