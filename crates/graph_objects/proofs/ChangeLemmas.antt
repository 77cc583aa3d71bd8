-- What one slot with another object held makes of the sets on both sides.
use Rattle.std.proofs.Common.{ℕ, zero, suc, ◌≡◌, ◌⊎◌, inl, inr, List, [], ◌∷◌, Contains, Option, Some, None, true, Bool, refl, ap, sym, subst, ◌∙◌}
use Rattle.std.specs.Prelude.{slice_get, not}
use Rattle.std.specs.List.{cons_option, IsDistinct}
use Rattle.std.specs.Map.{keys_of}
use Rattle.std.specs.FinSet as set
use Rattle.indexmap.specs.IndexMap.{set_value_at}
use Rattle.kern_model.specs.declared.object.LinkKind.{LinkKind}
use Rattle.kern_model.specs.declared.object.LinkKind.TheVariants.{Vlan}
use Rattle.kern_model.specs.declared.object.Object.{Object}
use Rattle.kern_model.specs.declared.object.Object.TheVariants as object
use Rattle.kern_model.specs.declared.object.Call.TheVariants.{Put}
use Rattle.kern_model.specs.ObjectOrder.{Objects, Has}
use Rattle.kern_model.specs.Kernel.{replaces, after_call}
use Rattle.kern_model.specs.Touched.{is_taken, is_replaced}
use Rattle.kern_model.proofs.MemberLemmas.{here, there, first_or_later, none_in_nil}
use Rattle.kern_model.proofs.SetLemmas.{same_or_other, has_itself, has_before, new_or_before, has_without, of_without, has_retained, of_retained, same_members}
use Rattle.kern_model.proofs.TestLemmas.{of_not, not_true, true_or_not, bytes_same}
use Rattle.kern_model.proofs.TouchLemmas.{replaced_by, taken_of, taken_unwanted, touched_held}
use Rattle.kern_model.proofs.GoneLemmas.{is_over_of_test, test_of_is_over}
use Rattle.kern_calls.proofs.GoOnLemmas.{still_over}
use Rattle.graph_objects.specs.declared.key.ObjectKey.{ObjectKey}
use Rattle.graph_objects.specs.declared.slot.Slot.{Slot}
use Rattle.graph_objects.specs.declared.slot.Side.TheVariants.{Held, Wanted}
use Rattle.graph_objects.specs.Keys.{key_of}
use Rattle.graph_objects.specs.Steady.{IsGrounded}
use Rattle.graph_objects.specs.Slots.{Entries, set_on, wishes, wished_set, IsAt, IsSlot, AreSlots}
use Rattle.graph_objects.proofs.SteadyLemmas.{grounded_within}
use Rattle.graph_objects.proofs.SlotLemmas.{in_slot, of_slot, is_at, one_at, steady_on, lone}

-- a member of the written entries was one, or is that which was written
pub after : (es : Entries) (i : ℕ) (key : ObjectKey) (s w : Slot) → slice_get es i ≡ Some (key, s) → (e : ObjectKey × Slot) → Contains (set_value_at es i w) e → Contains es e ⊎ ((key, w) ≡ e)
after [] i key s w at e member = absurd (none_in_nil e member)
after (x ∷ xs) zero key s w at e member =
    let same : x ≡ (key, s) = cc at in
    elim (first_or_later (x.0, w) xs e member) as (λ _. Contains (x ∷ xs) e ⊎ ((key, w) ≡ e)) [
      | inl is ↦ inr (ap (λ (y : ObjectKey × Slot). (y.0, w)) (sym same) ∙ is)
      | inr later ↦ inl (there x xs e later)
    ]
after (x ∷ xs) (suc i) key s w at e member = elim (first_or_later x (set_value_at xs i w) e member) as (λ _. Contains (x ∷ xs) e ⊎ ((key, w) ≡ e)) [
  | inl is ↦ inl (subst (Contains (x ∷ xs)) is (here x xs))
  | inr later ↦ elim (after xs i key s w at e later) as (λ _. Contains (x ∷ xs) e ⊎ ((key, w) ≡ e)) [ inl was ↦ inl (there x xs e was) | inr is ↦ inr is ]
]

-- a member stays one, or was at the place
pub before : (es : Entries) (i : ℕ) (key : ObjectKey) (s w : Slot) → slice_get es i ≡ Some (key, s) → (e : ObjectKey × Slot) → Contains es e → Contains (set_value_at es i w) e ⊎ ((key, s) ≡ e)
before [] i key s w at e member = absurd (none_in_nil e member)
before (x ∷ xs) zero key s w at e member =
    let same : x ≡ (key, s) = cc at in
    elim (first_or_later x xs e member) as (λ _. Contains ((x.0, w) ∷ xs) e ⊎ ((key, s) ≡ e)) [
      | inl is ↦ inr (sym same ∙ is)
      | inr later ↦ inl (there (x.0, w) xs e later)
    ]
before (x ∷ xs) (suc i) key s w at e member = elim (first_or_later x xs e member) as (λ _. Contains (x ∷ set_value_at xs i w) e ⊎ ((key, s) ≡ e)) [
  | inl is ↦ inl (subst (Contains (x ∷ set_value_at xs i w)) is (here x (set_value_at xs i w)))
  | inr later ↦ elim (before xs i key s w at e later) as (λ _. Contains (x ∷ set_value_at xs i w) e ⊎ ((key, s) ≡ e)) [ inl stays ↦ inl (there x (set_value_at xs i w) e stays) | inr is ↦ inr is ]
]

-- what was written is a member
pub written : (es : Entries) (i : ℕ) (key : ObjectKey) (s w : Slot) → slice_get es i ≡ Some (key, s) → Contains (set_value_at es i w) (key, w)
written [] i key s w at = cc at
written (x ∷ xs) zero key s w at = let same : x ≡ (key, s) = cc at in subst (λ k. Contains ((x.0, w) ∷ xs) (k, w)) (ap (λ (e : ObjectKey × Slot). e.0) same) (here (x.0, w) xs)
written (x ∷ xs) (suc i) key s w at = there x (set_value_at xs i w) (key, w) (written xs i key s w at)

-- what is at a place is a member
pub at_place : (es : Entries) (i : ℕ) (e : ObjectKey × Slot) → slice_get es i ≡ Some e → Contains es e
at_place [] i e at = cc at
at_place (x ∷ xs) zero e at = subst (Contains (x ∷ xs)) (cc at) (here x xs)
at_place (x ∷ xs) (suc i) e at = there x xs e (at_place xs i e at)

-- the keys stay, and so does what may be wanted, where the slot's wish does
pub keys_stay : (es : Entries) (i : ℕ) (w : Slot) → keys_of (set_value_at es i w) ≡ keys_of es
keys_stay [] i w = refl
keys_stay (x ∷ xs) zero w = refl
keys_stay (x ∷ xs) (suc i) w = ap (λ (ks : List ObjectKey). x.0 ∷ ks) (keys_stay xs i w)

pub wishes_stay : (es : Entries) (i : ℕ) (key : ObjectKey) (s w : Slot) → slice_get es i ≡ Some (key, s) → w.wish ≡ s.wish → wishes (set_value_at es i w) ≡ wishes es
wishes_stay [] i key s w at same = refl
wishes_stay (x ∷ xs) zero key s w at same = let is : x ≡ (key, s) = cc at in ap (λ r. cons_option r (wishes xs)) (same ∙ ap (λ (e : ObjectKey × Slot). e.1.wish) (sym is))
wishes_stay (x ∷ xs) (suc i) key s w at same = ap (cons_option x.1.wish) (wishes_stay xs i key s w at same)

-- links that are among those of a grounded set
pub grounded_by_links : (s t : Objects) → ((v : List ℕ) (kind : LinkKind) → Has s (object.Link v kind) → Has t (object.Link v kind)) → IsGrounded t → IsGrounded s
grounded_by_links s t within grounded name lower id mac h over =
    grounded name lower id mac (within name (Vlan lower id mac) h)
    (test_of_is_over t name lower (still_over s t name lower (λ v kind g _. within v kind g) (is_over_of_test s name lower over)))

-- an object that replaces another has its key
pub replaces_key : (a b : Object) → replaces a b ≡ true → key_of a ≡ key_of b
replaces_key (object.Mtu n m) (object.Mtu o k) h = λ i. record { rank = 9; name = bytes_same n o h i; id = 0 }
replaces_key (object.Mac n m) (object.Mac o k) h = λ i. record { rank = 10; name = bytes_same n o h i; id = 0 }
replaces_key a b h = cc h

module _ (eq : ObjectKey → ObjectKey → Bool) (same : (x y : ObjectKey) → eq x y ≡ true → x ≡ y) (itself : (x : ObjectKey) → eq x x ≡ true)
    (es : Entries) (slots : AreSlots es) (once : IsDistinct eq (keys_of es)) (i : ℕ) (key : ObjectKey) (s : Slot) (at : slice_get es i ≡ Some (key, s)) where
  -- the slot with another object held, or none
  abbrev now : Option Object → Entries
  now held = set_value_at es i (record s { held = held })

  here_was : IsSlot (key, s)
  here_was = slots.each (key, s) (at_place es i (key, s) at)

  once_now : (held : Option Object) → IsDistinct eq (keys_of (now held))
  once_now held = subst (IsDistinct eq) (sym (keys_stay es i (record s { held = held }))) once

  each_now : (held : Option Object) → ((o : Object) → held ≡ Some o → IsAt key o) → (e : ObjectKey × Slot) → Contains (now held) e → IsSlot e
  each_now held fit e member = elim (after es i key s (record s { held = held }) at e member) as (λ _. IsSlot e) [
    | inl was ↦ slots.each e was
    | inr is ↦ subst IsSlot is (record { held = fit; wish = here_was.wish })
  ]

  -- what is held now was held, or is the object
  held_now : (held : Option Object) (x : Object) → Has (set_on Held (now held)) x → Has (set_on Held es) x ⊎ (held ≡ Some x)
  held_now held x h =
      let from = in_slot Held (now held) x h in
      elim (after es i key s (record s { held = held }) at from.source from.member) as (λ _. Has (set_on Held es) x ⊎ (held ≡ Some x)) [
        | inl was ↦ inl (of_slot Held es from.source x was from.gives)
        | inr is ↦ inr (ap (λ (e : ObjectKey × Slot). e.1.held) is ∙ from.gives)
      ]

  -- what was held is held, or was in the slot
  held_before : (held : Option Object) (x : Object) → Has (set_on Held es) x → Has (set_on Held (now held)) x ⊎ (s.held ≡ Some x)
  held_before held x h =
      let from = in_slot Held es x h in
      elim (before es i key s (record s { held = held }) at from.source from.member) as (λ _. Has (set_on Held (now held)) x ⊎ (s.held ≡ Some x)) [
        | inl stays ↦ inl (of_slot Held (now held) from.source x stays from.gives)
        | inr is ↦ inr (ap (λ (e : ObjectKey × Slot). e.1.held) is ∙ from.gives)
      ]

  pub wishes_now : (held : Option Object) → wishes (now held) ≡ wishes es
  wishes_now held = wishes_stay es i key s (record s { held = held }) at refl

  module _ (o : Object) (place : key ≡ key_of o) where
    -- what is held of the key is in the slot
    pub held_here : Has (set_on Held es) o → s.held ≡ Some o
    held_here h =
        let from = in_slot Held es o h in
        let mine = (slots.each from.source from.member).held o from.gives in
        let one : from.source.1 ≡ s = lone eq same itself es once from.source (key, s) from.member (at_place es i (key, s) at) (sym mine.key ∙ sym place) in
        ap (λ (y : Slot). y.held) (sym one) ∙ from.gives

    -- an object is taken
    taken_away : (x : Object) → Has (set_on Held (now None)) x → x ≡ o → ⊥
    taken_away x h is =
        let from = in_slot Held (now None) x h in
        let each = each_now None (λ y absent. let no : None ≡ Some y = absent in cc no) in
        let mine = (each from.source from.member).held x from.gives in
        let keys : from.source.0 ≡ key = sym mine.key ∙ ap key_of is ∙ sym place in
        off from.source from.member keys from.gives
      where
        off : (e : ObjectKey × Slot) → Contains (now None) e → e.0 ≡ key → e.1.held ≡ Some x → ⊥
        off e member keys gives =
            let slot = written es i key s (record s { held = None }) at in
            let one = lone eq same itself (now None) (once_now None) e (key, record s { held = None }) member slot keys in
            let absent : e.1.held ≡ None = ap (λ (y : Slot). y.held) one in
            cc (absent, gives)

    pub take_slots : AreSlots (now None)
    take_slots = record {
      each = each_now None (λ x absent. let none : None ≡ Some x = absent in cc none);
      held = grounded_within (set_on Held (now None)) (set_on Held es) (λ x h. elim (held_now None x h) as (λ _. Has (set_on Held es) x) [ inl was ↦ was | inr absent ↦ let none : None ≡ Some x = absent in cc none ]) slots.held;
      wishes = subst (λ ws. IsGrounded (wished_set ws)) (sym (wishes_now None)) slots.wishes;
    }

    pub take_held : s.held ≡ Some o → set_on Held (now None) ≡ set.remove (set_on Held es) o
    take_held held = same_members (set_on Held (now None)) (set.remove (set_on Held es) o)
        (λ x h. has_without (set_on Held es) o x (elim (held_now None x h) as (λ _. Has (set_on Held es) x) [ inl was ↦ was | inr absent ↦ let none : None ≡ Some x = absent in cc none ]) (taken_away x h))
        (λ x h. let was = of_without (set_on Held es) o x h in elim (held_before None x was.0) as (λ _. Has (set_on Held (now None)) x) [
          | inl stays ↦ stays
          | inr here ↦ let is : x ≡ o = cc (held, here) in absurd (was.1 is)
        ])

    -- a wanted object is put, where no other is to be taken
    module _ (wanted : Has (set_on Wanted es) o) (done : (x : Object) → is_taken (set_on Held es) (set_on Wanted es) x ≡ true → ⊥) where
      fit_now : (x : Object) → Some o ≡ Some x → IsAt key x
      fit_now x is = let one : o ≡ x = cc is in subst (IsAt key) one (is_at Wanted es slots o wanted key (sym place))

      -- another object of the key is replaced
      replaced : (x : Object) → Has (set_on Held es) x → key_of x ≡ key_of o → (x ≡ o → ⊥) → replaces o x ≡ true
      replaced x had keys other =
          let unwanted : Has (set_on Wanted es) x → ⊥ = λ is. other (one_at eq same itself es slots.each once Wanted x o is wanted keys) in
          elim (true_or_not (is_replaced (set_on Held es) (set_on Wanted es) x)) as (λ _. replaces o x ≡ true) [
            | inl is ↦
                let by = replaced_by (set_on Held es) (set_on Wanted es) x is in
                let one = one_at eq same itself es slots.each once Wanted by.by o by.is wanted (replaces_key by.by x by.place ∙ keys) in
                subst (λ y. replaces y x ≡ true) one by.place
            | inr kept ↦ absurd (done x (taken_of (set_on Held es) (set_on Wanted es) x had (touched_held (set_on Held es) (set_on Wanted es) x had unwanted) kept))
          ]

      pub link_wanted : (v : List ℕ) (kind : LinkKind) → Has (set_on Held (now (Some o))) (object.Link v kind) → Has (set_on Wanted es) (object.Link v kind)
      link_wanted v kind h = elim (held_now (Some o) (object.Link v kind) h) as (λ _. Has (set_on Wanted es) (object.Link v kind)) [
        | inl was ↦ elim (true_or_not (set.contains (set_on Wanted es) (object.Link v kind))) as (λ _. Has (set_on Wanted es) (object.Link v kind)) [
          | inl is ↦ is
          | inr unwanted ↦ absurd (done (object.Link v kind) (taken_unwanted (set_on Held es) (set_on Wanted es) (object.Link v kind) was unwanted (λ none. none)))
        ]
        | inr is ↦ let one : o ≡ object.Link v kind = cc is in subst (Has (set_on Wanted es)) one wanted
      ]

      pub put_slots : AreSlots (now (Some o))
      put_slots = record {
        each = each_now (Some o) fit_now;
        held = grounded_by_links (set_on Held (now (Some o))) (set_on Wanted es) link_wanted (steady_on eq same itself es slots once Wanted).grounded;
        wishes = subst (λ ws. IsGrounded (wished_set ws)) (sym (wishes_now (Some o))) slots.wishes;
      }

      put_there : Has (set_on Held (now (Some o))) o
      put_there = of_slot Held (now (Some o)) (key, record s { held = Some o }) o (written es i key s (record s { held = Some o }) at) refl

      pub put_held : set_on Held (now (Some o)) ≡ after_call (set_on Held es) (Put o)
      put_held = same_members (set_on Held (now (Some o))) (after_call (set_on Held es) (Put o)) to back
        where
          rest : Objects
          rest = set.retain (set_on Held es) (λ old. not (replaces o old))

          to : (x : Object) → Has (set_on Held (now (Some o))) x → Has (after_call (set_on Held es) (Put o)) x
          to x h = elim (same_or_other x o) as (λ _. Has (after_call (set_on Held es) (Put o)) x) [
            | inl is ↦ subst (Has (after_call (set_on Held es) (Put o))) (sym is) (has_itself rest o)
            | inr other ↦ elim (held_now (Some o) x h) as (λ _. Has (after_call (set_on Held es) (Put o)) x) [
              | inl was ↦ has_before rest o x (has_retained (set_on Held es) (λ old. not (replaces o old)) x was (of_not (replaces o x) (λ gone.
                  other (one_at eq same itself (now (Some o)) (each_now (Some o) fit_now) (once_now (Some o)) Held x o h put_there (sym (replaces_key o x gone))))))
              | inr new ↦ let is : x ≡ o = cc new in absurd (other is)
            ]
          ]

          back : (x : Object) → Has (after_call (set_on Held es) (Put o)) x → Has (set_on Held (now (Some o))) x
          back x h = elim (new_or_before rest o x h) as (λ _. Has (set_on Held (now (Some o))) x) [
            | inl is ↦ subst (Has (set_on Held (now (Some o)))) (sym is) put_there
            | inr kept ↦
                let was = of_retained (set_on Held es) (λ old. not (replaces o old)) x kept in
                elim (held_before (Some o) x was.0) as (λ _. Has (set_on Held (now (Some o))) x) [
                  | inl stays ↦ stays
                  | inr here ↦ elim (same_or_other x o) as (λ _. Has (set_on Held (now (Some o))) x) [
                    | inl is ↦ subst (Has (set_on Held (now (Some o)))) (sym is) put_there
                    | inr other ↦ absurd (not_true (replaces o x) was.1 (replaced x was.0 ((here_was.held x here).key ∙ place) other))
                  ]
                ]
          ]
