-- The options that are there, by slots.
use Rattle.std.proofs.Common.{ℕ, zero, suc, ◌≡◌, ◌≢◌, ◌<◌, ◌≤◌, ◌+◌, ◌↔◌, ◌⊎◌, inl, inr, Bool, true, false, cond, List, [], ◌∷◌, ◌++◌, length, get_or, set, take, Option, Some, None, bytes_eq, refl, sym, ap, subst, ◌∙◌, arith, ⊎_elim}
use Rattle.std.specs.Ordering.{nat_cmp}
use Rattle.std.specs.Cmp.Lexicographic.{slice_cmp, texts_ties}
use Rattle.std.specs.BTreeMap.{BTreeMap, get, is_at}
use Rattle.std.specs.Prelude.{IfNone}
use Rattle.std.proofs.lemmas.Bool.{cases_lt}
use Rattle.std.proofs.lemmas.Slice.Eq.{bytes_eq-Decides}
use Rattle.uci_tree.specs.declared.package.Value.{Value}
use Rattle.uci_tree.specs.declared.package.Opt.{Opt}
use Rattle.uci_tree.specs.Fold.{put, without}
use Rattle.uci_tree.specs.declared.options.TheConstants.{SCANNED}
use Rattle.uci_tree.specs.Slots.{kept, value_of, Holds, HoldsAt, AreApart, HasLaterSlots, HasSlots, Notes, Noted}

-- tests of names
refuted : (b : Bool) → (b ≡ true → ⊥) → b ≡ false
refuted true h = absurd (h refl)
refuted false h = refl

where_true : {X : Type 0} (b : Bool) (x y : X) → b ≡ true → cond b x y ≡ x
where_true true x y e = refl
where_true false x y e = absurd (let f : false ≡ true = e in cc)

where_false : {X : Type 0} (b : Bool) (x y : X) → b ≡ false → cond b x y ≡ y
where_false true x y e = absurd (let f : true ≡ false = e in cc)
where_false false x y e = refl

is_same : (a b : List ℕ) → a ≡ b → bytes_eq a b ≡ true
is_same a b e = (bytes_eq-Decides a b).1 e

is_other : (a b : List ℕ) → a ≢ b → bytes_eq a b ≡ false
is_other a b n = refuted (bytes_eq a b) (λ e. n ((bytes_eq-Decides a b).0 e))

-- where a slot has a name
pub held_within : (name : List ℕ) (slots : List (Option Opt)) (place : ℕ) → HoldsAt name slots place → place < length slots
held_within name [] place h = absurd h
held_within name (slot ∷ slots) zero h = omega arith
held_within name (slot ∷ slots) (suc place) h = let g : place < length slots = held_within name slots place h in omega arith

held_name : (name other : List ℕ) (slots : List (Option Opt)) (place : ℕ) → HoldsAt name slots place → HoldsAt other slots place → name ≡ other
held_name name other [] place h g = absurd h
held_name name other (None ∷ slots) zero h g = absurd h
held_name name other (Some option ∷ slots) zero h g = sym h ∙ g
held_name name other (slot ∷ slots) (suc place) h g = held_name name other slots place h g

-- a slot is written with an option of the name that it has
written_holds : (name other : List ℕ) (slot : Option Opt) → Holds name slot → Holds other slot ↔ (name ≡ other)
written_holds name other None h = absurd h
written_holds name other (Some option) h = (λ g. sym h ∙ g, λ e. h ∙ e)

written_held : (name other : List ℕ) (value : Value) (slots : List (Option Opt)) (place at : ℕ) → HoldsAt name slots place → HoldsAt other slots at ↔ HoldsAt other (set slots place (Some (record { name = name; value = value }))) at
written_held name other value [] place at h = absurd h
written_held name other value (slot ∷ slots) zero zero h = written_holds name other slot h
written_held name other value (slot ∷ slots) zero (suc at) h = (λ g. g, λ g. g)
written_held name other value (slot ∷ slots) (suc place) zero h = (λ g. g, λ g. g)
written_held name other value (slot ∷ slots) (suc place) (suc at) h = written_held name other value slots place at h

pub written_slots : (places : BTreeMap (List ℕ) ℕ) (slots : List (Option Opt)) (name : List ℕ) (value : Value) (place : ℕ) → HasSlots places slots → HoldsAt name slots place
    → HasSlots places (set slots place (Some (record { name = name; value = value })))
written_slots places slots name value place h there = record {
  apart = λ other at also a b. h.apart other at also ((written_held name other value slots place at there).1 a) ((written_held name other value slots place also there).1 b);
  later = λ other at. let same = written_held name other value slots place at there in
      (λ e. let g = (h.later other at).0 e in (same.0 g.0, g.1), λ g. (h.later other at).1 (same.1 g.0, g.1));
}

-- a slot at the end
push_keeps : (other : List ℕ) (slots : List (Option Opt)) (slot : Option Opt) (at : ℕ) → HoldsAt other slots at → HoldsAt other (slots ++ slot ∷ []) at
push_keeps other [] slot at h = absurd h
push_keeps other (first ∷ slots) slot zero h = h
push_keeps other (first ∷ slots) slot (suc at) h = push_keeps other slots slot at h

push_last : (other : List ℕ) (slots : List (Option Opt)) (slot : Option Opt) → Holds other slot → HoldsAt other (slots ++ slot ∷ []) (length slots)
push_last other [] slot h = h
push_last other (first ∷ slots) slot h = push_last other slots slot h

one_later : {P : Type 0} (at place : ℕ) → (at ≡ place) × P → (suc at ≡ suc place) × P
one_later at place h = (ap (λ (n : ℕ). suc n) h.0, h.1)

push_from : (other : List ℕ) (slots : List (Option Opt)) (slot : Option Opt) (at : ℕ) → HoldsAt other (slots ++ slot ∷ []) at → HoldsAt other slots at ⊎ ((at ≡ length slots) × Holds other slot)
push_from other [] slot zero h = inr (refl, h)
push_from other [] slot (suc at) h = absurd h
push_from other (first ∷ slots) slot zero h = inl h
push_from other (first ∷ slots) slot (suc at) h = ⊎_elim (λ g. inl g) (λ g. inr (one_later at (length slots) g)) (push_from other slots slot at h)

-- a slot becomes empty
emptied_keeps : (other : List ℕ) (slots : List (Option Opt)) (place at : ℕ) → at ≢ place → HoldsAt other slots at → HoldsAt other (set slots place None) at
emptied_keeps other [] place at n h = absurd h
emptied_keeps other (slot ∷ slots) zero zero n h = absurd (n refl)
emptied_keeps other (slot ∷ slots) zero (suc at) n h = h
emptied_keeps other (slot ∷ slots) (suc place) zero n h = h
emptied_keeps other (slot ∷ slots) (suc place) (suc at) n h = emptied_keeps other slots place at (λ e. n (ap (λ (k : ℕ). suc k) e)) h

emptied_from : (other : List ℕ) (slots : List (Option Opt)) (place at : ℕ) → HoldsAt other (set slots place None) at → HoldsAt other slots at × (at ≢ place)
emptied_from other [] place at h = absurd h
emptied_from other (slot ∷ slots) zero zero h = absurd h
emptied_from other (slot ∷ slots) zero (suc at) h = (h, λ e. absurd (omega (arith, e)))
emptied_from other (slot ∷ slots) (suc place) zero h = (h, λ e. absurd (omega (arith, e)))
emptied_from other (slot ∷ slots) (suc place) (suc at) h = let g = emptied_from other slots place at h in (g.0, λ e. g.1 (omega (arith, e)))

-- a name is noted or taken out
noted_here : (old new : BTreeMap (List ℕ) ℕ) (name other : List ℕ) (place : Option ℕ) → Notes old new name place → name ≡ other → get (slice_cmp nat_cmp) new other ≡ place
noted_here old new name other place h e = h other ∙ where_true (is_at (slice_cmp nat_cmp name) other) place (get (slice_cmp nat_cmp) old other) (sym (texts_ties name other) ∙ is_same name other e)

noted_elsewhere : (old new : BTreeMap (List ℕ) ℕ) (name other : List ℕ) (place : Option ℕ) → Notes old new name place → name ≢ other → get (slice_cmp nat_cmp) new other ≡ get (slice_cmp nat_cmp) old other
noted_elsewhere old new name other place h n = h other ∙ where_false (is_at (slice_cmp nat_cmp name) other) place (get (slice_cmp nat_cmp) old other) (sym (texts_ties name other) ∙ is_other name other n)

by_test : (a b : List ℕ) (t : Bool) → bytes_eq a b ≡ t → (a ≡ b) ⊎ (a ≢ b)
by_test a b true e = inl ((bytes_eq-Decides a b).0 e)
by_test a b false e = inr (λ s. let f : true ≡ false = sym (is_same a b s) ∙ e in cc)

same_or_not : (a b : List ℕ) → (a ≡ b) ⊎ (a ≢ b)
same_or_not a b = by_test a b (bytes_eq a b) refl

no_place : (was : Option ℕ) (place : ℕ) → was ≡ None → was ≡ Some place → ⊥
no_place was place e f = let g : None ≡ Some place = sym e ∙ f in cc

Absent : List ℕ → List (Option Opt) → Type 0
Absent name slots = (at : ℕ) → HoldsAt name slots at → ⊥

pushed_apart : (slots : List (Option Opt)) (name : List ℕ) (value : Value) → AreApart slots → Absent name slots → AreApart (slots ++ Some (record { name = name; value = value }) ∷ [])
unfolding Absent
pushed_apart slots name value h n other at also a b =
    let slot : Option Opt = Some (record { name = name; value = value }) in
    ⊎_elim
    (λ old. ⊎_elim
    (λ late. h other at also old late)
    (λ last. absurd (n at (subst (λ (z : List ℕ). HoldsAt z slots at) (sym last.1) old)))
    (push_from other slots slot also b))
    (λ last. ⊎_elim
    (λ late. absurd (n also (subst (λ (z : List ℕ). HoldsAt z slots also) (sym last.1) late)))
    (λ end. last.0 ∙ sym end.0)
    (push_from other slots slot also b))
    (push_from other slots slot at a)

pushed_first : (places : BTreeMap (List ℕ) ℕ) (slots : List (Option Opt)) (name : List ℕ) (value : Value) → HasLaterSlots places slots → length slots < SCANNED
    → HasLaterSlots places (slots ++ Some (record { name = name; value = value }) ∷ [])
pushed_first places slots name value h few other at =
    let slot : Option Opt = Some (record { name = name; value = value }) in (
      λ e. let g = (h other at).0 e in (push_keeps other slots slot at g.0, g.1),
      λ g. ⊎_elim
          (λ old. (h other at).1 (old, g.1))
          (λ last. absurd (omega (arith, last.0, few, g.1)))
          (push_from other slots slot at g.0),
    )

pushed_later : (old new : BTreeMap (List ℕ) ℕ) (slots : List (Option Opt)) (name : List ℕ) (value : Value) → HasLaterSlots old slots → Absent name slots → SCANNED ≤ length slots → Notes old new name (Some (length slots))
    → HasLaterSlots new (slots ++ Some (record { name = name; value = value }) ∷ [])
unfolding Absent
pushed_later old new slots name value h absent many n other at =
    let slot : Option Opt = Some (record { name = name; value = value }) in (
      λ e. ⊎_elim
          (λ same. let here : Some (length slots) ≡ Some at = sym (noted_here old new name other (Some (length slots)) n same) ∙ e in let last : length slots ≡ at = cc in
          (subst (λ (k : ℕ). HoldsAt other (slots ++ slot ∷ []) k) last (push_last other slots slot same), omega (arith, last, many)))
          (λ apart. let g = (h other at).0 (sym (noted_elsewhere old new name other (Some (length slots)) n apart) ∙ e) in (push_keeps other slots slot at g.0, g.1))
          (same_or_not name other),
      λ g. ⊎_elim
          (λ held. let apart : name ≢ other = λ same. absent at (subst (λ (z : List ℕ). HoldsAt z slots at) (sym same) held) in
          noted_elsewhere old new name other (Some (length slots)) n apart ∙ (h other at).1 (held, g.1))
          (λ last. noted_here old new name other (Some (length slots)) n last.1 ∙ ap (λ (k : ℕ). Some k) (sym last.0))
          (push_from other slots slot at g.0),
    )

pushed_by : (old new : BTreeMap (List ℕ) ℕ) (slots : List (Option Opt)) (name : List ℕ) (value : Value) → HasSlots old slots → Absent name slots → Noted old new name (length slots) → (length slots < SCANNED) ⊎ (SCANNED ≤ length slots)
    → HasSlots new (slots ++ Some (record { name = name; value = value }) ∷ [])
pushed_by old new slots name value h absent n (inl few) = record {
  apart = pushed_apart slots name value h.apart absent;
  later = subst (λ (z : BTreeMap (List ℕ) ℕ). HasLaterSlots z (slots ++ Some (record { name = name; value = value }) ∷ [])) (sym (n.first few)) (pushed_first old slots name value h.later few);
}
pushed_by old new slots name value h absent n (inr many) = record {
  apart = pushed_apart slots name value h.apart absent;
  later = pushed_later old new slots name value h.later absent many (n.later many);
}

few_or_many : (count most : ℕ) → (count < most) ⊎ (most ≤ count)
few_or_many count most = cases_lt count most

emptied_apart : (slots : List (Option Opt)) (place : ℕ) → AreApart slots → AreApart (set slots place None)
emptied_apart slots place h other at also a b = h other at also (emptied_from other slots place at a).0 (emptied_from other slots place also b).0

pub emptied_slots : (old new : BTreeMap (List ℕ) ℕ) (slots : List (Option Opt)) (name : List ℕ) (place : ℕ) → HasSlots old slots → HoldsAt name slots place → Notes old new name None → HasSlots new (set slots place None)
emptied_slots old new slots name place h held n = record {
  apart = emptied_apart slots place h.apart;
  later = λ other at. (
    λ e. ⊎_elim
        (λ same. absurd (no_place (get (slice_cmp nat_cmp) new other) at (noted_here old new name other None n same) e))
        (λ apart. let was = (h.later other at).0 (sym (noted_elsewhere old new name other None n apart) ∙ e) in
        (emptied_keeps other slots place at (λ k. apart (held_name name other slots place held (subst (λ (z : ℕ). HoldsAt other slots z) k was.0))) was.0, was.1))
        (same_or_not name other),
    λ g. let was = emptied_from other slots place at g.0 in
        let apart : name ≢ other = λ same. was.1 (h.apart other at place was.0 (subst (λ (z : List ℕ). HoldsAt z slots place) same held)) in
        noted_elsewhere old new name other None n apart ∙ (h.later other at).1 (was.0, g.1),
  );
}

pub pushed_slots : (old new : BTreeMap (List ℕ) ℕ) (slots pushed : List (Option Opt)) (name : List ℕ) (value : Value) (place : ℕ) → HasSlots old slots → ((at : ℕ) → HoldsAt name slots at → ⊥) → place ≡ length slots → pushed ≡ slots
    ++ Some (record { name = name; value = value }) ∷ [] → Noted old new name place → HasSlots new pushed
unfolding Absent
pushed_slots old new slots pushed name value place h absent p w n =
    subst (λ (z : List (Option Opt)). HasSlots new z) (sym w) (pushed_by old new slots name value h absent (subst (λ (z : ℕ). Noted old new name z) p n) (few_or_many (length slots) SCANNED))

-- a slot is looked for
pub held_there : (name : List ℕ) (slots : List (Option Opt)) (place : ℕ) (other : Option Opt) → HoldsAt name slots place → Holds name (get_or slots place other)
held_there name [] place other h = absurd h
held_there name (slot ∷ slots) zero other h = h
held_there name (slot ∷ slots) (suc place) other h = held_there name slots place other h

pub holds_there : (name : List ℕ) (slots : List (Option Opt)) (place : ℕ) (other : Option Opt) → place < length slots → Holds name (get_or slots place other) → HoldsAt name slots place
holds_there name [] place other l h = absurd (omega (arith, l))
holds_there name (slot ∷ slots) zero other l h = h
holds_there name (slot ∷ slots) (suc place) other l h = holds_there name slots place other (omega (arith, l)) h

pub none_so_far : (name : List ℕ) (slots : List (Option Opt)) (place : ℕ) (other : Option Opt) → ((k : ℕ) → k < place → HoldsAt name slots k → ⊥) → (Holds name (get_or slots place other) → ⊥) → (k : ℕ) → k < place + 1 → HoldsAt name slots k
    → ⊥
none_so_far name slots place other h n k l there = ⊎_elim
    (λ early. h k early there)
    (λ late. let same : k ≡ place = omega (arith, l, late) in
    n (held_there name slots place other (subst (λ (z : ℕ). HoldsAt name slots z) same there)))
    (cases_lt k place)

front_held : (name : List ℕ) (slots : List (Option Opt)) (count place : ℕ) → HoldsAt name (take count slots) place → HoldsAt name slots place
front_held name [] zero place h = h
front_held name [] (suc count) place h = h
front_held name (slot ∷ slots) zero place h = absurd h
front_held name (slot ∷ slots) (suc count) zero h = h
front_held name (slot ∷ slots) (suc count) (suc place) h = front_held name slots count place h

held_in_front : (name : List ℕ) (slots : List (Option Opt)) (count place : ℕ) → place < count → HoldsAt name slots place → HoldsAt name (take count slots) place
held_in_front name [] count place l h = absurd h
held_in_front name (slot ∷ slots) zero place l h = absurd (omega (arith, l))
held_in_front name (slot ∷ slots) (suc count) zero l h = h
held_in_front name (slot ∷ slots) (suc count) (suc place) l h = held_in_front name slots count place (omega (arith, l)) h

pub where_none : {P : Type 0} (place : Option ℕ) → (place ≡ None → P) → IfNone place P
where_none None h = h refl
where_none (Some place) h = tt

pub found_first : (name : List ℕ) (slots first : List (Option Opt)) (count place : ℕ) → first ≡ take count slots → HoldsAt name first place → HoldsAt name slots place
found_first name slots first count place f h = front_held name slots count place (subst (λ (z : List (Option Opt)). HoldsAt name z place) f h)

pub found_later : (places : BTreeMap (List ℕ) ℕ) (slots : List (Option Opt)) (name : List ℕ) (place : ℕ) → HasSlots places slots → get (slice_cmp nat_cmp) places name ≡ Some place → HoldsAt name slots place
found_later places slots name place h e = ((h.later name place).0 e).0

early_or_late : (place count all first : ℕ) → place < all → (all ≤ count) ⊎ (first ≤ count) → (place < count) ⊎ (first ≤ place)
early_or_late place count all first l (inl h) = inl (omega (arith, l, h))
early_or_late place count all first l (inr h) = ⊎_elim (λ few. inl (omega (arith, few, h))) (λ many. inr many) (few_or_many place first)

pub found_nowhere : (places : BTreeMap (List ℕ) ℕ) (slots first : List (Option Opt)) (name : List ℕ) (count : ℕ) → HasSlots places slots → first ≡ take count slots → (length slots ≤ count) ⊎ (SCANNED ≤ count)
    → ((place : ℕ) → HoldsAt name first place → ⊥) → get (slice_cmp nat_cmp) places name ≡ None → (place : ℕ) → HoldsAt name slots place → ⊥
found_nowhere places slots first name count h f c n e place there =
    let within = held_within name slots place there in
    ⊎_elim
    (λ early. n place (subst (λ (z : List (Option Opt)). HoldsAt name z place) (sym f) (held_in_front name slots count place early there)))
    (λ late. no_place (get (slice_cmp nat_cmp) places name) place e ((h.later name place).1 (there, late)))
    (early_or_late place count (length slots) SCANNED within c)

-- an option that is put at the place of its name, or at the end
option_from : List ℕ → Value → Opt
option_from name value = record { name = name; value = value }

put_same : (name : List ℕ) (change : Option Value → Value) (value : Value) (old : Opt) (rest : List Opt) → old.name ≡ name → value ≡ change (Some old.value) → option_from name value ∷ rest ≡ put name change (old ∷ rest)
unfolding option_from
put_same name change value old rest e v =
    ap (λ (z : List ℕ). option_from z value ∷ rest) (sym e)
    ∙ ap (λ (z : Value). option_from old.name z ∷ rest) v
    ∙ sym (where_true (bytes_eq old.name name) (record old { value = change (Some old.value) } ∷ rest) (old ∷ put name change rest) (is_same old.name name e))

put_other : (name : List ℕ) (change : Option Value → Value) (old : Opt) (rest : List Opt) → old.name ≢ name → put name change (old ∷ rest) ≡ old ∷ put name change rest
put_other name change old rest n = where_false (bytes_eq old.name name) (record old { value = change (Some old.value) } ∷ rest) (old ∷ put name change rest) (is_other old.name name n)

Alone : List ℕ → List (Option Opt) → ℕ → Type 0
Alone name slots place = (at : ℕ) → HoldsAt name slots at → at ≡ place

alone_behind : (name : List ℕ) (slot : Option Opt) (slots : List (Option Opt)) (place : ℕ) → Alone name (slot ∷ slots) (suc place) → Alone name slots place
unfolding Alone
alone_behind name slot slots place a at h = let e : suc at ≡ suc place = a (suc at) h in omega arith

other_in_front : (name : List ℕ) (old : Opt) (slots : List (Option Opt)) (place : ℕ) → Alone name (Some old ∷ slots) (suc place) → old.name ≢ name
unfolding Alone
other_in_front name old slots place a e = let f : 0 ≡ suc place = a zero e in absurd (omega arith)

value_there : (old : Opt) (before : Option Opt) (change : Option Value → Value) (value : Value) → before ≡ Some old → value ≡ change (value_of before) → value ≡ change (Some old.value)
value_there old before change value b v = v ∙ ap (λ (z : Option Opt). change (value_of z)) b

put_written : (name : List ℕ) (change : Option Value → Value) (value : Value) (slots : List (Option Opt)) (place : ℕ) (before other : Option Opt) → HoldsAt name slots place → Alone name slots place → before ≡ get_or slots place other
    → value ≡ change (value_of before) → kept (set slots place (Some (record { name = name; value = value }))) ≡ put name change (kept slots)
unfolding option_from
put_written name change value [] place before other h a b v = absurd h
put_written name change value (None ∷ slots) zero before other h a b v = absurd h
put_written name change value (Some old ∷ slots) zero before other h a b v = put_same name change value old (kept slots) h (value_there old before change value b v)
put_written name change value (None ∷ slots) (suc place) before other h a b v = put_written name change value slots place before other h (alone_behind name None slots place a) b v
put_written name change value (Some old ∷ slots) (suc place) before other h a b v =
    ap (λ (z : List Opt). old ∷ z) (put_written name change value slots place before other h (alone_behind name (Some old) slots place a) b v)
    ∙ sym (put_other name change old (kept slots) (other_in_front name old slots place a))

put_pushed : (name : List ℕ) (change : Option Value → Value) (slots : List (Option Opt)) → ((at : ℕ) → HoldsAt name slots at → ⊥) → kept (slots ++ Some (record { name = name; value = change None }) ∷ []) ≡ put name change (kept slots)
put_pushed name change [] n = refl
put_pushed name change (None ∷ slots) n = put_pushed name change slots (λ at. n (suc at))
put_pushed name change (Some old ∷ slots) n = ap (λ (z : List Opt). old ∷ z) (put_pushed name change slots (λ at. n (suc at))) ∙ sym (put_other name change old (kept slots) (n zero))

-- an option is taken out
without_same : (name : List ℕ) (old : Opt) (rest : List Opt) → old.name ≡ name → without name (old ∷ rest) ≡ rest
without_same name old rest e = where_true (bytes_eq old.name name) rest (old ∷ without name rest) (is_same old.name name e)

without_other : (name : List ℕ) (old : Opt) (rest : List Opt) → old.name ≢ name → without name (old ∷ rest) ≡ old ∷ without name rest
without_other name old rest n = where_false (bytes_eq old.name name) rest (old ∷ without name rest) (is_other old.name name n)

without_emptied : (name : List ℕ) (slots : List (Option Opt)) (place : ℕ) → HoldsAt name slots place → Alone name slots place → kept (set slots place None) ≡ without name (kept slots)
without_emptied name [] place h a = absurd h
without_emptied name (None ∷ slots) zero h a = absurd h
without_emptied name (Some old ∷ slots) zero h a = sym (without_same name old (kept slots) h)
without_emptied name (None ∷ slots) (suc place) h a = without_emptied name slots place h (alone_behind name None slots place a)
without_emptied name (Some old ∷ slots) (suc place) h a =
    ap (λ (z : List Opt). old ∷ z) (without_emptied name slots place h (alone_behind name (Some old) slots place a))
    ∙ sym (without_other name old (kept slots) (other_in_front name old slots place a))

without_none : (name : List ℕ) (slots : List (Option Opt)) → ((at : ℕ) → HoldsAt name slots at → ⊥) → kept slots ≡ without name (kept slots)
without_none name [] n = refl
without_none name (None ∷ slots) n = without_none name slots (λ at. n (suc at))
without_none name (Some old ∷ slots) n = ap (λ (z : List Opt). old ∷ z) (without_none name slots (λ at. n (suc at))) ∙ sym (without_other name old (kept slots) (n zero))

-- what the options become
alone : (slots : List (Option Opt)) (name : List ℕ) (place : ℕ) → AreApart slots → HoldsAt name slots place → Alone name slots place
unfolding Alone
alone slots name place h held at g = h name at place g held

pub put_in_slot : (slots : List (Option Opt)) (name : List ℕ) (change : Option Value → Value) (value : Value) (place : ℕ) (before other : Option Opt) → AreApart slots → HoldsAt name slots place → before ≡ get_or slots place other → value
    ≡ change (value_of before) → kept (set slots place (Some (record { name = name; value = value }))) ≡ put name change (kept slots)
put_in_slot slots name change value place before other h held b v = put_written name change value slots place before other held (alone slots name place h held) b v

pub put_at_end : (slots pushed : List (Option Opt)) (name : List ℕ) (change : Option Value → Value) → ((at : ℕ) → HoldsAt name slots at → ⊥) → pushed ≡ slots ++ Some (record { name = name; value = change None }) ∷ [] → kept pushed
    ≡ put name change (kept slots)
put_at_end slots pushed name change n w = ap (λ (z : List (Option Opt)). kept z) w ∙ put_pushed name change slots n

pub put_anew : (slots : List (Option Opt)) (name : List ℕ) (change : Option Value → Value) (value : Value) → ((at : ℕ) → HoldsAt name slots at → ⊥) → value ≡ change None → put name (λ before. value) (kept slots)
    ≡ put name change (kept slots)
unfolding option_from
put_anew slots name change value n v =
    sym (put_pushed name (λ before. value) slots n)
    ∙ ap (λ (z : Value). kept (slots ++ Some (option_from name z) ∷ [])) v
    ∙ put_pushed name change slots n

pub without_slot : (slots : List (Option Opt)) (name : List ℕ) (place : ℕ) → AreApart slots → HoldsAt name slots place → kept (set slots place None) ≡ without name (kept slots)
without_slot slots name place h held = without_emptied name slots place held (alone slots name place h held)

pub without_absent : (slots : List (Option Opt)) (name : List ℕ) → ((at : ℕ) → HoldsAt name slots at → ⊥) → kept slots ≡ without name (kept slots)
without_absent slots name n = without_none name slots n
