-- A stable sort puts values in byte order of their names.
use Rattle.std.proofs.Common.{◌≡◌, ℕ, suc, ◌≤◌, ◌<◌, Bool, true, false, cond, List, [], ◌∷◌, length, get_or, inl, inr, refl, sym, ap, ◌∙◌, arith}
use Rattle.std.specs.Prelude.{filter, not, ◌&&◌}
use Rattle.std.specs.Cmp.{IsStrictWeakOrder}
use Rattle.std.specs.Cmp.Lexicographic.{nat_list_cmp_total}
use Rattle.std.specs.List.Sorted.{ties, IsSortedBy, IsStableBy}
use Rattle.std.proofs.lemmas.Bool.{cond-true, cond-false, cases_Bool, and_parts}
use Rattle.std.proofs.lemmas.List.Sorted.{sorted_far, ranks_by}
use Rattle.blob_codec.specs.declared.blob.Attr.{Attr}
use Rattle.rpc_rules.specs.ByName.{is_before, put, by_name}

module _ {X : Type 0} (lt : X → X → Bool) (order : IsStrictWeakOrder lt) where
  not_below_itself : (x : X) → lt x x ≡ false
  not_below_itself x = elim (cases_Bool (lt x x)) [ inl below ↦ order.one_way x x below | inr is ↦ is ]

  not_true : (t : Bool) → not t ≡ true → t ≡ false
  not_true true e = sym e
  not_true false e = refl

  both_not : (s t : Bool) → s ≡ false → t ≡ false → (not s && not t) ≡ true
  both_not false false e f = refl
  both_not false true e f = sym f
  both_not true t e f = sym e

  tie : (x y : X) → lt x y ≡ false → lt y x ≡ false → ties lt x y ≡ true
  tie x y e f = both_not (lt x y) (lt y x) e f

  tied : (x y : X) → ties lt x y ≡ true → (lt x y ≡ false) × (lt y x ≡ false)
  tied x y h = let parts = and_parts (not (lt x y)) (not (lt y x)) h in (not_true (lt x y) parts.0, not_true (lt y x) parts.1)

  -- none of these comes before it
  abbrev NoneBefore : X → List X → Type 0
  NoneBefore x [] = Unit {0}
  NoneBefore x (y ∷ ys) = (lt y x ≡ false) × NoneBefore x ys

  abbrev Rises : List X → Type 0
  Rises [] = Unit {0}
  Rises (y ∷ ys) = NoneBefore y ys × Rises ys

  none_before_at : (x : X) (ys : List X) → ((k : ℕ) → k < length ys → lt (get_or ys k x) x ≡ false) → NoneBefore x ys
  none_before_at x [] h = tt
  none_before_at x (y ∷ ys) h = (h 0 (omega arith), none_before_at x ys (λ k p. h (suc k) (omega arith)))

  rises_from : (ys : List X) → ((i j : ℕ) (d : X) → i ≤ j → j < length ys → lt (get_or ys j d) (get_or ys i d) ≡ false) → Rises ys
  rises_from [] h = tt
  rises_from (y ∷ ys) h = (none_before_at y ys (λ k p. h 0 (suc k) y (omega arith) (omega arith)), rises_from ys (λ i j d p q. h (suc i) (suc j) d (omega arith) (omega arith)))

  kept : (p : X → Bool) (y : X) (ys : List X) → p y ≡ true → filter p (y ∷ ys) ≡ y ∷ filter p ys
  kept p y ys h = cond-true _ _ _ h

  dropped : (p : X → Bool) (y : X) (ys : List X) → p y ≡ false → filter p (y ∷ ys) ≡ filter p ys
  dropped p y ys h = cond-false _ _ _ h

  -- one that ties with a value among these does not come before what they do not come before
  found : (x y : X) (ys : List X) (w : X) (ws : List X) → NoneBefore x ys → filter (ties lt y) ys ≡ w ∷ ws → lt y x ≡ false
  found x y [] w ws h e = cc
  found x y (z ∷ zs) w ws h e = elim (cases_Bool (ties lt y z)) [
    | inl with ↦ order.chain y z x (tied y z with).0 h.0
    | inr without ↦ found x y zs w ws h.1 (sym (dropped (ties lt y) z zs without) ∙ e)
  ]

  -- lists that rise are one where the values that tie stand in one order
  one_rising : (ys zs : List X) → Rises ys → Rises zs → ((x : X) → filter (ties lt x) ys ≡ filter (ties lt x) zs) → ys ≡ zs
  one_rising [] [] left right same = refl
  one_rising [] (z ∷ zs) left right same =
      let clash = same z ∙ kept (ties lt z) z zs (tie z z (not_below_itself z) (not_below_itself z)) in cc
  one_rising (y ∷ ys) [] left right same =
      let clash = sym (same y) ∙ kept (ties lt y) y ys (tie y y (not_below_itself y) (not_below_itself y)) in cc
  one_rising (y ∷ ys) (z ∷ zs) left right same =
      let at_y = kept (ties lt y) y ys (tie y y (not_below_itself y) (not_below_itself y)) in
      let at_z = kept (ties lt z) z zs (tie z z (not_below_itself z) (not_below_itself z)) in
      let up = found z y (z ∷ zs) y _ (not_below_itself z, right.0) (sym (same y) ∙ at_y) in
      let down = found y z (y ∷ ys) z _ (not_below_itself y, left.0) (same z ∙ at_z) in
      let heads = sym at_y ∙ same y ∙ kept (ties lt y) z zs (tie y z up down) in
      let head : y ≡ z = cc in
      let tails : (x : X) → filter (ties lt x) ys ≡ filter (ties lt x) zs =
      λ x. elim (cases_Bool (ties lt x y)) [
        | inl with ↦
            let both = sym (kept (ties lt x) y ys with) ∙ same x ∙ kept (ties lt x) z zs (ap (ties lt x) (sym head) ∙ with) in cc
        | inr without ↦
            sym (dropped (ties lt x) y ys without) ∙ same x ∙ dropped (ties lt x) z zs (ap (ties lt x) (sym head) ∙ without)
      ] in
      ap (λ (w : X). w ∷ ys) head ∙ ap (λ (l : List X). z ∷ l) (one_rising ys zs left.1 right.1 tails)

pub names_rank : IsStrictWeakOrder is_before
names_rank = ranks_by nat_list_cmp_total (λ (attr : Attr). attr.name)

abbrev PutsApart : Attr → Attr → List Attr → Type 0
PutsApart x attr attrs = filter (ties is_before x) (put attr attrs) ≡ filter (ties is_before x) (attr ∷ attrs)

past : (x attr first : Attr) (others : List Attr) → is_before first attr ≡ true → PutsApart x attr others → filter (ties is_before x) (first ∷ put attr others) ≡ filter (ties is_before x) (attr ∷ first ∷ others)
past x attr first others before rest =
    let p = ties is_before x in
    elim (cases_Bool (p first)) [
      | inr without ↦
          dropped is_before names_rank p first (put attr others) without ∙ rest
          ∙ ap (λ (l : List Attr). cond (p attr) (attr ∷ l) l) (sym (dropped is_before names_rank p first others without))
      | inl with ↦ elim (cases_Bool (p attr)) [
        | inl both ↦
            let below = names_rank.chain first x attr (tied is_before names_rank x first with).1 (tied is_before names_rank x attr both).0 in
            absurd (let clash : true ≡ false = sym before ∙ below in cc)
        | inr only ↦
            kept is_before names_rank p first (put attr others) with
            ∙ ap (λ (l : List Attr). first ∷ l) (rest ∙ dropped is_before names_rank p attr others only)
            ∙ sym (dropped is_before names_rank p attr (first ∷ others) only ∙ kept is_before names_rank p first others with)
      ]
    ]

put_by : (x attr first : Attr) (others : List Attr) (t : Bool) → is_before first attr ≡ t → PutsApart x attr others
    → filter (ties is_before x) (cond t (first ∷ put attr others) (attr ∷ first ∷ others)) ≡ filter (ties is_before x) (attr ∷ first ∷ others)
put_by x attr first others true is rest = past x attr first others is rest
put_by x attr first others false is rest = refl

-- a value that is put in its place stays in front of those that tie with it
put_apart : (x attr : Attr) (attrs : List Attr) → PutsApart x attr attrs
put_apart x attr [] = refl
put_apart x attr (first ∷ others) = put_by x attr first others (is_before first attr) refl (put_apart x attr others)

by_name_apart : (x : Attr) (attrs : List Attr) → filter (ties is_before x) (by_name attrs) ≡ filter (ties is_before x) attrs
by_name_apart x [] = refl
by_name_apart x (attr ∷ attrs) =
    put_apart x attr (by_name attrs)
    ∙ ap (λ (l : List Attr). cond (ties is_before x attr) (attr ∷ l) l) (by_name_apart x attrs)

none_before_put_by : (x attr first : Attr) (others : List Attr) (t : Bool) → is_before attr x ≡ false → NoneBefore is_before names_rank x (first ∷ others) → NoneBefore is_before names_rank x (put attr others)
    → NoneBefore is_before names_rank x (cond t (first ∷ put attr others) (attr ∷ first ∷ others))
none_before_put_by x attr first others true is all rest = (all.0, rest)
none_before_put_by x attr first others false is all rest = (is, all)

none_before_put : (x attr : Attr) (attrs : List Attr) → is_before attr x ≡ false → NoneBefore is_before names_rank x attrs → NoneBefore is_before names_rank x (put attr attrs)
none_before_put x attr [] is all = (is, tt)
none_before_put x attr (first ∷ others) is all = none_before_put_by x attr first others (is_before first attr) is all (none_before_put x attr others is all.1)

none_before_all : (attr first : Attr) (others : List Attr) → is_before first attr ≡ false → NoneBefore is_before names_rank first others → NoneBefore is_before names_rank attr others
none_before_all attr first [] is all = tt
none_before_all attr first (other ∷ others) is all = (names_rank.chain other first attr all.0 is, none_before_all attr first others is all.1)

rises_put_by : (attr first : Attr) (others : List Attr) (t : Bool) → is_before first attr ≡ t → Rises is_before names_rank (first ∷ others) → Rises is_before names_rank (put attr others)
    → Rises is_before names_rank (cond t (first ∷ put attr others) (attr ∷ first ∷ others))
rises_put_by attr first others true is rises rest = (none_before_put first attr others (names_rank.one_way first attr is) rises.0, rest)
rises_put_by attr first others false is rises rest = ((is, none_before_all attr first others is rises.0), rises)

rises_put : (attr : Attr) (attrs : List Attr) → Rises is_before names_rank attrs → Rises is_before names_rank (put attr attrs)
rises_put attr [] rises = (tt, tt)
rises_put attr (first ∷ others) rises = rises_put_by attr first others (is_before first attr) refl rises (rises_put attr others rises.1)

by_name_rises : (attrs : List Attr) → Rises is_before names_rank (by_name attrs)
by_name_rises [] = tt
by_name_rises (attr ∷ attrs) = rises_put attr (by_name attrs) (by_name_rises attrs)

pub sorted_by_name : (attrs sorted : List Attr) → IsSortedBy is_before sorted → IsStableBy is_before attrs sorted → sorted ≡ by_name attrs
sorted_by_name attrs sorted rises stable =
    one_rising is_before names_rank sorted (by_name attrs)
    (rises_from is_before names_rank sorted (sorted_far is_before names_rank sorted rises))
    (by_name_rises attrs)
    (λ x. stable x ∙ sym (by_name_apart x attrs))
