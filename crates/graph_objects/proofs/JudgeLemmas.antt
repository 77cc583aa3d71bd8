-- Slots are judged one after another where ids decide their wishes.
use Rattle.std.proofs.Common.{arith, ℕ, suc, ◌≡◌, ◌+◌, ◌<◌, ◌⊎◌, inl, inr, List, [], ◌∷◌, ◌++◌, map, take, length, get_or, Contains, Option, Some, None, true, false, Bool, Vec, refl, ap, sym, subst, ◌∙◌}
use Rattle.std.specs.Prelude.{slice_get, nat_eq, ◌||◌, if◌then◌else◌}
use Rattle.std.specs.declared.alloc.Global.{Global}
use Rattle.std.specs.Option.{option_map}
use Rattle.std.proofs.lemmas.Bool.{cases_eq}
use Rattle.std.proofs.lemmas.Bool.Decides.{nat_tests}
use Rattle.std.proofs.lemmas.List.{take_more}
use Rattle.std.proofs.lemmas.List.Elements.{Contains-append_cases}
use Rattle.std.proofs.lemmas.Option.{slice_get-map}
use Rattle.indexmap.specs.IndexMap.{set_value_at}
use Rattle.kern_model.proofs.MemberLemmas.{none_in_nil, first_or_later}
use Rattle.graph_objects.specs.declared.key.ObjectKey.{ObjectKey}
use Rattle.graph_objects.specs.declared.slot.Wish.{Wish}
use Rattle.graph_objects.specs.declared.slot.Slot.{Slot}
use Rattle.graph_objects.specs.Slots.{Entries}
use Rattle.graph_objects.specs.Marks.{judged}
use Rattle.graph_objects.specs.Decided.{decides, is_decided, judged_by}
use Rattle.graph_objects.specs.Deciders.{slots_of, deciders, AreListed, IsListed}
use Rattle.graph_objects.specs.Changed.{each_slot, judged_slot_by}
use Rattle.graph_objects.proofs.GrowLemmas.{value_of_entry}
use Rattle.graph_objects.proofs.MarkedLemmas.{size_stays, at_written, at_others}
use Rattle.graph_objects.proofs.DeciderLemmas.{off_slot}

-- one more of a list of numbers
pub one_more : (xs : List ℕ) (k y : ℕ) → k < length xs → Contains (take (k + 1) xs) y → Contains (take k xs) y ⊎ (y ≡ get_or xs k 0)
one_more xs k y inside member = elim (Contains-append_cases (take k xs) (get_or xs k 0 ∷ []) y (subst (λ ys. Contains ys y) (take_more xs k 0 inside) member)) as (λ _. Contains (take k xs) y ⊎ (y ≡ get_or xs k 0)) [
  | inl before ↦ inl before
  | inr now ↦ elim (first_or_later (get_or xs k 0) [] y now) as (λ _. Contains (take k xs) y ⊎ (y ≡ get_or xs k 0)) [
    | inl same ↦ inr (sym same)
    | inr none ↦ absurd (none_in_nil y none)
  ]
]

pub listed_next : (lists : List (Vec ℕ Global)) (ids : List ℕ) (k i : ℕ) → k < length ids → IsListed lists (take (k + 1) ids) i → IsListed lists (take k ids) i ⊎ Contains (slots_of lists (get_or ids k 0)) i
listed_next lists ids k i inside one = elim (one_more ids k one.id inside one.among) as (λ _. IsListed lists (take k ids) i ⊎ Contains (slots_of lists (get_or ids k 0)) i) [
  | inl before ↦ inl (record { id = one.id; among = before; there = one.there })
  | inr same ↦ inr (subst (λ n. Contains (slots_of lists n) i) same one.there)
]

-- judged twice, or by one id more
module _ (used : List Bool) where
  again : (ids : List ℕ) (w : Wish) (b : Bool) → is_decided ids w ≡ b → judged_by used ids (if b then judged used w else w) ≡ (if b then judged used w else w)
  again ids w true is = ap (λ t. if t then judged used w else judged used w) is
  again ids w false is = ap (λ t. if t then judged used w else w) is

  twice : (ids : List ℕ) (r : Option Wish) → option_map (judged_by used ids) (option_map (judged_by used ids) r) ≡ option_map (judged_by used ids) r
  twice ids None = refl
  twice ids (Some w) = ap (λ (v : Wish). Some v) (again ids w (is_decided ids w) refl)

  pub judged_again : (ids : List ℕ) (s : Slot) → judged_slot_by used ids (judged_slot_by used ids s) ≡ judged_slot_by used ids s
  judged_again ids s = ap (λ (r : Option Wish). record s { wish = r }) (twice ids s.wish)

  any_last : (ids : List ℕ) (id : ℕ) (w : Wish) → is_decided (ids ++ id ∷ []) w ≡ (is_decided ids w || is_decided (id ∷ []) w)
  any_last [] id w = refl
  any_last (n ∷ ns) id w = by (decides n w) (any_last ns id w)
    where
      by : (b : Bool) → is_decided (ns ++ id ∷ []) w ≡ (is_decided ns w || is_decided (id ∷ []) w) → (b || is_decided (ns ++ id ∷ []) w) ≡ ((b || is_decided ns w) || is_decided (id ∷ []) w)
      by true rest = refl
      by false rest = rest

  one_on : (ids : List ℕ) (id : ℕ) (w : Wish) → judged_by used (id ∷ []) (judged_by used ids w) ≡ judged_by used (ids ++ id ∷ []) w
  one_on ids id w = by (is_decided ids w) (is_decided (id ∷ []) w) refl ∙ ap (λ t. if t then judged used w else w) (sym (any_last ids id w))
    where
      by : (a b : Bool) → is_decided (id ∷ []) w ≡ b → judged_by used (id ∷ []) (if a then judged used w else w) ≡ (if a || b then judged used w else w)
      by true true is = ap (λ t. if t then judged used w else judged used w) is
      by true false is = ap (λ t. if t then judged used w else judged used w) is
      by false b is = ap (λ t. if t then judged used w else w) is

  more_ids : (ids : List ℕ) (id : ℕ) (r : Option Wish) → option_map (judged_by used (id ∷ [])) (option_map (judged_by used ids) r) ≡ option_map (judged_by used (ids ++ id ∷ [])) r
  more_ids ids id None = refl
  more_ids ids id (Some w) = ap (λ (v : Wish). Some v) (one_on ids id w)

  pub each_more : (ids : List ℕ) (id : ℕ) (es : Entries) → each_slot (judged_slot_by used (id ∷ [])) (each_slot (judged_slot_by used ids) es) ≡ each_slot (judged_slot_by used (ids ++ id ∷ [])) es
  each_more ids id [] = refl
  each_more ids id (e ∷ es) = λ i. (e.0, record e.1 { wish = more_ids ids id e.1.wish i }) ∷ each_more ids id es i

  no_ids : (r : Option Wish) → option_map (judged_by used []) r ≡ r
  no_ids None = refl
  no_ids (Some w) = refl

  pub each_none : (es : Entries) → each_slot (judged_slot_by used []) es ≡ es
  each_none [] = refl
  each_none (e ∷ es) = λ i. (e.0, record e.1 { wish = no_ids e.1.wish i }) ∷ each_none es i

  none_judged : (ws : List Wish) → map (judged_by used []) ws ≡ ws
  none_judged [] = refl
  none_judged (w ∷ ws) = ap (λ (vs : List Wish). w ∷ vs) (none_judged ws)

  pub by_no_id : (ids : List ℕ) (ws : List Wish) → nat_eq (length ids) 0 ≡ true → ws ≡ map (judged_by used ids) ws
  by_no_id [] ws none = sym (none_judged ws)
  by_no_id (id ∷ ids) ws none = let some : length (id ∷ ids) ≡ 0 = grind (arith, nat_tests) in absurd (omega (arith, some))

  pub each_next : (ids : List ℕ) (k : ℕ) (es : Entries) → k < length ids → each_slot (judged_slot_by used (get_or ids k 0 ∷ [])) (each_slot (judged_slot_by used (take k ids)) es) ≡ each_slot (judged_slot_by used (take (k + 1) ids)) es
  each_next ids k es inside = each_more (take k ids) (get_or ids k 0) es ∙ ap (λ (ns : List ℕ). each_slot (judged_slot_by used ns) es) (sym (take_more ids k 0 inside))

-- entries that are the same at each index are the same
alike : (xs ys : Entries) → ((i : ℕ) → slice_get xs i ≡ slice_get ys i) → xs ≡ ys
alike [] [] same = refl
alike [] (y ∷ ys) same = absurd (cc (same 0))
alike (x ∷ xs) [] same = absurd (cc (same 0))
alike (x ∷ xs) (y ∷ ys) same = let first : x ≡ y = cc (same 0) in let rest = alike xs ys (λ i. same (suc i)) in λ i. first i ∷ rest i

-- The slots at some indexes are written so far. The others are as they were, or are written too.
pub record WrittenSoFar (f : Slot → Slot) (es now : Entries) (done : List ℕ) : Type 0 where
  pub size : length now ≡ length es
  pub each : (i : ℕ) → (slice_get now i ≡ slice_get (each_slot f es) i) ⊎ ((Contains done i → ⊥) × (slice_get now i ≡ slice_get es i))

module _ (f : Slot → Slot) (es : Entries) where
  abbrev with_f : ObjectKey × Slot → ObjectKey × Slot
  with_f e = (e.0, f e.1)

  made_at : (i : ℕ) → slice_get (each_slot f es) i ≡ option_map with_f (slice_get es i)
  made_at i = slice_get-map with_f es i

  pub none_so_far : WrittenSoFar f es es []
  none_so_far = record { size = refl; each = λ i. inr (none_in_nil i, refl) }

  module _ (again : (s : Slot) → f (f s) ≡ f s) (now : Entries) (done : List ℕ) (so_far : WrittenSoFar f es now done) (index : ℕ) (t w : Slot) (at : slice_get (map (λ (e : ObjectKey × Slot). e.1) now) index ≡ Some t) (made : w ≡ f t) where
    this_one : slice_get (set_value_at now index w) index ≡ slice_get (each_slot f es) index
    this_one = elim (so_far.each index) as (λ _. slice_get (set_value_at now index w) index ≡ slice_get (each_slot f es) index) [
      | inl is ↦ written ∙ from_made (slice_get es index) (sym (made_at index) ∙ sym is ∙ here.1) ∙ sym (made_at index)
      | inr was ↦ written ∙ ap (option_map with_f) (sym (sym was.1 ∙ here.1)) ∙ sym (made_at index)
    ]
      where
        here : (k : ObjectKey) × (slice_get now index ≡ Some (k, t))
        here = value_of_entry now index t at

        written : slice_get (set_value_at now index w) index ≡ Some (here.0, f t)
        written = at_written now index here.0 t w here.1 ∙ ap (λ (s : Slot). Some (here.0, s)) made

        from_made : (r : Option (ObjectKey × Slot)) → option_map with_f r ≡ Some (here.0, t) → Some (here.0, f t) ≡ option_map with_f r
        from_made None h = absurd (cc h)
        from_made (Some e) h =
            let is : with_f e ≡ (here.0, t) = cc h in
            let slot : f e.1 ≡ t = ap (λ (y : ObjectKey × Slot). y.1) is in
            let key : e.0 ≡ here.0 = ap (λ (y : ObjectKey × Slot). y.0) is in
            let value : f t ≡ f e.1 = ap f (sym slot) ∙ again e.1 in
            let back : here.0 ≡ e.0 = sym key in
            λ i. Some (back i, value i)

    pub one_so_far : (next : List ℕ) → ((i : ℕ) → Contains next i → Contains done i ⊎ (i ≡ index)) → WrittenSoFar f es (set_value_at now index w) next
    one_so_far next split = record {
      size = size_stays now index w ∙ so_far.size;
      each = λ i. elim (cases_eq i index) as (λ _. (slice_get (set_value_at now index w) i ≡ slice_get (each_slot f es) i) ⊎ ((Contains next i → ⊥) × (slice_get (set_value_at now index w) i ≡ slice_get es i))) [
        | inl same ↦ inl (ap (slice_get (set_value_at now index w)) same ∙ this_one ∙ ap (slice_get (each_slot f es)) (sym same))
        | inr other ↦ elim (so_far.each i) as (λ _. (slice_get (set_value_at now index w) i ≡ slice_get (each_slot f es) i) ⊎ ((Contains next i → ⊥) × (slice_get (set_value_at now index w) i ≡ slice_get es i))) [
          | inl is ↦ inl (at_others now index i w other ∙ is)
          | inr was ↦ inr ((λ member. elim (split i member) as (λ _. ⊥) [ inl before ↦ was.0 before | inr same ↦ other same ]), at_others now index i w other ∙ was.1)
        ]
      ];
    }

  pub all_so_far : (now : Entries) (done : List ℕ) → WrittenSoFar f es now done → ((i : ℕ) (e : ObjectKey × Slot) → slice_get es i ≡ Some e → (Contains done i → ⊥) → f e.1 ≡ e.1) → now ≡ each_slot f es
  all_so_far now done so_far off = alike now (each_slot f es) each
    where
      left : (i : ℕ) → (Contains done i → ⊥) → (r : Option (ObjectKey × Slot)) → slice_get es i ≡ r → r ≡ option_map with_f r
      left i none None is = refl
      left i none (Some e) is = ap (λ (s : Slot). Some (e.0, s)) (sym (off i e is none))

      each : (i : ℕ) → slice_get now i ≡ slice_get (each_slot f es) i
      each i = elim (so_far.each i) as (λ _. slice_get now i ≡ slice_get (each_slot f es) i) [
        | inl is ↦ is
        | inr was ↦ was.1 ∙ left i was.0 (slice_get es i) refl ∙ sym (made_at i)
      ]

-- all slots are written where an id decides their wishes
pub all_of_id : (lists : List (Vec ℕ Global)) (es now : Entries) (used : List Bool) (id : ℕ) (done : List ℕ) → AreListed lists (deciders es) → done ≡ slots_of lists id → WrittenSoFar (judged_slot_by used (id ∷ [])) es now done → now
    ≡ each_slot (judged_slot_by used (id ∷ [])) es
all_of_id lists es now used id done are all so_far =
    all_so_far (judged_slot_by used (id ∷ [])) es now done so_far (λ i e at none. off_slot lists es are used (id ∷ []) i e at (λ one. none (subst (λ (is : List ℕ). Contains is i) (sym all) (of_one i one))))
  where
    of_one : (i : ℕ) → IsListed lists (id ∷ []) i → Contains (slots_of lists id) i
    of_one i one = elim (first_or_later id [] one.id one.among) as (λ _. Contains (slots_of lists id) i) [
      | inl same ↦ subst (λ n. Contains (slots_of lists n) i) (sym same) one.there
      | inr none ↦ absurd (none_in_nil one.id none)
    ]
