-- What is due in order: after the first take and after a put the rest is due as before, at the same places.
use Rattle.std.proofs.Common.{arith, ℕ, ◌≡◌, ◌<◌, ◌-◌, ◌⊎◌, inl, inr, List, [], true, false, Bool, refl, ap, sym, subst, ◌∙◌}
use Rattle.std.specs.Prelude.{nat_lt, cond, not, ◌==◌}
use Rattle.std.specs.FinSet as set
use Rattle.std.specs.Ordering.{nat_cmp, ordering_then}
use Rattle.std.specs.Cmp.{tied_itself, nat_cmp_total}
use Rattle.std.specs.Cmp.Lexicographic.{slice_cmp}
use Rattle.std.specs.declared.cmp.Ordering.{Ordering}
use Rattle.std.specs.declared.cmp.Ordering.TheVariants.{Less, Equal, Greater}
use Rattle.kern_model.specs.declared.object.LinkKind.{LinkKind}
use Rattle.kern_model.specs.declared.object.Object.{Object}
use Rattle.kern_model.specs.declared.object.Object.TheVariants as object
use Rattle.kern_model.specs.declared.object.Call.{Call}
use Rattle.kern_model.specs.declared.object.Call.TheVariants.{Put}
use Rattle.kern_model.specs.ObjectOrder.{Objects, Has, call_key}
use Rattle.kern_model.specs.Standing.{IsOver, height}
use Rattle.kern_model.specs.Kernel.{map_of, replaces, after_call}
use Rattle.kern_model.specs.Touched.{is_touched, is_on_taken, is_replaced, is_taken, is_put}
use Rattle.kern_model.specs.Line.{line_of}
use Rattle.kern_model.specs.CallOrder.{rank, height_of, height_place, call_cmp}
use Rattle.kern_model.proofs.SetLemmas.{same_or_other, has_itself, has_before, new_or_before, has_without, of_without, has_retained, of_retained}
use Rattle.kern_model.proofs.TestLemmas.{of_not, true_or_not, above_test}
use Rattle.kern_model.proofs.StandingLemmas.{over_cases, higher, height_within}
use Rattle.kern_model.proofs.GoneLemmas.{test_of_is_over}
use Rattle.kern_model.proofs.TouchLemmas.{touched_cases, touched_held, touched_wanted, touched_on, taken_touched, put_touched, taken_held, put_wanted, taken_of, put_of, taken_unwanted, replaced_by, taken_not_replaced}
use Rattle.kern_calls.specs.Calls.{own_take}
use Rattle.kern_calls.proofs.GoOnLemmas.{as_high, is_replaced_of_all}
use Rattle.graph_objects.specs.declared.turn.Turn.TheVariants.{Takes}
use Rattle.graph_objects.specs.Steady.{IsSteady}
use Rattle.graph_objects.specs.Turns.{IsFirst}
use Rattle.graph_objects.proofs.ChangeLemmas.{replaces_key}
use Rattle.graph_objects.proofs.MarkedLemmas.{on_taken_before, none_on_taken}

-- calls by rank, and by height where the rank is the same
lt_true : (a b : ℕ) → a < b → nat_lt a b ≡ true
lt_true a b h = by (nat_lt a b) refl
  where
    by : (t : Bool) → nat_lt a b ≡ t → nat_lt a b ≡ true
    by true is = is
    by false is = let up = above_test a b is in absurd (omega (arith, h, up))

below_is_less : (a b : ℕ) → a < b → nat_cmp a b ≡ Less
below_is_less a b h = ap (λ t. cond t Less (cond (a == b) Equal Greater)) (lt_true a b h)

by_rank : (held wanted : Objects) (a b : Call) → rank a < rank b → call_cmp held wanted a b ≡ Less
by_rank held wanted a b less =
    ap (λ o. ordering_then o (ordering_then (nat_cmp (height_place held wanted a) (height_place held wanted b)) (ordering_then (slice_cmp nat_cmp (line_of a) (line_of b)) (slice_cmp nat_cmp (call_key a) (call_key b)))))
    (below_is_less (rank a) (rank b) less)

by_height : (r h h' : ℕ) (rest : Ordering) → h < h' → ordering_then (nat_cmp r r) (ordering_then (nat_cmp h h') rest) ≡ Less
by_height r h h' rest less =
    ap (λ o. ordering_then o (ordering_then (nat_cmp h h') rest)) (tied_itself nat_cmp_total r)
    ∙ ap (λ o. ordering_then o rest) (below_is_less h h' less)

-- the first of the takes was taken
module _ (held wanted : Objects) (steady : IsSteady held) (o : Object) (first : IsFirst Takes held wanted o) where
  abbrev rest : Objects
  rest = set.remove held o

  was_held : (x : Object) → Has rest x → Has held x
  was_held x h = (of_without held o x h).0

  was_on_taken : (x : Object) → is_on_taken rest wanted x ≡ true → is_on_taken held wanted x ≡ true
  was_on_taken x h = on_taken_before held rest wanted wanted (λ n k is. was_held (object.Link n k) is) (λ n k is. is) x h

  -- what is due was due
  pub was_taken : (x : Object) → is_taken rest wanted x ≡ true → is_taken held wanted x ≡ true
  was_taken x taken =
      let h = taken_held rest wanted x taken in
      let had = was_held x h in
      let touched : is_touched held wanted x ≡ true = elim (touched_cases rest wanted x h (taken_touched rest wanted x taken)) as (λ _. is_touched held wanted x ≡ true) [
        | inl unwanted ↦ touched_held held wanted x had unwanted
        | inr stands ↦ touched_on held wanted x (was_on_taken x stands)
      ] in
      taken_of held wanted x had touched (λ replaced. let by = replaced_by held wanted x replaced in
      taken_not_replaced rest wanted x taken (is_replaced_of_all rest wanted x by.unwanted (λ stands. by.stays (was_on_taken x stands)) by.by by.is by.place))

  pub was_put : (x : Object) → is_put rest wanted x ≡ true → is_put held wanted x ≡ true
  was_put x due =
      let is = put_wanted rest wanted x due in
      elim (true_or_not (set.contains held x)) as (λ _. is_put held wanted x ≡ true) [
        | inr unheld ↦ put_of held wanted x is (touched_wanted held wanted x is unheld)
        | inl had ↦ put_of held wanted x is (elim (same_or_other x o) as (λ _. is_touched held wanted x ≡ true) [
          | inl same ↦ subst (λ y. is_touched held wanted y ≡ true) (sym same) (taken_touched held wanted o first.due)
          | inr other ↦
              let h = has_without held o x had other in
              elim (touched_cases rest wanted x h (put_touched rest wanted x due)) as (λ _. is_touched held wanted x ≡ true) [
                | inl unwanted ↦ absurd (unwanted is)
                | inr stands ↦ touched_on held wanted x (was_on_taken x stands)
              ]
        ])
      ]

  -- none of the takes comes before it
  none_before : (x : Object) → is_taken rest wanted x ≡ true → call_cmp held wanted (own_take (map_of []) x) (own_take (map_of []) o) ≡ Less → ⊥
  none_before x taken less = first.first (map_of []) x (was_taken x taken) less

  -- the links under what is still due are still held
  link_under : (name base : List ℕ) (kind other : LinkKind) → is_taken rest wanted (object.Link name kind) ≡ true → Has held (object.Link base other) → IsOver held base name → object.Link base other ≡ o → ⊥
  link_under name base kind other taken had over is =
      let x = object.Link name kind in
      let h = taken_held rest wanted x taken in
      elim (over_cases held base name (test_of_is_over held base name over)) as (λ _. ⊥) [
        | inl same ↦ (of_without held o x h).1 (ap (λ n. object.Link n kind) (sym same) ∙ steady.one (object.Link base kind) (object.Link base other) (subst (λ n. Has held (object.Link n kind)) (sym same) (was_held x h)) had refl ∙ is)
        | inr v ↦
            let above = higher held base name v.lower v.id v.mac v.held (steady.grounded name v.lower v.id v.mac v.held) v.over in
            let within = height_within held name in
            none_before x taken (subst (λ y. call_cmp held wanted (own_take (map_of []) x) (own_take (map_of []) y) ≡ Less) is
            (by_height 7 (set.len held - height held name) (set.len held - height held base) _ (omega (arith, above, within))))
      ]

  up_over : (name base : List ℕ) (kind : LinkKind) → is_taken rest wanted (object.Up name) ≡ true → object.Link base kind ≡ o → ⊥
  up_over name base kind taken is =
      none_before (object.Up name) taken (subst (λ y. call_cmp held wanted (own_take (map_of []) (object.Up name)) (own_take (map_of []) y) ≡ Less) is
      (by_rank held wanted (own_take (map_of []) (object.Up name)) (own_take (map_of []) (object.Link base kind)) (omega arith)))

  pub high_still : (x : Object) → is_taken rest wanted x ≡ true → height_of held x ≡ height_of rest x
  high_still (object.Link name kind) taken = as_high held rest name was_held (λ v other g q. elim (same_or_other (object.Link v other) o) as (λ _. Has rest (object.Link v other)) [
    | inl same ↦ absurd (link_under name v kind other taken g q same)
    | inr apart ↦ has_without held o (object.Link v other) g apart
  ])
  high_still (object.Up name) taken = as_high held rest name was_held (λ v other g q. elim (same_or_other (object.Link v other) o) as (λ _. Has rest (object.Link v other)) [
    | inl same ↦ absurd (up_over name v other taken same)
    | inr apart ↦ has_without held o (object.Link v other) g apart
  ])
  high_still x taken = refl

-- a wanted object was put, where none is to be taken
module _ (held wanted : Objects) (steady : IsSteady wanted) (o : Object) (is : Has wanted o) (done : (x : Object) → is_taken held wanted x ≡ true → ⊥) where
  abbrev now : Objects
  now = after_call held (Put o)

  kept : (x : Object) → Has now x → (x ≡ o) ⊎ (Has held x)
  kept x h = elim (new_or_before (set.retain held (λ old. not (replaces o old))) o x h) as (λ _. (x ≡ o) ⊎ (Has held x)) [
    | inl same ↦ inl same
    | inr before ↦ inr (of_retained held (λ old. not (replaces o old)) x before).0
  ]

  link_wanted : (v : List ℕ) (kind : LinkKind) → Has now (object.Link v kind) → Has wanted (object.Link v kind)
  link_wanted v kind h = elim (kept (object.Link v kind) h) as (λ _. Has wanted (object.Link v kind)) [
    | inl same ↦ subst (Has wanted) (sym same) is
    | inr had ↦ elim (true_or_not (set.contains wanted (object.Link v kind))) as (λ _. Has wanted (object.Link v kind)) [
      | inl there ↦ there
      | inr unwanted ↦ absurd (done (object.Link v kind) (taken_unwanted held wanted (object.Link v kind) had unwanted (λ none. none)))
    ]
  ]

  no_link_is_lost : (x : Object) → is_on_taken now wanted x ≡ true → ⊥
  no_link_is_lost x h = none_on_taken now wanted link_wanted x h

  pub still_none_taken : (x : Object) → is_taken now wanted x ≡ true → ⊥
  still_none_taken x taken =
      let h = taken_held now wanted x taken in
      elim (touched_cases now wanted x h (taken_touched now wanted x taken)) as (λ _. ⊥) [
        | inr stands ↦ no_link_is_lost x stands
        | inl unwanted ↦ elim (kept x h) as (λ _. ⊥) [
          | inl same ↦ unwanted (subst (Has wanted) (sym same) is)
          | inr had ↦ elim (true_or_not (is_replaced held wanted x)) as (λ _. ⊥) [
            | inl replaced ↦
                let by = replaced_by held wanted x replaced in
                taken_not_replaced now wanted x taken (is_replaced_of_all now wanted x unwanted (no_link_is_lost x) by.by by.is by.place)
            | inr stays ↦ done x (taken_of held wanted x had (touched_held held wanted x had unwanted) stays)
          ]
        ]
      ]

  pub was_to_be_put : (x : Object) → is_put now wanted x ≡ true → is_put held wanted x ≡ true
  was_to_be_put x due =
      let there = put_wanted now wanted x due in
      let gone : Has now x → ⊥ = λ h. elim (touched_cases now wanted x h (put_touched now wanted x due)) as (λ _. ⊥) [ inl unwanted ↦ unwanted there | inr stands ↦ no_link_is_lost x stands ] in
      put_of held wanted x there (touched_wanted held wanted x there (λ had. gone (still_held x there had)))
    where
      rest : Objects
      rest = set.retain held (λ old. not (replaces o old))

      still_held : (x : Object) → Has wanted x → Has held x → Has now x
      still_held x there had = elim (same_or_other x o) as (λ _. Has now x) [
        | inl same ↦ subst (Has now) (sym same) (has_itself rest o)
        | inr other ↦ has_before rest o x (has_retained held (λ old. not (replaces o old)) x had (of_not (replaces o x) (λ replaced. other (sym (steady.one o x is there (replaces_key o x replaced))))))
      ]
