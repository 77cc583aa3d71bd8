-- lists of what may be wanted: expected one after another, and judged
use Rattle.std.proofs.Common.{ℕ, zero, suc, ◌+◌, ◌<◌, ◌≤◌, ◌≡◌, inl, inr, Bool, List, [], ◌∷◌, ◌++◌, map, length, take, get_or, Contains, refl, sym, ap, subst, ◌∙◌}
use Rattle.std.specs.Prelude.{◌&&◌}
use Rattle.std.specs.List.{flat_map}
use Rattle.std.proofs.lemmas.List.{take_more, take_all}
use Rattle.std.proofs.lemmas.List.Elements.{Contains-get_or, Contains-append_cases, Contains-append_left, Contains-append_right}
use Rattle.kern_model.specs.declared.object.Object.{Object}
use Rattle.kern_model.specs.ObjectOrder.{Has}
use Rattle.kern_model.proofs.MemberLemmas.{here, there, none_in_nil, first_or_later, member_of_map, map_member}
use Rattle.kern_model.proofs.SetLemmas.{set_of_member, member_of_set}
use Rattle.graph_objects.specs.declared.slot.Wish.{Wish}
use Rattle.graph_objects.specs.Grown.{CanExpect, HasMore}
use Rattle.graph_objects.specs.Marks.{is_used, judged}
use Rattle.graph_objects.specs.Slots.{wished_set}
use Rattle.graph_objects.proofs.SteadyLemmas.{grounded_within}
use Rattle.graph_rules.specs.State.{Named, Known, name_list, names_in}
use Rattle.graph_rules.specs.Answers.{used_in}
use Rattle.graph_counts.specs.Counted.{id_of}
use Rattle.graph_counts.specs.Sound.{IsSound}
use Rattle.graph_wishes.specs.Wishes.{May, mays, mays_of, is_used_may}
use Rattle.graph_tables.specs.Wished.{wish_at, wishes_at, wish_in}
use Rattle.graph_tables.specs.Lists.{HaveSame, AreApart, AreUsed, unjudged}
use Rattle.graph_tables.proofs.DecideLemmas.{first_known, second_known, name_there, id_inside}

in_front : {X : Type 0} (xs : List X) (k : ℕ) (x : X) → Contains (take k xs) x → Contains xs x
in_front xs zero x m = absurd (none_in_nil x m)
in_front [] (suc k) x m = absurd (none_in_nil x m)
in_front (y ∷ ys) (suc k) x m = elim (first_or_later y (take k ys) x m) as (λ _. Contains (y ∷ ys) x) [
  | inl same ↦ subst (Contains (y ∷ ys)) same (here y ys)
  | inr later ↦ there y ys x (in_front ys k x later)
]

-- one more is expected of a list
module _ (ws : List Wish) (k : ℕ) (wish : Wish) (h : k < length ws) (is : wish ≡ get_or ws k wish) (old : List Wish) (same : HaveSame old (take k ws)) where
  member : Contains ws wish
  member = subst (Contains ws) (sym is) (Contains-get_or ws k wish h)

  old_member : (w : Wish) → Contains old w → Contains ws w
  old_member w m = in_front ws k w ((same w).0 m)

  both_members : (w : Wish) → Contains (wish ∷ old) w → Contains ws w
  both_members w m = elim (first_or_later wish old w m) as (λ _. Contains ws w) [
    | inl one ↦ subst (Contains ws) one member
    | inr was ↦ old_member w was
  ]

  within : (x : Object) → Has (wished_set (wish ∷ old)) x → Has (wished_set ws) x
  within x has =
      let all : List Wish = wish ∷ old in
      let from = member_of_map (λ (w : Wish). w.object) all x (member_of_set (map (λ (w : Wish). w.object) all) x has) in
      set_of_member (map (λ (w : Wish). w.object) ws) x (subst (Contains (map (λ (w : Wish). w.object) ws)) from.same (map_member (λ (w : Wish). w.object) ws from.source (both_members from.source from.member)))

  pub can_expect : AreApart ws → CanExpect old wish
  can_expect apart = record {
    lower = apart.lower wish member;
    apart = λ w m key. apart.one w wish (old_member w m) member key;
    grounded = grounded_within (wished_set (wish ∷ old)) (wished_set ws) within apart.grounded;
  }

  next : take (k + 1) ws ≡ take k ws ++ wish ∷ []
  next = take_more ws k wish h ∙ ap (λ (w : Wish). take k ws ++ w ∷ []) (sym is)

  pub expected_more : (new : List Wish) → HasMore old new wish → HaveSame new (take (k + 1) ws)
  expected_more new more w = (
    (λ m. subst (λ vs. Contains vs w) (sym next) (elim ((more w).0 m) as (λ _. Contains (take k ws ++ wish ∷ []) w) [
      | inl was ↦ Contains-append_left (take k ws) (wish ∷ []) w ((same w).0 was)
      | inr one ↦ Contains-append_right (take k ws) (wish ∷ []) w (subst (Contains (wish ∷ [])) (sym one) (here wish []))
    ])),
    (λ m. elim (Contains-append_cases (take k ws) (wish ∷ []) w (subst (λ vs. Contains vs w) next m)) as (λ _. Contains new w) [
      | inl was ↦ (more w).1 (inl ((same w).1 was))
      | inr one ↦ elim (first_or_later wish [] w one) as (λ _. Contains new w) [
        | inl now ↦ (more w).1 (inr (sym now))
        | inr none ↦ absurd (none_in_nil w none)
      ]
    ]),
  )

pub none_expected : (ws old : List Wish) → old ≡ [] → HaveSame old (take 0 ws)
none_expected ws old none w = ((λ m. subst (λ vs. Contains vs w) none m), (λ m. absurd (none_in_nil w m)))

pub all_expected : (ws new : List Wish) (k : ℕ) → length ws ≤ k → HaveSame new (take k ws) → HaveSame new ws
all_expected ws new k size same = subst (HaveSame new) (take_all k ws size) same

-- lists that have the same members still have them when each is changed alike
pub mapped_same : (f : Wish → Wish) (ws vs : List Wish) → HaveSame ws vs → HaveSame (map f ws) (map f vs)
mapped_same f ws vs same w = (
  (λ m. let from = member_of_map f ws w m in subst (Contains (map f vs)) from.same (map_member f vs from.source ((same from.source).0 from.member))),
  (λ m. let from = member_of_map f vs w m in subst (Contains (map f ws)) from.same (map_member f ws from.source ((same from.source).1 from.member))),
)

pub twice : (f : May → Wish) (g : Wish → Wish) (h : May → Wish) (ms : List May) → ((m : May) → Contains ms m → g (f m) ≡ h m) → map g (map f ms) ≡ map h ms
twice f g h [] e = refl
twice f g h (m ∷ ms) e = λ i. e m (here m ms) i ∷ twice f g h ms (λ n c. e n (there m ms n c)) i

pub first_unjudged : (names : List (List ℕ)) (ms : List May) (ws : List Wish) → HaveSame ws (wishes_at names ms) → HaveSame (map unjudged ws) (wishes_at names ms)
first_unjudged names ms ws same = subst (HaveSame (map unjudged ws)) (twice (wish_at names) unjudged (wish_at names) ms (λ m c. refl)) (mapped_same unjudged ws (wishes_at names ms) same)

pub again_unjudged : (s : Known) (ws : List Wish) → HaveSame ws (map (wish_in s) (mays s)) → HaveSame (map unjudged ws) (wishes_at (names_in s) (mays s))
again_unjudged s ws same = subst (HaveSame (map unjudged ws)) (twice (wish_in s) unjudged (wish_at (names_in s)) (mays s) (λ m c. refl)) (mapped_same unjudged ws (map (wish_in s) (mays s)) same)

-- names of the same spelling may want the same
pub same_mays : (s : Known) (ns : List Named) → name_list ns ≡ names_in s → mays (record s { names = ns }) ≡ mays s
same_mays s ns same = ap (λ names. flat_map (mays_of s) names) same

pub named_unjudged : (s : Known) (ns : List Named) (ws : List Wish) → name_list ns ≡ names_in s → HaveSame ws (map (wish_in s) (mays s)) → HaveSame (map unjudged ws) (wishes_at (name_list ns) (mays (record s { names = ns })))
named_unjudged s ns ws same h =
    subst (λ ms. HaveSame (map unjudged ws) (wishes_at (name_list ns) ms)) (sym (same_mays s ns same))
    (subst (λ names. HaveSame (map unjudged ws) (wishes_at names (mays s))) (sym same) (again_unjudged s ws h))

-- what may be wanted is judged by the use of both names
module _ (s : Known) (sound : IsSound s) (used : List Bool) (are : AreUsed s used) where
  used_by_id : (x : List ℕ) → Contains (names_in s) x → is_used used (id_of (names_in s) x) ≡ used_in s x
  used_by_id x m = are (id_of (names_in s) x) (id_inside s x m) ∙ ap (used_in s) (name_there (names_in s) x m)

  pub may_judged : (m : May) → Contains (mays s) m → judged used (wish_at (names_in s) m) ≡ wish_in s m
  may_judged m member =
      let a = used_by_id m.first (first_known s sound m member) in
      let b = used_by_id m.second (second_known s sound m member) in
      let used_alike : (is_used used (id_of (names_in s) m.first) && is_used used (id_of (names_in s) m.second)) ≡ is_used_may s m = λ i. a i && b i in
      ap (λ (t : Bool). let w : Wish = record (wish_at (names_in s) m) { wanted = t } in w) used_alike

  pub all_judged : (old new : List Wish) → HaveSame (map unjudged old) (wishes_at (names_in s) (mays s)) → new ≡ map (judged used) old → HaveSame new (map (wish_in s) (mays s))
  all_judged old new same is =
      let again : map (judged used) (map unjudged old) ≡ map (judged used) old = once_more old in
      subst (λ vs. HaveSame vs (map (wish_in s) (mays s))) (again ∙ sym is)
      (subst (HaveSame (map (judged used) (map unjudged old))) (twice (wish_at (names_in s)) (judged used) (wish_in s) (mays s) may_judged) (mapped_same (judged used) (map unjudged old) (wishes_at (names_in s) (mays s)) same))
    where
      once_more : (ws : List Wish) → map (judged used) (map unjudged ws) ≡ map (judged used) ws
      once_more [] = refl
      once_more (w ∷ ws) = ap (λ (vs : List Wish). judged used w ∷ vs) (once_more ws)
