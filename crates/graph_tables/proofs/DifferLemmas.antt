-- what is wanted where the use of some ids alone has changed
use Rattle.std.proofs.Common.{arith, ℕ, ◌≡◌, ◌+◌, ◌<◌, ◌⊎◌, inl, inr, Bool, true, false, List, [], map, take, length, get_or, slice_set, Contains, get_or-set_same, get_or-set_other, refl, sym, ap, subst, ◌∙◌}
use Rattle.std.specs.Prelude.{◌&&◌, nat_eq, if◌then◌else◌}
use Rattle.std.proofs.lemmas.Bool.{cases_eq}
use Rattle.std.proofs.lemmas.Bool.Decides.{Decides-eqb}
use Rattle.std.proofs.lemmas.List.{length-map}
use Rattle.kern_model.proofs.MemberLemmas.{none_in_nil}
use Rattle.kern_model.proofs.TestLemmas.{of_left, of_right, of_any}
use Rattle.graph_objects.specs.declared.slot.Wish.{Wish}
use Rattle.graph_objects.specs.Marks.{is_used, judged}
use Rattle.graph_objects.specs.Decided.{decides, is_decided, judged_by, StandOnWanted}
use Rattle.graph_objects.proofs.JudgeLemmas.{one_more}
use Rattle.graph_rules.specs.State.{Named, Known, names_in}
use Rattle.graph_rules.specs.Answers.{used_in}
use Rattle.graph_counts.specs.Counted.{id_of, name_of}
use Rattle.graph_counts.specs.Sound.{IsSound}
use Rattle.graph_wishes.specs.Wishes.{May, mays, is_used_may}
use Rattle.graph_tables.specs.Wished.{wish_at, wish_in}
use Rattle.graph_tables.specs.Lists.{HaveSame, AreUsed}
use Rattle.graph_tables.specs.Differing.{SeesSome, DiffersAt}
use Rattle.graph_tables.proofs.DecideLemmas.{first_known, second_known, name_there, id_inside}
use Rattle.graph_tables.proofs.ListLemmas.{mapped_same, twice, may_judged}
use Rattle.graph_tables.proofs.StandOnLemmas.{mays_stand_on, same_stand_on}

same_or_not : (a b : Bool) → (a ≡ b) ⊎ (a ≡ b → ⊥)
same_or_not true true = inl refl
same_or_not false false = inl refl
same_or_not true false = inr (λ h. cc h)
same_or_not false true = inr (λ h. cc h)

-- ids are looked at one after another
pub none_seen : (s : Known) (old : List Bool) → SeesSome s [] old old
none_seen s old id = inr (none_in_nil id, refl)

pub one_seen : (s : Known) (ids : List ℕ) (k one : ℕ) (old mid : List Bool) (b : Bool) → SeesSome s (take k ids) old mid → k < length ids → one ≡ get_or ids k 0 → one < length mid → b ≡ used_in s (name_of s one)
    → SeesSome s (take (k + 1) ids) old (slice_set mid one b)
one_seen s ids k one old mid b so_far inside is within told id =
    elim (cases_eq id one) as (λ _. (is_used (slice_set mid one b) id ≡ used_in s (name_of s id)) ⊎ ((Contains (take (k + 1) ids) id → ⊥) × (is_used (slice_set mid one b) id ≡ is_used old id))) [
      | inl same ↦ inl (ap (is_used (slice_set mid one b)) same ∙ get_or-set_same mid one b false within ∙ told ∙ ap (λ n. used_in s (name_of s n)) (sym same))
      | inr other ↦ elim (so_far id) as (λ _. (is_used (slice_set mid one b) id ≡ used_in s (name_of s id)) ⊎ ((Contains (take (k + 1) ids) id → ⊥) × (is_used (slice_set mid one b) id ≡ is_used old id))) [
        | inl seen ↦ inl (get_or-set_other mid one id b false other ∙ seen)
        | inr left ↦ inr ((λ member. elim (one_more ids k id inside member) as (λ _. ⊥) [ inl before ↦ left.0 before | inr same ↦ other (same ∙ sym is) ]), get_or-set_other mid one id b false other ∙ left.1)
      ]
    ]

module _ (before now : Known) (ids : List ℕ) (old new : List Bool) (ws : List Wish) (differs : DiffersAt before now ids old ws) (sees : SeesSome now ids old new) (sound : IsSound now) where
  -- an id that is not among them is used as before
  as_before : (id : ℕ) → id < length now.names → (Contains ids id → ⊥) → used_in before (name_of before id) ≡ used_in now (name_of now id)
  as_before id inside off = elim (same_or_not (used_in before (name_of before id)) (used_in now (name_of now id))) as (λ _. used_in before (name_of before id) ≡ used_in now (name_of now id)) [
    | inl same ↦ same
    | inr other ↦ absurd (off (differs.differing id inside other))
  ]

  as_many : length before.names ≡ length now.names
  as_many = sym (length-map before.names (λ (n : Named). n.name)) ∙ ap length differs.spelling ∙ length-map now.names (λ (n : Named). n.name)

  pub used_now : AreUsed now new
  used_now id inside = elim (sees id) as (λ _. is_used new id ≡ used_in now (name_of now id)) [
    | inl seen ↦ seen
    | inr left ↦ left.1 ∙ differs.uses id (omega (arith, as_many, inside)) ∙ as_before id inside left.0
  ]

  -- a wish that none of them decides is wanted as before
  module _ (m : May) (member : Contains (mays now) m) where
    still_used : (x : List ℕ) → Contains (names_in now) x → (Contains ids (id_of (names_in now) x) → ⊥) → used_in before x ≡ used_in now x
    still_used x known off =
        let id = id_of (names_in now) x in
        let name : name_of now id ≡ x = name_there (names_in now) x known in
        let was : name_of before id ≡ x = ap (λ names. get_or names id []) differs.spelling ∙ name in
        ap (used_in before) (sym was) ∙ as_before id (id_inside now x known) off ∙ ap (used_in now) name

    not_among : is_decided ids (wish_at (names_in now) m) ≡ false → (id : ℕ) → decides id (wish_at (names_in now) m) ≡ true → Contains ids id → ⊥
    not_among none id one among = let some = of_any (λ n. decides n (wish_at (names_in now) m)) ids id among one in cc (none, some)

    judged_now : (b : Bool) → is_decided ids (wish_at (names_in now) m) ≡ b → (if b then judged new (wish_in before m) else wish_in before m) ≡ wish_in now m
    judged_now true is =
        ap (λ names. judged new (wish_at names m)) differs.spelling ∙ may_judged now sound new used_now m member
    judged_now false none =
        let first = id_of (names_in now) m.first in
        let second = id_of (names_in now) m.second in
        let a = still_used m.first (first_known now sound m member) (not_among none first (of_left (nat_eq first first) (nat_eq second first) ((Decides-eqb first first).1 refl))) in
        let b = still_used m.second (second_known now sound m member) (not_among none second (of_right (nat_eq first second) (nat_eq second second) ((Decides-eqb second second).1 refl))) in
        let alike : is_used_may before m ≡ is_used_may now m = λ i. a i && b i in
        ap (λ names. let w : Wish = record (wish_at names m) { wanted = is_used_may before m } in w) differs.spelling
        ∙ ap (λ (t : Bool). let w : Wish = record (wish_at (names_in now) m) { wanted = t } in w) alike

    wish_judged : judged_by new ids (wish_in before m) ≡ wish_in now m
    wish_judged = ap (λ names. if is_decided ids (wish_at names m) then judged new (wish_in before m) else wish_in before m) differs.spelling ∙ judged_now (is_decided ids (wish_at (names_in now) m)) refl

  pub wishes_now : HaveSame (map (judged_by new ids) ws) (map (wish_in now) (mays now))
  wishes_now =
      subst (HaveSame (map (judged_by new ids) ws)) (twice (wish_in before) (judged_by new ids) (wish_in now) (mays now) wish_judged)
      (mapped_same (judged_by new ids) ws (map (wish_in before) (mays now)) (subst (λ ms. HaveSame ws (map (wish_in before) ms)) differs.objects differs.wishes))

  pub stand_now : StandOnWanted (map (judged_by new ids) ws)
  stand_now = same_stand_on (map (judged_by new ids) ws) (map (wish_in now) (mays now)) wishes_now (mays_stand_on now sound)
