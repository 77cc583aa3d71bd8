-- Interfaces follow the inputs, place by place.
use Rattle.std.proofs.Common.{arith, inl, inr, ℕ, ◌≡◌, ◌≤◌, ◌<◌, ◌+◌, List, [], ◌∷◌, length, take, drop, true, Some, refl, ap, sym, subst, ◌∙◌}
use Rattle.std.specs.Prelude.{◌||◌, ◌==◌, slice_get, slice_set}
use Rattle.std.proofs.lemmas.Bool.Decides.{Decides-eqb}
use Rattle.kern_model.proofs.TestLemmas.{either}
use Rattle.net_rows.specs.declared.rows.InterfaceRow.{InterfaceRow}
use Rattle.net_rules.specs.declared.inputs.Inputs.{Inputs}
use Rattle.net_rules.specs.Inputs.{facts_of}
use Rattle.net_rules.specs.declared.state.InterfaceState.{InterfaceState}
use Rattle.net_rules.specs.States.{is_first, IsIdle, IsStateAs}
use Rattle.asked_places.specs.Touched.{has}
use Rattle.net_states.specs.declared.states.States.{States}
use Rattle.net_states.specs.Kept.{IsTied, AreStatesOf, FollowBut, AreIdleAt}
use Rattle.net_states.specs.Becoming.{idle, Follows}
use Rattle.net_states.proofs.PlaceLemmas.{get_of_set, within_of, is_not, has_taken, left_is}

-- one more of the places is idle
pub idle_more : (places : List ℕ) (n place : ℕ) (list : List InterfaceState) (old : InterfaceState) → slice_get places n ≡ Some place → AreIdleAt (take n places) list → AreIdleAt (take (n + 1) places) (slice_set list place (idle old))
idle_more places n place list old is idle_so_far = λ q st at among. elim (get_of_set list place q (idle old) st at) as (λ _. IsIdle st) [
  | inl it ↦ subst IsIdle (sym it.1) (record { claimed = refl; up = refl })
  | inr other ↦ idle_so_far q st other.1 (elim (either (has (take n places) q) (q == place) (sym (has_taken places n place q is) ∙ among)) as (λ _. has (take n places) q ≡ true) [
    | inl so_far ↦ so_far
    | inr here ↦ absurd (other.0 ((Decides-eqb q place).0 here))
  ])
]

module _ (inputs : Inputs) where
  -- others follow still
  pub follow_apart : (places : List ℕ) (place : ℕ) (list : List InterfaceState) (new : InterfaceState) → has places place ≡ true → FollowBut inputs places list → FollowBut inputs places (slice_set list place new)
  follow_apart places place list new among follow = λ q row st at here other. elim (get_of_set list place q new st here) as (λ _. IsStateAs (is_first inputs.conf.interfaces q row.name) (facts_of inputs) row st) [
    | inl it ↦ let same : has places q ≡ has places place = ap (has places) it.0 in cc (same, among, other)
    | inr apart ↦ follow q row st at apart.1 other
  ]

  -- the one at its place follows
  at_place : (place q : ℕ) (before now : List InterfaceState) (row : InterfaceRow) (st : InterfaceState) (f : Follows inputs place before now) → slice_get inputs.conf.interfaces q ≡ Some row → q ≡ place → st ≡ f.new
      → IsStateAs (is_first inputs.conf.interfaces q row.name) (facts_of inputs) row st
  at_place place q before now row st f at same is =
      subst (λ (s : InterfaceState). IsStateAs (is_first inputs.conf.interfaces q row.name) (facts_of inputs) row s) (sym is)
      (subst (λ k. IsStateAs (is_first inputs.conf.interfaces k row.name) (facts_of inputs) row f.new) (sym same) (f.is row (ap (slice_get inputs.conf.interfaces) (sym same) ∙ at)))

  pub follow_one : (place : ℕ) (rest : List ℕ) (before now : List InterfaceState) → FollowBut inputs (place ∷ rest) before → Follows inputs place before now → FollowBut inputs rest now
  follow_one place rest before now follow f = λ q row st at here other. elim (get_of_set before place q f.new st (ap (λ (ss : List InterfaceState). slice_get ss q) (sym f.list) ∙ here)) as
      (λ _. IsStateAs (is_first inputs.conf.interfaces q row.name) (facts_of inputs) row st) [
        | inl it ↦ at_place place q before now row st f at it.0 it.1
        | inr apart ↦ follow q row st at apart.1 (ap (λ b. b || has rest q) (is_not q place apart.0) ∙ other)
      ]

  pub follow_next : (places : List ℕ) (n place : ℕ) (before now : List InterfaceState) → slice_get places n ≡ Some place → FollowBut inputs (drop n places) before → Follows inputs place before now
      → FollowBut inputs (drop (n + 1) places) now
  follow_next places n place before now is follow f = follow_one place (drop (n + 1) places) before now (subst (λ (ps : List ℕ). FollowBut inputs ps before) (left_is places n place is) follow) f

  pub all_follow : (states : States) (places : List ℕ) → places ≡ [] → IsTied inputs states → FollowBut inputs places states.list.items → AreStatesOf inputs states
  all_follow states places none tied follow = record {
    tied = tied;
    are = record { size = tied.noted.size; each = λ q row st at here. follow q row st at here (ap (λ (ps : List ℕ). has ps q) none) };
  }

  -- interfaces below a place follow
  abbrev pub FollowBelow : ℕ → List InterfaceState → Type 0
  FollowBelow n list = (q : ℕ) (row : InterfaceRow) (st : InterfaceState) → slice_get inputs.conf.interfaces q ≡ Some row → slice_get list q ≡ Some st → q < n → IsStateAs (is_first inputs.conf.interfaces q row.name) (facts_of inputs) row st

  pub none_below : (list : List InterfaceState) → FollowBelow 0 list
  none_below list = λ q row st at here below. absurd (omega (arith, below))

  pub below_more : (place : ℕ) (before now : List InterfaceState) → FollowBelow place before → Follows inputs place before now → FollowBelow (place + 1) now
  below_more place before now follow f = λ q row st at here below. elim (get_of_set before place q f.new st (ap (λ (ss : List InterfaceState). slice_get ss q) (sym f.list) ∙ here)) as
      (λ _. IsStateAs (is_first inputs.conf.interfaces q row.name) (facts_of inputs) row st) [
        | inl it ↦ at_place place q before now row st f at it.0 it.1
        | inr apart ↦ follow q row st at apart.1 (by_order q place apart.0 below)
      ]
    where
      by_order : (q p : ℕ) → (q ≡ p → ⊥) → q < p + 1 → q < p
      by_order q p apart below = omega (arith, apart, below)

  pub all_below : (states : States) (n : ℕ) → length inputs.conf.interfaces ≤ n → IsTied inputs states → FollowBelow n states.list.items → AreStatesOf inputs states
  all_below states n most tied follow = record {
    tied = tied;
    are = record {
      size = tied.noted.size;
      each = λ q row st at here. let within : q < length inputs.conf.interfaces = within_of inputs.conf.interfaces q row at in follow q row st at here (omega (arith, within, most));
    };
  }
