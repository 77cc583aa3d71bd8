-- what is wanted of sound names stands on links that are wanted, where links may be wanted
use Rattle.std.proofs.Common.{ℕ, ◌≡◌, inl, inr, true, List, [], ◌∷◌, map, Contains, sym, ap, subst, ◌∙◌}
use Rattle.kern_model.specs.declared.object.LinkKind.{LinkKind}
use Rattle.kern_model.specs.declared.object.Object.{Object}
use Rattle.kern_model.specs.declared.object.Object.TheVariants as object
use Rattle.kern_model.specs.Standing.{places_of}
use Rattle.kern_model.proofs.MemberLemmas.{first_or_later, none_in_nil, member_of_map}
use Rattle.kern_model.proofs.TestLemmas.{both, of_both}
use Rattle.graph_objects.specs.declared.slot.Wish.{Wish}
use Rattle.graph_objects.specs.Decided.{StandOnWanted}
use Rattle.graph_rules.specs.State.{Known, names_in}
use Rattle.graph_rules.specs.Answers.{used_in}
use Rattle.graph_counts.specs.Sound.{IsSound}
use Rattle.graph_wishes.specs.Wishes.{May, mays, is_used_may}
use Rattle.graph_wishes.proofs.MayLemmas.{IsMay, names_may}
use Rattle.graph_wishes.proofs.StoodLemmas.{used_lower}
use Rattle.graph_tables.specs.Wished.{wish_in}
use Rattle.graph_tables.specs.Lists.{HaveSame}

module _ (s : Known) (sound : IsSound s) (p : List ℕ) where
  at_one : (a : List ℕ) → used_in s a ≡ true → Contains (a ∷ []) p → used_in s p ≡ true
  at_one a used member = elim (first_or_later a [] p member) as (λ _. used_in s p ≡ true) [
    | inl same ↦ subst (λ n. used_in s n ≡ true) same used
    | inr none ↦ absurd (none_in_nil p none)
  ]

  at_two : (a b : List ℕ) → used_in s a ≡ true → used_in s b ≡ true → Contains (a ∷ b ∷ []) p → used_in s p ≡ true
  at_two a b first second member = elim (first_or_later a (b ∷ []) p member) as (λ _. used_in s p ≡ true) [
    | inl same ↦ subst (λ n. used_in s n ≡ true) same first
    | inr later ↦ at_one b second later
  ]

  -- a place of what is wanted is a used name
  place_used : (n : List ℕ) (m : May) → IsMay s n m → used_in s m.first ≡ true → used_in s m.second ≡ true → Contains (places_of m.object) p → used_in s p ≡ true
  place_used n m (IsMay.of_mtu x is) first second at = at_one n first at
  place_used n m IsMay.of_up first second at = at_one n first at
  place_used n m (IsMay.of_mac x is) first second at = at_one n first at
  place_used n m (IsMay.of_vlan lower id is) first second at = at_one lower (used_lower s sound n lower id is first) at
  place_used n m (IsMay.of_bridge empty ports is) first second at = absurd (none_in_nil p at)
  place_used n m (IsMay.of_master port is) first second at = at_two port n second first at
  place_used n m (IsMay.of_entry row e on has is) first second at = at_two e.port n second first at
  place_used n m (IsMay.of_local row on) first second at = at_two n n first first at

  -- the name of a link alone decides it
  named_alone : (n : List ℕ) (m : May) → IsMay s n m → (kind : LinkKind) → m.object ≡ object.Link p kind → (m.first ≡ p) × (m.second ≡ p)
  named_alone n m (IsMay.of_mtu x is) kind h = absurd (cc h)
  named_alone n m IsMay.of_up kind h = absurd (cc h)
  named_alone n m (IsMay.of_mac x is) kind h = absurd (cc h)
  named_alone n m (IsMay.of_vlan lower id is) kind h = let same : n ≡ p = cc h in (same, same)
  named_alone n m (IsMay.of_bridge empty ports is) kind h = let same : n ≡ p = cc h in (same, same)
  named_alone n m (IsMay.of_master port is) kind h = absurd (cc h)
  named_alone n m (IsMay.of_entry row e on has is) kind h = absurd (cc h)
  named_alone n m (IsMay.of_local row on) kind h = absurd (cc h)

pub mays_stand_on : (s : Known) → IsSound s → StandOnWanted (map (wish_in s) (mays s))
mays_stand_on s sound w link name kind member wanted at other is =
    let m = member_of_map (wish_in s) (mays s) w member in
    let n = member_of_map (wish_in s) (mays s) link other in
    let a = names_may s (names_in s) m.source m.member in
    let b = names_may s (names_in s) n.source n.member in
    let used : is_used_may s m.source ≡ true = ap (λ (v : Wish). v.wanted) m.same ∙ wanted in
    let parts = both (used_in s m.source.first) (used_in s m.source.second) used in
    let place : Contains (places_of m.source.object) name = subst (λ (o : Object). Contains (places_of o) name) (sym (ap (λ (v : Wish). v.object) m.same)) at in
    let here = place_used s sound name a.0 m.source a.1 parts.0 parts.1 place in
    let alone = named_alone s sound name b.0 n.source b.1 kind (ap (λ (v : Wish). v.object) n.same ∙ is) in
    sym (ap (λ (v : Wish). v.wanted) n.same)
    ∙ of_both (used_in s n.source.first) (used_in s n.source.second) (ap (used_in s) alone.0 ∙ here) (ap (used_in s) alone.1 ∙ here)

-- so of wishes that are the same
pub same_stand_on : (ws vs : List Wish) → HaveSame ws vs → StandOnWanted vs → StandOnWanted ws
same_stand_on ws vs same stand w link name kind member wanted at other is = stand w link name kind ((same w).0 member) wanted at ((same link).0 other) is
