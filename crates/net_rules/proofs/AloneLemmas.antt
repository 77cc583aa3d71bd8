-- Answers that follow the rows are the answers.
use Rattle.std.proofs.Common.{arith, ℕ, zero, suc, ◌≡◌, ◌<◌, List, Bool, true, ap, sym, ◌∙◌}
use Rattle.std.specs.Prelude.{◌&&◌, ◌||◌}
use Rattle.std.specs.List.{list_any}
use Rattle.net_rules.specs.Facts.{Facts}
use Rattle.net_rules.specs.Rows.{names_of, interfaces_of}
use Rattle.net_rules.specs.Standing.{standing_at, stands}
use Rattle.net_rules.specs.Sound.{IsSound, AreClosedDown, AreClosedUp}
use Rattle.net_rules.specs.Available.{is_present, has_carrier, opens_at, available, links_at, link}
use Rattle.net_rules.specs.Used.{uses, serves_at, used}
use Rattle.net_rules.proofs.ListLemmas.{and_same, any_same}
use Rattle.net_rules.proofs.StandingLemmas.{stands_by_test}
use Rattle.net_rules.proofs.DeviceLemmas.{rank_down, rank_up, lower_rank, upper_rank, opens_same, links_same, available_follows, link_follows, used_follows}

module _ (facts : Facts) (sound : IsSound facts.conf) (among : List ℕ → Bool) (answer : List ℕ → Bool) where
  module _ (closed : AreClosedDown facts among) where
    available_by : ((name : List ℕ) → among name ≡ true → answer name ≡ opens_at facts answer name) → (fuel : ℕ) (name : List ℕ) → rank_down facts.conf name < fuel → among name ≡ true → answer name ≡ available facts name
    available_by follows zero name few is = absurd (omega arith)
    available_by follows (suc fuel) name few is =
        follows name is
        ∙ opens_same (is_present facts name) answer (available facts) (standing_at facts name) (λ lower h. let below = lower_rank facts sound name lower h in available_by follows fuel lower (omega arith) (closed name lower is h))
        ∙ sym (available_follows facts sound name)

    pub available_alone : ((name : List ℕ) → among name ≡ true → answer name ≡ opens_at facts answer name) → (name : List ℕ) → among name ≡ true → answer name ≡ available facts name
    available_alone follows name is = available_by follows 8 name (omega arith) is

    link_by : ((name : List ℕ) → among name ≡ true → answer name ≡ links_at facts answer name) → (fuel : ℕ) (name : List ℕ) → rank_down facts.conf name < fuel → among name ≡ true → answer name ≡ link facts name
    link_by follows zero name few is = absurd (omega arith)
    link_by follows (suc fuel) name few is =
        follows name is
        ∙ links_same (has_carrier facts name) (available facts name) answer (link facts) (standing_at facts name)
        (λ lower h. let below = lower_rank facts sound name lower h in link_by follows fuel lower (omega arith) (closed name lower is h))
        ∙ sym (link_follows facts sound name)

    pub link_alone : ((name : List ℕ) → among name ≡ true → answer name ≡ links_at facts answer name) → (name : List ℕ) → among name ≡ true → answer name ≡ link facts name
    link_alone follows name is = link_by follows 8 name (omega arith) is

  module _ (closed : AreClosedUp facts among) where
    used_by : ((name : List ℕ) → among name ≡ true → answer name ≡ serves_at facts answer name) → (fuel : ℕ) (name : List ℕ) → rank_up facts.conf name < fuel → among name ≡ true → answer name ≡ used facts name
    used_by follows zero name few is = absurd (omega arith)
    used_by follows (suc fuel) name few is =
        follows name is
        ∙ ap (λ b. available facts name && (list_any (uses facts name) (interfaces_of facts.conf) || b))
        (any_same (λ upper. stands facts name upper && answer upper) (λ upper. stands facts name upper && used facts upper) (names_of facts.conf)
        (λ upper member. and_same (stands facts name upper) (answer upper) (used facts upper) (λ on.
        let h = stands_by_test facts name upper on in
        let above = upper_rank facts sound upper name h in
        used_by follows fuel upper (omega arith) (closed upper name is h))))
        ∙ sym (used_follows facts sound name)

    pub used_alone : ((name : List ℕ) → among name ≡ true → answer name ≡ serves_at facts answer name) → (name : List ℕ) → among name ≡ true → answer name ≡ used facts name
    used_alone follows name is = let least = sound.levels.least name in used_by follows 8 name (omega arith) is
