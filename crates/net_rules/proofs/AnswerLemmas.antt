-- What facts with other answers tell of interfaces, and which names these use.
use Rattle.std.proofs.Common.{inl, inr, ℕ, ◌≡◌, List, Bool, true, false, cond, Option, Some, None, refl, ap, sym, subst, ◌∙◌}
use Rattle.std.specs.Prelude.{◌&&◌, ◌||◌}
use Rattle.std.specs.Option.{option_and_then}
use Rattle.kern_model.proofs.TestLemmas.{both, either, bytes_same}
use Rattle.net_rows.specs.declared.rows.InterfaceRow.{InterfaceRow}
use Rattle.net_rules.specs.declared.answer.Answer.{Answer}
use Rattle.net_rules.specs.Facts.{Facts}
use Rattle.net_rules.specs.Rows.{is_name, asks_nothing, is_plain}
use Rattle.net_rules.specs.RadioPorts.{device_of}
use Rattle.net_rules.specs.Available.{available, link}
use Rattle.net_rules.specs.Interfaces.{is_enabled, has_device, is_claimed, has_link, is_ready, answer_of, device_or_own, l3_device_of, serves_l3_device, is_answered_up, is_up}
use Rattle.net_rules.specs.declared.state.InterfaceState.{InterfaceState}
use Rattle.net_rules.specs.Claims.{uses_by}
use Rattle.net_rules.specs.States.{IsStateOf}

module _ (facts : Facts) (answer : List ℕ → Option Answer) (row : InterfaceRow) where
  abbrev pub with_answers : Facts
  with_answers = record facts { answer = answer }

  pub device_same : device_of with_answers row ≡ device_of facts row
  device_same = refl

  available_same : (name : List ℕ) → available with_answers name ≡ available facts name
  unfolding available
  available_same name = refl

  link_same : (name : List ℕ) → link with_answers name ≡ link facts name
  unfolding link available
  link_same name = refl

  has_device_same : (o : Option (List ℕ)) → has_device with_answers row.proto o ≡ has_device facts row.proto o
  has_device_same None = refl
  has_device_same (Some device) = available_same device

  has_link_same : (o : Option (List ℕ)) → has_link with_answers o ≡ has_link facts o
  has_link_same None = refl
  has_link_same (Some device) = link_same device

  serves_same : (own o : Option (List ℕ)) → serves_l3_device with_answers own o ≡ serves_l3_device facts own o
  serves_same own None = refl
  serves_same own (Some l3_device) = ap (λ b. b && (is_plain facts.conf l3_device || is_name own l3_device)) (available_same l3_device)

  pub claimed_same : is_claimed with_answers row ≡ is_claimed facts row
  claimed_same = ap (λ b. is_enabled facts row && b) (has_device_same (device_of facts row))

  pub ready_same : is_ready with_answers row ≡ is_ready facts row
  ready_same =
      ap (λ b. b && (row.force_link || has_link with_answers (device_of facts row))) claimed_same
      ∙ ap (λ b. is_claimed facts row && (row.force_link || b)) (has_link_same (device_of facts row))

  module _ (same : answer row.name ≡ facts.answer row.name) where
    answer_same : answer_of with_answers row ≡ answer_of facts row
    answer_same = ap (λ (a : Option Answer). cond {A = Option Answer} (asks_nothing row.proto) None a) same

    pub l3_device_same : l3_device_of with_answers row ≡ l3_device_of facts row
    l3_device_same = ap (λ (a : Option Answer). device_or_own (option_and_then (λ (x : Answer). x.device) a) (device_of facts row)) answer_same

    pub up_same : is_up with_answers row ≡ is_up facts row
    up_same =
        ap (λ b. b && (asks_nothing row.proto || (is_answered_up (answer_of with_answers row) && serves_l3_device with_answers (device_of facts row) (l3_device_of with_answers row)))) ready_same
        ∙ ap (λ (a : Option Answer). is_ready facts row && (asks_nothing row.proto || (is_answered_up a && serves_l3_device with_answers (device_of facts row) (l3_device_of with_answers row)))) answer_same
        ∙ ap (λ (o : Option (List ℕ)). is_ready facts row && (asks_nothing row.proto || (is_answered_up (answer_of facts row) && serves_l3_device with_answers (device_of facts row) o))) l3_device_same
        ∙ ap (λ b. is_ready facts row && (asks_nothing row.proto || (is_answered_up (answer_of facts row) && b))) (serves_same (device_of facts row) (l3_device_of facts row))

    pub state_same : (st : InterfaceState) → IsStateOf facts row st → IsStateOf with_answers row st
    state_same st is = record {
      device = is.device;
      l3_device = is.l3_device ∙ sym l3_device_same;
      claimed = is.claimed ∙ sym claimed_same;
      up = is.up ∙ sym up_same;
    }

-- ---- names that an interface uses

named : (o : Option (List ℕ)) (name : List ℕ) → is_name o name ≡ true → o ≡ Some name
named None name h = cc h
named (Some other) name h = ap (λ n. Some n) (bytes_same other name h)

module _ (facts : Facts) (row : InterfaceRow) where
  claimed_on : (name : List ℕ) → is_claimed facts row ≡ true → device_of facts row ≡ Some name → available facts name ≡ true
  claimed_on name claimed is = subst (λ (o : Option (List ℕ)). has_device facts row.proto o ≡ true) is (both (is_enabled facts row) (has_device facts row.proto (device_of facts row)) claimed).1

  no_answer : asks_nothing row.proto ≡ true → l3_device_of facts row ≡ device_of facts row
  no_answer own = ap (λ b. device_or_own (option_and_then (λ (x : Answer). x.device) (cond {A = Option Answer} b None (facts.answer row.name))) (device_of facts row)) own

  up_on : (name : List ℕ) → is_up facts row ≡ true → l3_device_of facts row ≡ Some name → available facts name ≡ true
  up_on name up is =
      let answered = is_answered_up (answer_of facts row) && serves_l3_device facts (device_of facts row) (l3_device_of facts row) in
      let parts = both (is_ready facts row) (asks_nothing row.proto || answered) up in
      let claimed = (both (is_claimed facts row) (row.force_link || has_link facts (device_of facts row)) parts.0).0 in
      elim (either (asks_nothing row.proto) answered parts.1) as (λ _. available facts name ≡ true) [
        | inl own ↦ claimed_on name claimed (sym (no_answer own) ∙ is)
        | inr served ↦
            let serves = subst (λ (o : Option (List ℕ)). serves_l3_device facts (device_of facts row) o ≡ true) is
            (both (is_answered_up (answer_of facts row)) (serves_l3_device facts (device_of facts row) (l3_device_of facts row)) served).1 in
            (both (available facts name) (is_plain facts.conf name || is_name (device_of facts row) name) serves).0
      ]

  pub used_available : (st : InterfaceState) → IsStateOf facts row st → (name : List ℕ) → uses_by name st ≡ true → available facts name ≡ true
  used_available st is name uses =
      elim (either (st.is_claimed && is_name st.device name) (st.is_up && is_name st.l3_device name) uses) as (λ _. available facts name ≡ true) [
        | inl claims ↦ let h = both st.is_claimed (is_name st.device name) claims in claimed_on name (sym is.claimed ∙ h.0) (sym is.device ∙ named st.device name h.1)
        | inr up ↦ let h = both st.is_up (is_name st.l3_device name) up in up_on name (sym is.up ∙ h.0) (sym is.l3_device ∙ named st.l3_device name h.1)
      ]
