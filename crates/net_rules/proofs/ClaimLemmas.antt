-- Claims over what interfaces are by facts.
use Rattle.std.proofs.Common.{ℕ, ◌≡◌, List, [], ◌∷◌, length, take, Bool, true, false, cond, Some, refl, ap, sym, ◌∙◌}
use Rattle.std.specs.Prelude.{filter, not, ◌&&◌, ◌||◌, bytes_eq, slice_get}
use Rattle.std.specs.List.{flat_map, list_any}
use Rattle.net_rows.specs.declared.rows.InterfaceRow.{InterfaceRow}
use Rattle.net_rules.specs.Facts.{Facts}
use Rattle.net_rules.specs.Firsts.{firsts}
use Rattle.net_rules.specs.Rows.{is_name, interfaces_of}
use Rattle.net_rules.specs.RadioPorts.{device_of}
use Rattle.net_rules.specs.Interfaces.{is_claimed, is_up, l3_device_of}
use Rattle.net_rules.specs.Used.{uses}
use Rattle.net_rules.specs.declared.state.InterfaceState.{InterfaceState}
use Rattle.net_rules.specs.Claims.{uses_by, claims_of}
use Rattle.net_rules.specs.States.{is_first, IsStateOf, IsIdle, IsStateAs, AreStates}
use Rattle.net_rules.proofs.PairLemmas.{give_all_firsts}
use Rattle.net_rules.proofs.MoveLemmas.{count_is, count_beside}

module _ (facts : Facts) (name : List ℕ) where
  uses_same : (row : InterfaceRow) (st : InterfaceState) → IsStateOf facts row st → uses_by name st ≡ uses facts name row
  uses_same row st is =
      ap (λ b. (b && is_name st.device name) || (st.is_up && is_name st.l3_device name)) is.claimed
      ∙ ap (λ d. (is_claimed facts row && is_name d name) || (st.is_up && is_name st.l3_device name)) is.device
      ∙ ap (λ b. (is_claimed facts row && is_name (device_of facts row) name) || (b && is_name st.l3_device name)) is.up
      ∙ ap (λ l. (is_claimed facts row && is_name (device_of facts row) name) || (is_up facts row && is_name l name)) is.l3_device

  idle_uses : (st : InterfaceState) → IsIdle st → uses_by name st ≡ false
  idle_uses st is =
      ap (λ b. (b && is_name st.device name) || (st.is_up && is_name st.l3_device name)) is.claimed
      ∙ ap (λ b. b && is_name st.l3_device name) is.up

  uses_as : (first : Bool) (row : InterfaceRow) (st : InterfaceState) → IsStateAs first facts row st → cond {A = List ℕ} (uses_by name st) (0 ∷ []) [] ≡ cond first (cond {A = List ℕ} (uses facts name row) (0 ∷ []) []) []
  uses_as true row st is = ap (λ b. cond {A = List ℕ} b (0 ∷ []) []) (uses_same row st is)
  uses_as false row st is = ap (λ b. cond {A = List ℕ} b (0 ∷ []) []) (idle_uses st is)

  pub claims_are : (states : List InterfaceState) → AreStates facts facts.conf.interfaces states → claims_of states name ≡ length (filter (uses facts name) (interfaces_of facts.conf))
  claims_are states are =
      let rows = facts.conf.interfaces in
      let key : InterfaceRow → List ℕ = λ row. row.name in
      count_beside (uses_by name) rows states are.size
      ∙ ap length (give_all_firsts key (λ row. cond {A = List ℕ} (uses facts name row) (0 ∷ []) []) (λ (e : InterfaceRow × InterfaceState). cond {A = List ℕ} (uses_by name e.1) (0 ∷ []) []) rows states are.size
      (λ i row st at beside. uses_as (is_first rows i row.name) row st (are.each i row st at beside)))
      ∙ sym (count_is (uses facts name) (firsts key rows))
