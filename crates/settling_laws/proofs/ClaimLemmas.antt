-- No interface uses a name that a graph does not know.
use Rattle.std.proofs.Common.{ℕ, suc, ◌≡◌, inl, inr, List, [], ◌∷◌, filter, length, Bool, true, false, cond, Contains, Option, Some, None, position, refl, ap, sym, subst, ◌∙◌}
use Rattle.std.specs.Prelude.{bytes_eq, ◌&&◌}
use Rattle.std.specs.List.{list_any}
use Rattle.std.specs.Option.{option_map, option_map_or}
use Rattle.kern_model.proofs.MemberLemmas.{here, there}
use Rattle.kern_model.proofs.TestLemmas.{both, either, bytes_same, same_bytes, false_of_not, from_any, of_any}
use Rattle.uci_tree.proofs.FoldLemmas.{position-cons}
use Rattle.net_rows.specs.declared.rows.InterfaceRow.{InterfaceRow}
use Rattle.net_rules.specs.Facts.{Facts}
use Rattle.net_rules.specs.Rows.{is_name, interfaces_of}
use Rattle.net_rules.specs.RadioPorts.{device_of}
use Rattle.net_rules.specs.Available.{available}
use Rattle.net_rules.specs.Interfaces.{is_enabled, has_device, is_claimed, is_up, l3_device_of}
use Rattle.net_rules.specs.Used.{uses}
use Rattle.net_rules.proofs.GivenLemmas.{l3_device_available}
use Rattle.graph_rules.specs.State.{Named, Known, names_in, claims_in}
use Rattle.graph_rules.specs.Agreeing.{Agrees}
use Rattle.graph_laws.specs.Below.{AgreesBelow}
use Rattle.graph_laws.specs.Knowing.{KnowsRows}
use Rattle.graph_laws.proofs.BelowLemmas.{unknown_below, no_device}
use Rattle.settling_laws.proofs.TimesLemmas.{none_counted}

-- a name that is none of others has no place
no_place_by : (name n : List ℕ) (ns : List (List ℕ)) (b : Bool) → bytes_eq name n ≡ b → (Contains (n ∷ ns) name → ⊥) → position (bytes_eq name) ns ≡ None
    → cond {A = Option ℕ} b (Some 0) (option_map (λ k. suc k) (position (bytes_eq name) ns)) ≡ None
no_place_by name n ns true is apart rest = absurd (apart (subst (Contains (n ∷ ns)) (sym (bytes_same name n is)) (here n ns)))
no_place_by name n ns false is apart rest = ap (option_map (λ k. suc k)) rest

no_place : (name : List ℕ) (names : List (List ℕ)) → (Contains names name → ⊥) → position (bytes_eq name) names ≡ None
no_place name [] apart = refl
no_place name (n ∷ ns) apart =
    position-cons (bytes_eq name) n ns
    ∙ no_place_by name n ns (bytes_eq name n) refl apart (no_place name ns (λ h. apart (there n ns name h)))

its_name : (device : Option (List ℕ)) (name : List ℕ) → is_name device name ≡ true → device ≡ Some name
its_name None name h = cc h
its_name (Some other) name h = ap Some (bytes_same other name h)

-- what an interface uses is available
used_is_available : (facts : Facts) (name : List ℕ) (row : InterfaceRow) → uses facts name row ≡ true → available facts name ≡ true
used_is_available facts name row h =
    elim (either (is_claimed facts row && is_name (device_of facts row) name) (is_up facts row && is_name (l3_device_of facts row) name) h) as (λ _. available facts name ≡ true) [
      | inl own ↦
          let parts = both (is_claimed facts row) (is_name (device_of facts row) name) own in
          let has = (both (is_enabled facts row) (has_device facts row.proto (device_of facts row)) parts.0).1 in
          subst (λ d. has_device facts row.proto d ≡ true) (its_name (device_of facts row) name parts.1) has
      | inr over ↦
          let parts = both (is_up facts row) (is_name (l3_device_of facts row) name) over in
          l3_device_available facts row name parts.0 (its_name (l3_device_of facts row) name parts.1)
    ]

pub none_unknown : (facts : Facts) (s : Known) (name : List ℕ) → AgreesBelow facts s → KnowsRows s → (Contains (names_in s) name → ⊥) → length (filter (uses facts name) (interfaces_of facts.conf)) ≡ 0
none_unknown facts s name agrees knows apart =
    let off = (unknown_below facts s agrees knows name (no_place name (names_in s) apart)).0 in
    none_counted (uses facts name) (interfaces_of facts.conf) (λ row h. false_of_not (uses facts name row) (λ uses_it. let on = used_is_available facts name row uses_it in cc (on, off)))

pub all_claims : (facts : Facts) (s : Known) → AgreesBelow facts s → KnowsRows s → ((name : List ℕ) → Contains (names_in s) name → claims_in s name ≡ length (filter (uses facts name) (interfaces_of facts.conf))) → Agrees facts s
all_claims facts s agrees knows known = record {
  rows = agrees.rows;
  vlans = agrees.vlans;
  radio = agrees.radio;
  devices = agrees.devices;
  claims = λ name. by name (list_any (λ n. bytes_eq n name) (names_in s)) refl;
}
  where
    by : (name : List ℕ) (b : Bool) → list_any (λ n. bytes_eq n name) (names_in s) ≡ b → claims_in s name ≡ length (filter (uses facts name) (interfaces_of facts.conf))
    by name true is =
        let found = from_any (λ n. bytes_eq n name) (names_in s) is in
        known name (subst (Contains (names_in s)) (bytes_same found.passing name found.passes) found.member)
    by name false is =
        let apart : Contains (names_in s) name → ⊥ = λ h. let listed = of_any (λ n. bytes_eq n name) (names_in s) name h (same_bytes name name refl) in cc (listed, is) in
        ap (λ (found : Option Named). option_map_or (λ (n : Named). n.claims) found 0) (no_device s.names name apart)
        ∙ sym (none_unknown facts s name agrees knows apart)
