-- Below claims a graph answers as its network.
use Rattle.std.proofs.Common.{◌≡◌, inl, inr, ℕ, zero, suc, List, [], ◌∷◌, map, Bool, true, false, cond, Contains, Option, Some, None, position, refl, ap, sym, subst, ◌∙◌}
use Rattle.std.specs.Prelude.{bytes_eq, is_some, ◌&&◌}
use Rattle.std.specs.Option.{option_map, option_map_or, option_and_then}
use Rattle.kern_model.specs.declared.object.Device.{Device}
use Rattle.kern_model.proofs.MemberLemmas.{here, there, first_or_later, none_in_nil}
use Rattle.kern_model.proofs.TestLemmas.{bytes_same, same_bytes}
use Rattle.uci_tree.proofs.FoldLemmas.{position-cons}
use Rattle.net_rows.specs.Dotted.{vlan_parts}
use Rattle.net_rows.specs.declared.rows.NameRow.{NameRow}
use Rattle.net_rows.specs.declared.rows.NameKind.{NameKind}
use Rattle.net_rows.specs.declared.rows.NameKind.TheVariants.{Plain, Vlan}
use Rattle.net_rules.specs.Facts.{Facts}
use Rattle.net_rules.specs.Levels.{by_levels}
use Rattle.net_rules.specs.Rows.{row_at}
use Rattle.net_rules.specs.RadioPorts.{radio_ports_of}
use Rattle.net_rules.specs.Standing.{standing_of, standing_of_row, standing_at}
use Rattle.net_rules.specs.Available as rules
use Rattle.net_rules.specs.Available.{is_present, opens, opens_at, available, links, links_at, link}
use Rattle.net_rules.proofs.DeviceLemmas.{opens_same, links_same}
use Rattle.graph_rules.specs.State.{Named, Known, named_in, names_in, name_list, place_among}
use Rattle.graph_rules.specs.Answers.{port_of, given_ports, standing_in, opens_in, available_in, links_in, link_in}
use Rattle.graph_laws.specs.Knowing.{KnowsRows}
use Rattle.graph_laws.specs.Below.{AgreesBelow}
use Rattle.graph_wishes.proofs.StoodLemmas.{row_or_less}

module _ (facts : Facts) (s : Known) (agrees : AgreesBelow facts s) where
  standing_below : (name : List ℕ) → standing_in s name ≡ standing_at facts name
  standing_below name =
      ap (λ rows. standing_of_row (row_at rows name) (given_ports (map port_of s.radio) name)) agrees.rows
      ∙ ap (λ radio. standing_of_row (row_at facts.conf.names name) (given_ports radio name)) agrees.radio

  opens_below : (levels : ℕ) (name : List ℕ) → by_levels levels (opens_in s) name ≡ by_levels levels (opens_at facts) name
  unfolding by_levels
  opens_below zero name = refl
  opens_below (suc levels) name =
      ap (λ (d : Option Device). opens (is_some d) (by_levels levels (opens_in s)) (standing_in s name)) (agrees.devices name)
      ∙ ap (opens (is_present facts name) (by_levels levels (opens_in s))) (standing_below name)
      ∙ opens_same (is_present facts name) (by_levels levels (opens_in s)) (by_levels levels (opens_at facts)) (standing_at facts name) (λ lower h. opens_below levels lower)

  pub available_below : (name : List ℕ) → available_in s name ≡ available facts name
  unfolding available_in available
  available_below name = opens_below 8 name

  links_below : (levels : ℕ) (name : List ℕ) → by_levels levels (links_in s) name ≡ by_levels levels (links_at facts) name
  unfolding by_levels
  links_below zero name = refl
  links_below (suc levels) name =
      ap (λ (d : Option Device). links (option_map_or (λ (device : Device). device.carrier) d false) (available_in s name) (by_levels levels (links_in s)) (standing_in s name)) (agrees.devices name)
      ∙ ap (λ b. links (rules.has_carrier facts name) b (by_levels levels (links_in s)) (standing_in s name)) (available_below name)
      ∙ ap (links (rules.has_carrier facts name) (available facts name) (by_levels levels (links_in s))) (standing_below name)
      ∙ links_same (rules.has_carrier facts name) (available facts name) (by_levels levels (links_in s)) (by_levels levels (links_at facts)) (standing_at facts name) (λ lower h. links_below levels lower)

  pub link_below : (name : List ℕ) → link_in s name ≡ link facts name
  unfolding link_in link
  link_below name = links_below 8 name

-- a name without a place is none of the names
no_more : (o : Option ℕ) → option_map (λ k. suc k) o ≡ None → o ≡ None
no_more None h = refl
no_more (Some k) h = cc h

not_placed : (name : List ℕ) (names : List (List ℕ)) → position (bytes_eq name) names ≡ None → Contains names name → ⊥
not_placed name [] none h = none_in_nil name h
not_placed name (n ∷ ns) none h = by_name (bytes_eq name n) refl (sym (position-cons (bytes_eq name) n ns) ∙ none) (not_placed name ns)
  where
    by_name : (b : Bool) → bytes_eq name n ≡ b → cond {A = Option ℕ} b (Some 0) (option_map (λ k. suc k) (position (bytes_eq name) ns)) ≡ None → (position (bytes_eq name) ns ≡ None → Contains ns name → ⊥) → ⊥
    by_name true is e rest = cc e
    by_name false is e rest = elim (first_or_later n ns name h) as (λ _. ⊥) [
      | inl same ↦ cc (is, same_bytes name n (sym same))
      | inr later ↦ rest (no_more (position (bytes_eq name) ns) e) later
    ]

-- and has no device
pub no_device : (names : List Named) (name : List ℕ) → (Contains (name_list names) name → ⊥) → named_in names name ≡ None
no_device [] name apart = refl
no_device (n ∷ ns) name apart = by_name (bytes_eq n.name name) refl (no_device ns name)
  where
    by_name : (b : Bool) → bytes_eq n.name name ≡ b → ((Contains (name_list ns) name → ⊥) → named_in ns name ≡ None) → cond {A = Option Named} b (Some n) (named_in ns name) ≡ None
    by_name true is rest = absurd (apart (subst (Contains (n.name ∷ name_list ns)) (bytes_same n.name name is) (here n.name (name_list ns))))
    by_name false is rest = rest (λ h. apart (there n.name (name_list ns) name h))

module _ (facts : Facts) (s : Known) (agrees : AgreesBelow facts s) (knows : KnowsRows s) where
  -- a name without a row and without a device
  rowless_off : (name : List ℕ) (b : Bool) → standing_at facts name ≡ standing_of (cond {A = NameKind} b (Vlan None 0) Plain) b (radio_ports_of facts name) → facts.device name ≡ None → (available facts name ≡ false)
      × (link facts name ≡ false)
  unfolding available link by_levels
  rowless_off name true is none = (
    ap (opens (is_present facts name) (by_levels 7 (opens_at facts))) is,
    ap (links (rules.has_carrier facts name) (available facts name) (by_levels 7 (links_at facts))) is,
  )
  rowless_off name false is none = (
    ap (opens (is_present facts name) (by_levels 7 (opens_at facts))) is ∙ ap (λ (d : Option Device). is_some d && true) none,
    ap (links (rules.has_carrier facts name) (available facts name) (by_levels 7 (links_at facts))) is ∙ ap (λ (d : Option Device). option_map_or (λ (device : Device). device.carrier) d false) none,
  )

  pub unknown_below : (name : List ℕ) → place_among s.names name ≡ None → (available facts name ≡ false) × (link facts name ≡ false)
  unknown_below name none =
      let apart : Contains (names_in s) name → ⊥ = not_placed name (names_in s) none in
      let absent : facts.device name ≡ None = sym (agrees.devices name) ∙ ap (option_and_then (λ (n : Named). n.device)) (no_device s.names name apart) in
      elim (row_or_less facts.conf.names name) as (λ _. (available facts name ≡ false) × (link facts name ≡ false)) [
        | inl member ↦ absurd (apart (knows name (subst (λ (rows : List NameRow). Contains (map (λ (row : NameRow). row.name) rows) name) (sym agrees.rows) member)))
        | inr less ↦ rowless_off name (is_some (vlan_parts name)) (ap (λ (r : NameRow). standing_of_row r (radio_ports_of facts name)) less) absent
      ]
