-- What is wanted on names has neither addresses nor routes, and interfaces give nothing else.
use Rattle.std.proofs.Common.{◌≡◌, inl, inr, ℕ, List, [], ◌∷◌, ◌++◌, map, filter, Bool, true, false, Contains, Option, Some, None, refl, sym, subst, ◌∙◌}
use Rattle.std.specs.Prelude.{◌↔◌}
use Rattle.std.specs.FinSet as set
use Rattle.std.specs.List.{flat_map}
use Rattle.std.proofs.lemmas.List.Elements.{Contains-append_left, Contains-append_right, Contains-append_cases}
use Rattle.kern_model.specs.declared.object.Mac.{Mac}
use Rattle.kern_model.specs.declared.object.LinkKind.TheVariants as kind
use Rattle.kern_model.specs.declared.object.Object.{Object}
use Rattle.kern_model.specs.declared.object.Object.TheVariants as object
use Rattle.kern_model.specs.ObjectOrder.{Objects, Has}
use Rattle.kern_model.specs.AdmissionTest.{is_link_of}
use Rattle.kern_model.proofs.MemberLemmas.{none_in_nil, first_or_later, member_of_map}
use Rattle.kern_model.proofs.SetLemmas.{set_of_member, member_of_set, set_of_item, item_of_set, has_retained, of_retained, same_members}
use Rattle.kern_model.proofs.TestLemmas.{true_of_both_ways, from_any, of_any}
use Rattle.kern_calls.specs.Lower.{is_lower, lower_part}
use Rattle.net_rows.specs.declared.rows.InterfaceRow.{InterfaceRow}
use Rattle.net_rows.specs.declared.rows.VlanRow.{VlanRow}
use Rattle.net_rows.specs.declared.rows.VlanEntry.{VlanEntry}
use Rattle.net_rules.specs.Facts.{Facts}
use Rattle.net_rules.specs.Rows.{row_at, interfaces_of, is_filtering, vlans_of}
use Rattle.net_rules.specs.Sound.{IsSound}
use Rattle.net_rules.specs.Standing.{Standing, Broken, Alone, Over, Ports, standing_at}
use Rattle.net_rules.specs.Used.{used}
use Rattle.net_rules.specs.Refusal.{is_held_link}
use Rattle.net_rules.specs.Want.{mtu_of, mac_of, masters_of, entry_counts, local_vlan, vlan_objects, objects_by, objects_of_row, objects_at, given, known_names, wanted_list, want}
use Rattle.net_rules.proofs.ListLemmas.{IsAmong, in_join, from_join, of_cond}
use Rattle.net_rules.proofs.GivenLemmas.{IsOn, on_l3_device}
use Rattle.graph_rules.specs.State.{Known}
use Rattle.graph_rules.specs.Wanted.{want_in}
use Rattle.graph_rules.specs.Agreeing.{Agrees, wanted_on_names}
use Rattle.graph_rules.proofs.WantLemmas.{wants_same}
use Rattle.graph_laws.specs.Knowing.{KnowsRows}
use Rattle.graph_laws.proofs.UsedLemmas.{shares}

abbrev IsLower : Object → Type 0
IsLower o = is_lower o ≡ true

-- lists of such objects
mapped_lower : {X : Type 0} (f : X → Object) → ((x : X) → IsLower (f x)) → (xs : List X) (o : Object) → Contains (map f xs) o → IsLower o
mapped_lower f lower xs o h = let from = member_of_map f xs o h in subst IsLower from.same (lower from.source)

mtu_lower : (name : List ℕ) (mtu : Option ℕ) (o : Object) → Contains (mtu_of name mtu) o → IsLower o
mtu_lower name None o h = absurd (none_in_nil o h)
mtu_lower name (Some mtu) o h = elim (first_or_later (object.Mtu name mtu) [] o h) as (λ _. IsLower o) [ inl same ↦ subst IsLower same refl | inr none ↦ absurd (none_in_nil o none) ]

mac_lower : (name : List ℕ) (mac : Option Mac) (o : Object) → Contains (mac_of name mac) o → IsLower o
mac_lower name None o h = absurd (none_in_nil o h)
mac_lower name (Some mac) o h = elim (first_or_later (object.Mac name mac) [] o h) as (λ _. IsLower o) [ inl same ↦ subst IsLower same refl | inr none ↦ absurd (none_in_nil o none) ]

local_lower : (bridge : List ℕ) (id : ℕ) (b : Bool) (o : Object) → Contains (local_vlan bridge id b) o → IsLower o
local_lower bridge id false o h = absurd (none_in_nil o h)
local_lower bridge id true o h = elim (first_or_later (object.Vlan bridge bridge id false false) [] o h) as (λ _. IsLower o) [ inl same ↦ subst IsLower same refl | inr none ↦ absurd (none_in_nil o none) ]

module _ (facts : Facts) where
  vlan_lower : (bridge : List ℕ) (ports : List (List ℕ)) (row : VlanRow) (o : Object) → Contains (vlan_objects facts bridge ports row) o → IsLower o
  vlan_lower bridge ports row o h =
      let entries : List Object = map (λ (entry : VlanEntry). object.Vlan bridge entry.port row.id entry.pvid entry.untagged) (filter (entry_counts facts ports) row.entries) in
      elim (Contains-append_cases entries (local_vlan bridge row.id row.local) o h) as (λ _. IsLower o) [
        | inl entry ↦ mapped_lower (λ (entry : VlanEntry). object.Vlan bridge entry.port row.id entry.pvid entry.untagged) (λ entry. refl) (filter (entry_counts facts ports) row.entries) o entry
        | inr local ↦ local_lower bridge row.id row.local o local
      ]

  bridge_lower : (name : List ℕ) (ports : List (List ℕ)) (o : Object) → Contains (masters_of facts name ports ++ flat_map (vlan_objects facts name ports) (vlans_of facts.conf name)) o → IsLower o
  bridge_lower name ports o h = elim (Contains-append_cases (masters_of facts name ports) (flat_map (vlan_objects facts name ports) (vlans_of facts.conf name)) o h) as (λ _. IsLower o) [
    | inl master ↦ mapped_lower (λ (port : List ℕ). object.Master port name) (λ port. refl) (filter (used facts) ports) o master
    | inr vlan ↦ let from : IsAmong (vlan_objects facts name ports) (vlans_of facts.conf name) o = from_join (vlan_objects facts name ports) (vlans_of facts.conf name) o vlan in vlan_lower name ports from.source o from.among
  ]

  by_lower : (name : List ℕ) (mac : Option Mac) (s : Standing) (o : Object) → Contains (objects_by facts name mac s) o → IsLower o
  by_lower name mac Broken o h = absurd (none_in_nil o h)
  by_lower name mac (Alone fit) o h = elim (first_or_later (object.Up name) (mac_of name mac) o h) as (λ _. IsLower o) [
    | inl same ↦ subst IsLower same refl
    | inr later ↦ mac_lower name mac o later
  ]
  by_lower name mac (Over lower id) o h = elim (first_or_later (object.Up name) (object.Link name (kind.Vlan lower id mac) ∷ []) o h) as (λ _. IsLower o) [
    | inl same ↦ subst IsLower same refl
    | inr later ↦ elim (first_or_later (object.Link name (kind.Vlan lower id mac)) [] o later) as (λ _. IsLower o) [ inl same ↦ subst IsLower same refl | inr none ↦ absurd (none_in_nil o none) ]
  ]
  by_lower name mac (Ports empty ports) o h =
      let link : Object = object.Link name (kind.Bridge mac (is_filtering facts.conf name)) in
      let rest : List Object = masters_of facts name ports ++ flat_map (vlan_objects facts name ports) (vlans_of facts.conf name) in
      elim (first_or_later (object.Up name) (link ∷ rest) o h) as (λ _. IsLower o) [
        | inl same ↦ subst IsLower same refl
        | inr later ↦ elim (first_or_later link rest o later) as (λ _. IsLower o) [ inl same ↦ subst IsLower same refl | inr others ↦ bridge_lower name ports o others ]
      ]

  -- what is wanted on a name
  name_lower : (name : List ℕ) (o : Object) → Contains (objects_at facts name) o → IsLower o
  name_lower name o h =
      let row = row_at facts.conf.names name in
      let inside = (of_cond (used facts name) (objects_of_row facts name row) o h).1 in
      elim (Contains-append_cases (mtu_of name row.mtu) (objects_by facts name row.mac (standing_at facts name)) o inside) as (λ _. IsLower o) [
        | inl mtu ↦ mtu_lower name row.mtu o mtu
        | inr rest ↦ by_lower name row.mac (standing_at facts name) o rest
      ]

  abbrev on_names : List Object
  on_names = flat_map (objects_at facts) (known_names facts)

  abbrev of_interfaces : List Object
  of_interfaces = flat_map (given facts) (interfaces_of facts.conf)

  names_lower : (o : Object) → Contains on_names o → IsLower o
  names_lower o h = let from : IsAmong (objects_at facts) (known_names facts) o = from_join (objects_at facts) (known_names facts) o h in name_lower from.source o from.among

  -- what an interface gives
  not_lower : (dev : List ℕ) (o : Object) → IsOn dev o → is_lower o ≡ false
  not_lower dev (object.Link name made) on = absurd on
  not_lower dev (object.Mtu name mtu) on = absurd on
  not_lower dev (object.Mac name mac) on = absurd on
  not_lower dev (object.Master port bridge) on = absurd on
  not_lower dev (object.Vlan bridge port id pvid untagged) on = absurd on
  not_lower dev (object.Up name) on = absurd on
  not_lower dev (object.Address other cidr) on = refl
  not_lower dev (object.Route r) on = refl

  given_upper : (o : Object) → Contains of_interfaces o → is_lower o ≡ false
  given_upper o h =
      let from : IsAmong (given facts) (interfaces_of facts.conf) o = from_join (given facts) (interfaces_of facts.conf) o h in
      let on = on_l3_device facts from.source o from.among in
      not_lower on.l3_device o on.on

  pub lower_wanted : lower_part (want facts) ≡ wanted_on_names facts
  unfolding want
  lower_wanted = same_members (lower_part (want facts)) (wanted_on_names facts) to back
    where
      to : (o : Object) → Has (lower_part (want facts)) o → Has (wanted_on_names facts) o
      to o h =
          let parts = of_retained (want facts) is_lower o h in
          elim (Contains-append_cases on_names of_interfaces o (member_of_set (wanted_list facts) o parts.0)) as (λ _. Has (wanted_on_names facts) o) [
            | inl name ↦ set_of_member on_names o name
            | inr interface ↦ cc (parts.1, given_upper o interface)
          ]

      back : (o : Object) → Has (wanted_on_names facts) o → Has (lower_part (want facts)) o
      back o h =
          let member = member_of_set on_names o h in
          has_retained (want facts) is_lower o (set_of_member (wanted_list facts) o (Contains-append_left on_names of_interfaces o member)) (names_lower o member)

  abbrev IsGiven : Object → Type 0
  IsGiven o = (row : InterfaceRow) × Contains (interfaces_of facts.conf) row × Contains (given facts row) o

  given_of : (o : Object) → is_lower o ≡ false → Has (want facts) o → IsGiven o
  unfolding want
  given_of o upper h = elim (Contains-append_cases on_names of_interfaces o (member_of_set (wanted_list facts) o h)) as (λ _. IsGiven o) [
    | inl name ↦ cc (names_lower o name, upper)
    | inr interface ↦ let from : IsAmong (given facts) (interfaces_of facts.conf) o = from_join (given facts) (interfaces_of facts.conf) o interface in (from.source, from.member, from.among)
  ]

  of_given : (o : Object) → IsGiven o → Has (want facts) o
  unfolding want
  of_given o is = set_of_member (wanted_list facts) o (Contains-append_right on_names of_interfaces o (in_join (given facts) (interfaces_of facts.conf) is.0 o is.1 is.2))

  pub given_wanted : (o : Object) → is_lower o ≡ false → Has (want facts) o ↔ IsGiven o
  given_wanted o upper = (given_of o upper, of_given o)

pub lower_part_wanted : (facts : Facts) (s : Known) → IsSound facts.conf → Agrees facts s → KnowsRows s → want_in s ≡ lower_part (want facts)
lower_part_wanted facts s sound agrees knows = wants_same facts s agrees (shares facts sound s agrees knows) ∙ sym (lower_wanted facts)

-- links are in the lower part
link_is_lower : (name : List ℕ) (o : Object) → is_link_of name o ≡ true → IsLower o
link_is_lower name (object.Link other made) h = refl
link_is_lower name (object.Mtu other mtu) h = refl
link_is_lower name (object.Mac other mac) h = refl
link_is_lower name (object.Master port bridge) h = refl
link_is_lower name (object.Vlan bridge port id pvid untagged) h = refl
link_is_lower name (object.Up other) h = refl
link_is_lower name (object.Address dev cidr) h = cc h
link_is_lower name (object.Route r) h = cc h

pub links_lower : (held : Objects) (name : List ℕ) → is_held_link (lower_part held) name ≡ is_held_link held name
links_lower held name = true_of_both_ways (is_held_link (lower_part held) name) (is_held_link held name) to back
  where
    to : is_held_link (lower_part held) name ≡ true → is_held_link held name ≡ true
    to h =
        let found = from_any (is_link_of name) (set.items (lower_part held)) h in
        let parts = of_retained held is_lower found.passing (set_of_item (lower_part held) found.passing found.member) in
        of_any (is_link_of name) (set.items held) found.passing (item_of_set held found.passing parts.0) found.passes

    back : is_held_link held name ≡ true → is_held_link (lower_part held) name ≡ true
    back h =
        let found = from_any (is_link_of name) (set.items held) h in
        let inside = has_retained held is_lower found.passing (set_of_item held found.passing found.member) (link_is_lower name found.passing found.passes) in
        of_any (is_link_of name) (set.items (lower_part held)) found.passing (item_of_set (lower_part held) found.passing inside) found.passes
