-- The names that are listed have with each one those that it stands on.
use Rattle.std.proofs.Common.{◌≡◌, inl, inr, ℕ, List, [], ◌∷◌, ◌++◌, Bool, true, false, cond, Option, Some, None, Contains, refl, ap, sym, subst, ◌∙◌}
use Rattle.std.specs.Prelude.{bytes_eq, not}
use Rattle.std.specs.List.{flat_map}
use Rattle.std.proofs.lemmas.List.Elements.{Contains-append_right, Contains-append_cases}
use Rattle.kern_model.specs.Name.{is_name}
use Rattle.kern_model.proofs.MemberLemmas.{here, there, first_or_later, none_in_nil}
use Rattle.kern_model.proofs.TestLemmas.{bytes_same, same_bytes}
use Rattle.net_rows.specs.declared.stated.Stated.{Stated}
use Rattle.net_rows.specs.declared.stated.Stated.TheVariants.{Absent, Unread, Read}
use Rattle.net_rows.specs.declared.dotted.VlanParts.{VlanParts}
use Rattle.net_rows.specs.Dotted.{vlan_parts}
use Rattle.net_rules.proofs.ListLemmas.{within_filter, in_join, from_join}
use Rattle.net_devices.specs.declared.said.StatedKind.{StatedKind}
use Rattle.net_devices.specs.declared.said.StatedKind.TheVariants.{Untyped, Wrong, Bridge, Vlan}
use Rattle.net_devices.specs.declared.said.DeviceSection.{DeviceSection}
use Rattle.net_devices.specs.declared.said.Said.{Said}
use Rattle.net_devices.specs.declared.said.Said.TheVariants.{Device, Interface}
use Rattle.net_devices.specs.Names.{is_read, section_of, implied_by_kind, implied_by, implied, mentioned, lower_of, mentioned_by_name, mentioned_if_read, mentioned_by_kind, mentioned_by, name_if_read, own_name, names}
use Rattle.net_devices.specs.Levels.{is_bridge, stated_lower, below_kind, below_section, below}
use Rattle.net_devices.specs.Levels.{lower_of as lower_in}
use Rattle.net_devices.proofs.LowerLaws.{all_listed}
use Rattle.net_conf.proofs.ReadLemmas.{in_once, from_once, AreParts, parts_are, IsReadKind, IsRead, AreRead}

-- a section that counts for a name
pub record IsSectionOf (said : List Said) (name : List ℕ) (section : DeviceSection) : Type 0 where
  pub member : Contains said (Device section)
  pub named : section.name ≡ Read name

read_is : (name : List ℕ) (stated : Stated (List ℕ)) → is_read name stated ≡ true → stated ≡ Read name
read_is name Absent h = cc h
read_is name Unread h = cc h
read_is name (Read other) h = ap Read (bytes_same other name h)

in_front : (b : Bool) (first section : DeviceSection) (others : List Said) (name : List ℕ) → is_read name first.name ≡ b → (section_of others name ≡ Some section → IsSectionOf others name section)
    → cond {A = Option DeviceSection} b (Some first) (section_of others name) ≡ Some section → IsSectionOf (Device first ∷ others) name section
in_front true first section others name is rest h =
    let same : first ≡ section = cc h in
    record { member = subst (λ (z : DeviceSection). Contains (Device first ∷ others) (Device z)) same (here (Device first) others); named = ap (λ (z : DeviceSection). z.name) (sym same) ∙ read_is name first.name is }
in_front false first section others name is rest h =
    let of = rest h in
    record { member = there (Device first) others (Device section) of.member; named = of.named }

pub of_section : (said : List Said) (name : List ℕ) (section : DeviceSection) → section_of said name ≡ Some section → IsSectionOf said name section
of_section [] name section h = cc h
of_section (Device first ∷ others) name section h = in_front (is_read name first.name) first section others name refl (of_section others name section) h
of_section (Interface device ∷ others) name section h = let of = of_section others name section h in record { member = there (Interface device) others (Device section) of.member; named = of.named }

-- a name that a section gives has a section
read_name : (name : List ℕ) (stated : Stated (List ℕ)) → Contains (name_if_read stated) name → is_read name stated ≡ true
read_name name Absent h = absurd (none_in_nil name h)
read_name name Unread h = absurd (none_in_nil name h)
read_name name (Read other) h = elim (first_or_later other [] name h) as (λ _. bytes_eq other name ≡ true) [ inl same ↦ same_bytes other name same | inr later ↦ absurd (none_in_nil name later) ]

given_by : (b : Bool) (first : DeviceSection) (others : Option DeviceSection) → b ≡ true → cond {A = Option DeviceSection} b (Some first) others ≡ None → ⊥
given_by true first others h k = cc k
given_by false first others h k = cc h

none_behind : (b : Bool) (first : DeviceSection) (others : Option DeviceSection) → cond {A = Option DeviceSection} b (Some first) others ≡ None → others ≡ None
none_behind true first others k = cc k
none_behind false first others k = k

own_has_section : (said : List Said) (name : List ℕ) → Contains (flat_map own_name said) name → section_of said name ≡ None → ⊥
own_has_section [] name h none = none_in_nil name h
own_has_section (Device first ∷ others) name h none = elim (Contains-append_cases (name_if_read first.name) (flat_map own_name others) name h) as (λ _. ⊥) [
  | inl own ↦ given_by (is_read name first.name) first (section_of others name) (read_name name first.name own) none
  | inr later ↦ own_has_section others name later (none_behind (is_read name first.name) first (section_of others name) none)
]
own_has_section (Interface device ∷ others) name h none = own_has_section others name h none

module _ (said : List Said) where
  mentions_itself : (name : List ℕ) → Contains (mentioned said name) name
  mentions_itself name = here name _

  -- a lower that is implied is a device name
  implied_by_is : (name : List ℕ) (kind : StatedKind) (parts : VlanParts) → implied_by_kind name kind ≡ Some parts → AreParts parts
  implied_by_is name Untyped parts h = parts_are name parts h
  implied_by_is name Wrong parts h = cc h
  implied_by_is name (Bridge empty ports bad) parts h = cc h
  implied_by_is name (Vlan lower id) parts h = cc h

  implied_in : (name : List ℕ) (section : Option DeviceSection) (parts : VlanParts) → implied_by name section ≡ Some parts → AreParts parts
  implied_in name None parts h = parts_are name parts h
  implied_in name (Some section) parts h = implied_by_is name section.kind parts h

  -- what is mentioned with a name has with each name the lower that it implies
  closed_in : (xs : List (List ℕ)) (name upper : List ℕ) (parts : VlanParts) → is_name name ≡ true → mentioned said name ≡ xs → Contains xs upper → implied said upper ≡ Some parts → Contains xs parts.lower
  closed_in [] name upper parts is are h down = absurd (none_in_nil upper h)
  closed_in (x ∷ xs) name upper parts is are h down =
      let listed : x ∷ xs ≡ name ∷ lower_of said (implied said name) = sym are ∙ all_listed said name is in
      let first : x ≡ name = cc listed in
      let rest : xs ≡ lower_of said (implied said name) = cc listed in
      elim (first_or_later x xs upper h) as (λ _. Contains (x ∷ xs) parts.lower) [
        | inl same ↦
            let its : implied said name ≡ Some parts = ap (implied said) (sym first ∙ same) ∙ down in
            there x xs parts.lower (subst (λ (z : List (List ℕ)). Contains z parts.lower) (sym (rest ∙ ap (lower_of said) its)) (mentions_itself parts.lower))
        | inr later ↦ there x xs parts.lower (further (implied said name) refl rest later (λ (lower : List ℕ) (is_lower : is_name lower ≡ true) (its : mentioned said lower ≡ xs). closed_in xs lower upper parts is_lower its later down))
      ]
    where
      further : (o : Option VlanParts) → implied said name ≡ o → xs ≡ lower_of said o → Contains xs upper → ((lower : List ℕ) → is_name lower ≡ true → mentioned said lower ≡ xs → Contains xs parts.lower) → Contains xs parts.lower
      further None e same later go = absurd (none_in_nil upper (subst (λ (z : List (List ℕ)). Contains z upper) same later))
      further (Some own) e same later go = go own.lower (implied_in name (section_of said name) own e).lower (sym same)

  pub closed : (name upper : List ℕ) (parts : VlanParts) → is_name name ≡ true → Contains (mentioned said name) upper → implied said upper ≡ Some parts → Contains (mentioned said name) parts.lower
  closed name upper parts is h down = closed_in (mentioned said name) name upper parts is refl h down

  -- a name that a section mentions is mentioned with a device name
  record IsMentioned (all : List (List ℕ)) (upper : List ℕ) : Type 0 where
    with_name : List ℕ
    is : is_name with_name ≡ true
    among : Contains (mentioned said with_name) upper
    within : (x : List ℕ) → Contains (mentioned said with_name) x → Contains all x

  by_lower : (upper : List ℕ) (parts : Option VlanParts) → ((own : VlanParts) → parts ≡ Some own → AreParts own) → Contains (lower_of said parts) upper → IsMentioned (lower_of said parts) upper
  by_lower upper None are h = absurd (none_in_nil upper h)
  by_lower upper (Some own) are h = record { with_name = own.lower; is = (are own refl).lower; among = h; within = λ x in_it. in_it }

  by_name : (upper : List ℕ) (stated : Stated (List ℕ)) → Contains (mentioned_by_name said stated) upper → IsMentioned (mentioned_by_name said stated) upper
  by_name upper Absent h = absurd (none_in_nil upper h)
  by_name upper Unread h = absurd (none_in_nil upper h)
  by_name upper (Read name) h = by_lower upper (vlan_parts name) (parts_are name) h

  by_stated : (upper : List ℕ) (stated : Stated (List ℕ)) → ((name : List ℕ) → stated ≡ Read name → is_name name ≡ true) → Contains (mentioned_if_read said stated) upper → IsMentioned (mentioned_if_read said stated) upper
  by_stated upper Absent is h = absurd (none_in_nil upper h)
  by_stated upper Unread is h = absurd (none_in_nil upper h)
  by_stated upper (Read name) is h = record { with_name = name; is = is name refl; among = h; within = λ x in_it. in_it }

  by_kind : (upper : List ℕ) (name : Stated (List ℕ)) (kind : StatedKind) → IsReadKind kind → Contains (mentioned_by_kind said name kind) upper → IsMentioned (mentioned_by_kind said name kind) upper
  by_kind upper name Untyped reads h = by_name upper name h
  by_kind upper name Wrong reads h = absurd (none_in_nil upper h)
  by_kind upper name (Bridge empty ports bad) reads h =
      let from = from_join (mentioned said) ports upper h in
      record { with_name = from.source; is = reads from.source from.member; among = from.among; within = λ x in_it. in_join (mentioned said) ports from.source x from.member in_it }
  by_kind upper name (Vlan lower id) reads h = by_stated upper lower reads.0 h

  by_saying : (upper : List ℕ) (saying : Said) → IsRead saying → Contains (mentioned_by said saying) upper → IsMentioned (mentioned_by said saying) upper
  by_saying upper (Device section) reads h = by_kind upper section.name section.kind reads h
  by_saying upper (Interface device) reads h = record { with_name = device; is = reads; among = h; within = λ x in_it. in_it }

  -- what a section's name stands on is mentioned by the section
  lower_mentioned : (lower : List ℕ) (parts : Option VlanParts) → Contains (lower_in parts) lower → Contains (lower_of said parts) lower
  lower_mentioned lower None h = h
  lower_mentioned lower (Some parts) h = elim (first_or_later parts.lower [] lower h) as (λ _. Contains (mentioned said parts.lower) lower) [
    | inl same ↦ subst (Contains (mentioned said parts.lower)) same (mentions_itself parts.lower)
    | inr later ↦ absurd (none_in_nil lower later)
  ]

  stated_mentioned : (lower : List ℕ) (stated : Stated (List ℕ)) → Contains (stated_lower stated) lower → Contains (mentioned_if_read said stated) lower
  stated_mentioned lower Absent h = h
  stated_mentioned lower Unread h = h
  stated_mentioned lower (Read name) h = elim (first_or_later name [] lower h) as (λ _. Contains (mentioned said name) lower) [
    | inl same ↦ subst (Contains (mentioned said name)) same (mentions_itself name)
    | inr later ↦ absurd (none_in_nil lower later)
  ]

  named_mentioned : (upper lower : List ℕ) (stated : Stated (List ℕ)) → stated ≡ Read upper → Contains (lower_in (vlan_parts upper)) lower → Contains (mentioned_by_name said stated) lower
  named_mentioned upper lower stated is h = subst (λ (z : Stated (List ℕ)). Contains (mentioned_by_name said z) lower) (sym is) (lower_mentioned lower (vlan_parts upper) h)

  kind_mentioned : (upper lower : List ℕ) (name : Stated (List ℕ)) (kind : StatedKind) → name ≡ Read upper → Contains (below_kind said upper kind) lower → Contains (mentioned_by_kind said name kind) lower
  kind_mentioned upper lower name Untyped is h = named_mentioned upper lower name is h
  kind_mentioned upper lower name Wrong is h = h
  kind_mentioned upper lower name (Bridge empty ports bad) is h = in_join (mentioned said) ports lower lower (within_filter (λ (x : List ℕ). not (is_bridge said x)) ports lower h) (mentions_itself lower)
  kind_mentioned upper lower name (Vlan other id) is h = stated_mentioned lower other h

  -- the lower that a name without a section implies
  implied_lower : (upper lower : List ℕ) (parts : Option VlanParts) → Contains (lower_in parts) lower → (own : VlanParts) × (parts ≡ Some own) × (own.lower ≡ lower)
  implied_lower upper lower None h = absurd (none_in_nil lower h)
  implied_lower upper lower (Some own) h = elim (first_or_later own.lower [] lower h) as (λ _. (z : VlanParts) × (Some own ≡ Some z) × (z.lower ≡ lower)) [
    | inl same ↦ (own, refl, same)
    | inr later ↦ absurd (none_in_nil lower later)
  ]

  abbrev all : List (List ℕ)
  all = flat_map own_name said ++ flat_map (mentioned_by said) said

  in_mentioned : (saying : Said) (x : List ℕ) → Contains said saying → Contains (mentioned_by said saying) x → Contains all x
  in_mentioned saying x member h = Contains-append_right (flat_map own_name said) (flat_map (mentioned_by said) said) x (in_join (mentioned_by said) said saying x member h)

  without_section : (upper lower : List ℕ) → AreRead said → section_of said upper ≡ None → Contains all upper → Contains (lower_in (vlan_parts upper)) lower → Contains all lower
  without_section upper lower reads none h under = elim (Contains-append_cases (flat_map own_name said) (flat_map (mentioned_by said) said) upper h) as (λ _. Contains all lower) [
    | inl own ↦ absurd (own_has_section said upper own none)
    | inr later ↦
        let from = from_join (mentioned_by said) said upper later in
        let by : IsMentioned (mentioned_by said from.source) upper = by_saying upper from.source (reads from.source from.member) from.among in
        let parts : (own : VlanParts) × (vlan_parts upper ≡ Some own) × (own.lower ≡ lower) = implied_lower upper lower (vlan_parts upper) under in
        let down : implied said upper ≡ Some parts.0 = ap (implied_by upper) none ∙ parts.1 in
        in_mentioned from.source lower from.member (by.within lower (subst (Contains (mentioned said by.with_name)) parts.2 (closed by.with_name upper parts.0 by.is by.among down)))
  ]

  by_section : (upper lower : List ℕ) (section : Option DeviceSection) → AreRead said → section_of said upper ≡ section → Contains all upper → Contains (below_section said upper section) lower → Contains all lower
  by_section upper lower None reads is h under = without_section upper lower reads is h under
  by_section upper lower (Some section) reads is h under =
      let of : IsSectionOf said upper section = of_section said upper section is in
      in_mentioned (Device section) lower of.member (kind_mentioned upper lower section.name section.kind of.named under)

  pub below_is_named : (upper lower : List ℕ) → AreRead said → Contains (names said) upper → Contains (below said upper) lower → Contains (names said) lower
  below_is_named upper lower reads h under = in_once all lower (by_section upper lower (section_of said upper) reads refl (from_once all upper h) under)
