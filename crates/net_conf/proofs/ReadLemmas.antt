-- What sections say, as it is read: names are device names, and identifiers of VLANs are within their bounds.
use Rattle.std.proofs.Common.{ℕ, ◌≡◌, ◌≤◌, ◌⊎◌, inl, inr, List, [], ◌∷◌, ◌++◌, Bool, true, false, cond, Option, Some, None, Contains, refl, subst}
use Rattle.std.specs.Prelude.{bytes_eq, codes, filter, nat_lt, ◌||◌, ◌==◌}
use Rattle.std.specs.Option.{option_and_then}
use Rattle.std.proofs.lemmas.List.Elements.{Contains-append_left, Contains-push, Contains-push_cases}
use Rattle.kern_model.specs.declared.vlan_name.TheConstants.{LEAST_VLAN_ID, MOST_VLAN_ID}
use Rattle.kern_model.specs.Name.{is_name}
use Rattle.kern_model.proofs.MemberLemmas.{here, there, first_or_later, none_in_nil}
use Rattle.kern_model.proofs.TestLemmas.{above_test, from_any, bytes_same, from_filter_map}
use Rattle.kern_calls.proofs.FilterLemmas.{from_filter}
use Rattle.uci_tree.specs.declared.package.Value.{Value}
use Rattle.uci_tree.specs.declared.package.Value.TheVariants.{One, Many}
use Rattle.uci_tree.specs.declared.package.Opt.{Opt}
use Rattle.uci_tree.specs.declared.package.Section.{Section}
use Rattle.net_rows.specs.declared.stated.Stated.{Stated}
use Rattle.net_rows.specs.declared.stated.Stated.TheVariants.{Absent, Unread, Read}
use Rattle.net_rows.specs.declared.dotted.VlanParts.{VlanParts}
use Rattle.net_rows.specs.Cut.{last_cut}
use Rattle.net_rows.specs.Dotted.{dot, id_of, parts_of, parts_at, vlan_parts}
use Rattle.net_rows.specs.Number.{decimal_of, within, number_within}
use Rattle.net_rows.specs.Options.{single, value_of}
use Rattle.net_rows.specs.Stated.{read_or_not, stated_text, stated, name_of}
use Rattle.plane_words.specs.Numeral.{zero_digit}
use Rattle.net_devices.specs.declared.said.StatedKind.{StatedKind}
use Rattle.net_devices.specs.declared.said.StatedKind.TheVariants.{Untyped, Wrong, Bridge, Vlan}
use Rattle.net_devices.specs.declared.said.Said.{Said}
use Rattle.net_devices.specs.declared.said.Said.TheVariants.{Device, Interface}
use Rattle.net_devices.specs.EachOnce.{has, with_name, with_names, each_once}
use Rattle.net_devices.specs.Said.{port_words, bridge_kind, vlan_kind, kind_by, device_section, interface_of, interface_said, said_in, said_by}

-- names each once: the members stay the same
kept_name : (b : Bool) (names : List (List ℕ)) (name x : List ℕ) → Contains names x → Contains (cond {A = List (List ℕ)} b names (names ++ name ∷ [])) x
kept_name true names name x h = h
kept_name false names name x h = Contains-append_left names (name ∷ []) x h

new_name : (b : Bool) (names : List (List ℕ)) (name : List ℕ) → has names name ≡ b → Contains (cond {A = List (List ℕ)} b names (names ++ name ∷ [])) name
new_name true names name h = let found = from_any (λ (other : List ℕ). bytes_eq other name) names h in subst (Contains names) (bytes_same found.passing name found.passes) found.member
new_name false names name h = Contains-push names name

from_name : (b : Bool) (names : List (List ℕ)) (name x : List ℕ) → Contains (cond {A = List (List ℕ)} b names (names ++ name ∷ [])) x → Contains names x ⊎ (name ≡ x)
from_name true names name x h = inl h
from_name false names name x h = Contains-push_cases names name x h

in_with : (more names : List (List ℕ)) (x : List ℕ) → Contains names x ⊎ Contains more x → Contains (with_names names more) x
in_with [] names x h = elim h as (λ _. Contains names x) [ inl old ↦ old | inr none ↦ absurd (none_in_nil x none) ]
in_with (name ∷ more) names x h = in_with more (with_name names name) x (elim h as (λ _. Contains (with_name names name) x ⊎ Contains more x) [
  | inl old ↦ inl (kept_name (has names name) names name x old)
  | inr new ↦ elim (first_or_later name more x new) as (λ _. Contains (with_name names name) x ⊎ Contains more x) [
    | inl same ↦ inl (subst (Contains (with_name names name)) same (new_name (has names name) names name refl))
    | inr later ↦ inr later
  ]
])

from_with : (more names : List (List ℕ)) (x : List ℕ) → Contains (with_names names more) x → Contains names x ⊎ Contains more x
from_with [] names x h = inl h
from_with (name ∷ more) names x h = elim (from_with more (with_name names name) x h) as (λ _. Contains names x ⊎ Contains (name ∷ more) x) [
  | inl old ↦ elim (from_name (has names name) names name x old) as (λ _. Contains names x ⊎ Contains (name ∷ more) x) [
    | inl before ↦ inl before
    | inr same ↦ inr (subst (Contains (name ∷ more)) same (here name more))
  ]
  | inr later ↦ inr (there name more x later)
]

pub in_once : (names : List (List ℕ)) (x : List ℕ) → Contains names x → Contains (each_once names) x
in_once names x h = in_with names [] x (inr h)

pub from_once : (names : List (List ℕ)) (x : List ℕ) → Contains (each_once names) x → Contains names x
from_once names x h = elim (from_with names [] x h) as (λ _. Contains names x) [ inl none ↦ absurd (none_in_nil x none) | inr member ↦ member ]

-- numbers within bounds
pub record IsId (id : ℕ) : Type 0 where
  pub least : LEAST_VLAN_ID ≤ id
  pub most : id ≤ MOST_VLAN_ID

id_by : (low high : Bool) (number id : ℕ) → nat_lt number LEAST_VLAN_ID ≡ low → nat_lt MOST_VLAN_ID number ≡ high → cond {A = Option ℕ} (low || high) None (Some number) ≡ Some id → IsId id
id_by true high number id p q h = cc h
id_by false true number id p q h = cc h
id_by false false number id p q h = let same : number ≡ id = cc h in subst IsId same (record { least = above_test number LEAST_VLAN_ID p; most = above_test MOST_VLAN_ID number q })

id_of_decimal : (number : Option ℕ) (id : ℕ) → option_and_then (within LEAST_VLAN_ID MOST_VLAN_ID) number ≡ Some id → IsId id
id_of_decimal None id h = cc h
id_of_decimal (Some number) id h = id_by (nat_lt number LEAST_VLAN_ID) (nat_lt MOST_VLAN_ID number) number id refl refl h

id_within : (text : List ℕ) (id : ℕ) → number_within LEAST_VLAN_ID MOST_VLAN_ID text ≡ Some id → IsId id
id_within text id h = id_of_decimal (decimal_of text) id h

name_by : (b : Bool) (text name : List ℕ) → is_name text ≡ b → cond {A = Option (List ℕ)} b (Some text) None ≡ Some name → is_name name ≡ true
name_by true text name is h = let same : text ≡ name = cc h in subst (λ (z : List ℕ). is_name z ≡ true) same is
name_by false text name is h = cc h

name_is : (text name : List ℕ) → name_of text ≡ Some name → is_name name ≡ true
name_is text name h = name_by (is_name text) text name refl h

-- what an option gives
read_text : {X : Type 0} (P : X → Type 0) (o : Option X) (x : X) → ((y : X) → o ≡ Some y → P y) → read_or_not o ≡ Read x → P x
read_text P None x h k = cc k
read_text P (Some y) x h k = let same : y ≡ x = cc k in subst P same (h y refl)

read_single : {X : Type 0} (P : X → Type 0) (read : List ℕ → Option X) (text : Option (List ℕ)) (x : X) → ((t : List ℕ) (y : X) → read t ≡ Some y → P y) → stated_text read text ≡ Read x → P x
read_single P read None x h k = cc k
read_single P read (Some text) x h k = read_text P (read text) x (h text) k

read_stated : {X : Type 0} (P : X → Type 0) (read : List ℕ → Option X) (value : Option Value) (x : X) → ((t : List ℕ) (y : X) → read t ≡ Some y → P y) → stated read value ≡ Read x → P x
read_stated P read None x h k = cc k
read_stated P read (Some value) x h k = read_single P read (single value) x h k

-- a VLAN that a name is
pub record AreParts (parts : VlanParts) : Type 0 where
  pub lower : is_name parts.lower ≡ true
  pub id : IsId parts.id

id_of_text : (text : List ℕ) (id : ℕ) → id_of text ≡ Some id → IsId id
id_of_text [] id h = cc h
id_of_text (digit ∷ digits) id h = go (digit == zero_digit) h
  where
    go : (b : Bool) → cond {A = Option ℕ} b None (number_within LEAST_VLAN_ID MOST_VLAN_ID (digit ∷ digits)) ≡ Some id → IsId id
    go true k = cc k
    go false k = id_within (digit ∷ digits) id k

parts_by : (lower : Option (List ℕ)) (id : Option ℕ) (parts : VlanParts) → ((name : List ℕ) → lower ≡ Some name → is_name name ≡ true) → ((n : ℕ) → id ≡ Some n → IsId n) → parts_of lower id ≡ Some parts → AreParts parts
parts_by None id parts h k e = cc e
parts_by (Some lower) None parts h k e = cc e
parts_by (Some lower) (Some id) parts h k e =
    let own : VlanParts = record { lower = lower; id = id } in
    let same : own ≡ parts = cc e in
    subst AreParts same (record { lower = h lower refl; id = k id refl })

parts_cut : (cut : Option (List ℕ × List ℕ)) (parts : VlanParts) → parts_at cut ≡ Some parts → AreParts parts
parts_cut None parts h = cc h
parts_cut (Some cut) parts h = parts_by (name_of cut.0) (id_of cut.1) parts (name_is cut.0) (id_of_text cut.1) h

pub parts_are : (name : List ℕ) (parts : VlanParts) → vlan_parts name ≡ Some parts → AreParts parts
parts_are name parts h = parts_cut (last_cut dot name) parts h

-- what a section says
abbrev pub IsReadKind : StatedKind → Type 0
IsReadKind Untyped = Unit {0}
IsReadKind Wrong = Unit {0}
IsReadKind (Bridge empty ports bad) = (port : List ℕ) → Contains ports port → is_name port ≡ true
IsReadKind (Vlan lower id) = ((name : List ℕ) → lower ≡ Read name → is_name name ≡ true) × ((n : ℕ) → id ≡ Read n → IsId n)

abbrev pub IsRead : Said → Type 0
IsRead (Device section) = IsReadKind section.kind
IsRead (Interface device) = is_name device ≡ true

abbrev pub AreRead : List Said → Type 0
AreRead said = (saying : Said) → Contains said saying → IsRead saying

of_bridge : (options : List Opt) → IsReadKind (bridge_kind options)
of_bridge options port h = from_filter is_name (port_words options) port (from_once (filter is_name (port_words options)) port h)

of_vlan : (options : List Opt) → IsReadKind (vlan_kind options)
of_vlan options = (
  λ name h. read_stated (λ (z : List ℕ). is_name z ≡ true) name_of (value_of (codes "ifname") options) name name_is h,
  λ n h. read_stated IsId (number_within LEAST_VLAN_ID MOST_VLAN_ID) (value_of (codes "vid") options) n id_within h,
)

of_type : (options : List Opt) (bridge vlan : Bool) → IsReadKind (cond {A = StatedKind} bridge (bridge_kind options) (cond {A = StatedKind} vlan (vlan_kind options) Wrong))
of_type options true vlan = of_bridge options
of_type options false true = of_vlan options
of_type options false false = tt

of_value : (options : List Opt) (value : Option Value) → IsReadKind (kind_by options value)
of_value options None = tt
of_value options (Some (Many items)) = tt
of_value options (Some (One text)) = of_type options (bytes_eq text (codes "bridge")) (bytes_eq text (codes "8021q"))

of_interface : (stated : Stated (List ℕ)) (saying : Said) → ((name : List ℕ) → stated ≡ Read name → is_name name ≡ true) → interface_of stated ≡ Some saying → IsRead saying
of_interface Absent saying h k = cc k
of_interface Unread saying h k = cc k
of_interface (Read device) saying h k = let same : Interface device ≡ saying = cc k in subst IsRead same (h device refl)

of_section : (device interface : Bool) (options : List Opt) (saying : Said) → cond {A = Option Said} device (Some (Device (device_section options))) (cond {A = Option Said} interface (interface_said options) None) ≡ Some saying
    → IsRead saying
of_section true interface options saying h = let same : Device (device_section options) ≡ saying = cc h in subst IsRead same (of_value options (value_of (codes "type") options))
of_section false true options saying h =
    of_interface (stated name_of (value_of (codes "device") options)) saying
    (λ name k. read_stated (λ (z : List ℕ). is_name z ≡ true) name_of (value_of (codes "device") options) name name_is k) h
of_section false false options saying h = cc h

pub said_are_read : (sections : List Section) → AreRead (said_by sections)
said_are_read sections saying h =
    let from = from_filter_map said_in sections saying h in
    of_section (bytes_eq from.source.kind (codes "device")) (bytes_eq from.source.kind (codes "interface")) from.source.options saying from.gives
