-- The addresses and routes of an interface are on its layer-3 device.
use Rattle.std.proofs.Common.{ℕ, ◌≡◌, inl, inr, List, map, Bool, true, false, Contains, Option, Some, None, codes, refl, ap, sym, subst, ◌∙◌}
use Rattle.std.specs.Prelude.{◌&&◌, ◌||◌, filter, bytes_eq, if◌then◌else◌}
use Rattle.std.specs.Option.{option_and_then}
use Rattle.std.proofs.lemmas.List.Elements.{Contains-append_cases}
use Rattle.kern_model.specs.declared.object.Object.{Object}
use Rattle.kern_model.specs.declared.object.Object.TheVariants as object
use Rattle.kern_model.proofs.MemberLemmas.{none_in_nil, member_of_map}
use Rattle.kern_model.proofs.TestLemmas.{both, either}
use Rattle.net_rows.specs.declared.rows.InterfaceRow.{InterfaceRow}
use Rattle.net_rules.specs.declared.answer.Answer.{Answer}
use Rattle.net_rules.specs.Facts.{Facts}
use Rattle.net_rules.specs.Rows.{is_name, is_plain, is_static, asks_nothing, needs_device}
use Rattle.net_rules.specs.RadioPorts.{device_of}
use Rattle.net_rules.specs.Available.{available}
use Rattle.net_rules.specs.Interfaces.{is_enabled, has_device, is_claimed, has_link, is_ready, answer_of, device_or_own, l3_device_of, serves_l3_device, is_answered_up, is_up}
use Rattle.net_rules.specs.Want.{default_route, of_options, of_answer, is_route_of, of_sections, given_on, given_by, given}
use Rattle.net_rules.proofs.ListLemmas.{of_cond}

-- an address or a route on a device
abbrev pub IsOn : List ℕ → Object → Type 0
IsOn dev (object.Link name kind) = ⊥
IsOn dev (object.Mtu name mtu) = ⊥
IsOn dev (object.Mac name mac) = ⊥
IsOn dev (object.Master port bridge) = ⊥
IsOn dev (object.Vlan bridge port id pvid untagged) = ⊥
IsOn dev (object.Up name) = ⊥
IsOn dev (object.Address other cidr) = other ≡ dev
IsOn dev (object.Route r) = r.dev ≡ dev

mapped_on : {X : Type 0} (dev : List ℕ) (f : X → Object) → ((x : X) → IsOn dev (f x)) → (xs : List X) (o : Object) → Contains (map f xs) o → IsOn dev o
mapped_on dev f on xs o h = let from = member_of_map f xs o h in subst (IsOn dev) from.same (on from.source)

options_on : (row : InterfaceRow) (dev : List ℕ) (o : Object) → Contains (of_options row dev) o → IsOn dev o
options_on row dev o h = elim (Contains-append_cases (map (object.Address dev) row.addresses) (map (default_route dev row.metric) row.gateways) o h) as (λ _. IsOn dev o) [
  | inl address ↦ mapped_on dev (object.Address dev) (λ x. refl) row.addresses o address
  | inr route ↦ mapped_on dev (default_route dev row.metric) (λ x. refl) row.gateways o route
]

answer_on : (dev : List ℕ) (answer : Option Answer) (o : Object) → Contains (of_answer dev answer) o → IsOn dev o
answer_on dev None o h = absurd (none_in_nil o h)
answer_on dev (Some answer) o h = elim (Contains-append_cases (map (object.Address dev) answer.addresses) (map (λ r. object.Route (record { target = r.target; via = r.via; dev = dev; metric = r.metric; table = 254 })) answer.routes) o h) as
    (λ _. IsOn dev o) [
      | inl address ↦ mapped_on dev (object.Address dev) (λ x. refl) answer.addresses o address
      | inr route ↦ mapped_on dev (λ r. object.Route (record { target = r.target; via = r.via; dev = dev; metric = r.metric; table = 254 })) (λ x. refl) answer.routes o route
    ]

own_on : (facts : Facts) (row : InterfaceRow) (dev : List ℕ) (o : Object) (b : Bool) → Contains (if b then of_options row dev else of_answer dev (answer_of facts row)) o → IsOn dev o
own_on facts row dev o true h = options_on row dev o h
own_on facts row dev o false h = answer_on dev (answer_of facts row) o h

given_is_on : (facts : Facts) (row : InterfaceRow) (dev : List ℕ) (o : Object) → Contains (given_on facts row dev) o → IsOn dev o
given_is_on facts row dev o h =
    elim (Contains-append_cases (if is_static row.proto then of_options row dev else of_answer dev (answer_of facts row)) (of_sections facts row dev) o h) as (λ _. IsOn dev o) [
      | inl own ↦ own_on facts row dev o (is_static row.proto) own
      | inr section ↦ mapped_on dev (λ r. object.Route (record { target = r.target; via = r.via; dev = dev; metric = r.metric; table = r.table })) (λ x. refl) (filter (is_route_of facts row) facts.conf.routes) o section
    ]

-- an address or a route that an interface gives: it is up, and they are on its layer-3 device
pub record IsOnL3Device (facts : Facts) (row : InterfaceRow) (o : Object) : Type 0 where
  pub up : is_up facts row ≡ true
  pub l3_device : List ℕ
  pub l3_device_is : l3_device_of facts row ≡ Some l3_device
  pub on : IsOn l3_device o

on_l3_device_by : (facts : Facts) (row : InterfaceRow) (o : Object) (l3_device : Option (List ℕ)) → l3_device_of facts row ≡ l3_device → is_up facts row ≡ true → Contains (given_by facts row l3_device) o → IsOnL3Device facts row o
on_l3_device_by facts row o None is up h = absurd (none_in_nil o h)
on_l3_device_by facts row o (Some l3_device) is up h = record { up = up; l3_device = l3_device; l3_device_is = is; on = given_is_on facts row l3_device o h }

pub on_l3_device : (facts : Facts) (row : InterfaceRow) (o : Object) → Contains (given facts row) o → IsOnL3Device facts row o
on_l3_device facts row o h = let parts = of_cond (is_up facts row) (given_by facts row (l3_device_of facts row)) o h in on_l3_device_by facts row o (l3_device_of facts row) refl parts.0 parts.1

-- the protocols of whom nobody is asked need a device
among_five : (a b c d e : Bool) → (a || b) ≡ true → (a || (b || (c || (d || (e || false))))) ≡ true
among_five true b c d e h = refl
among_five false true c d e h = refl
among_five false false c d e h = cc h

nothing_needs : (proto : List ℕ) → asks_nothing proto ≡ true → needs_device proto ≡ true
nothing_needs proto h = among_five (bytes_eq proto (codes "static")) (bytes_eq proto (codes "none")) (bytes_eq proto (codes "dhcp")) (bytes_eq proto (codes "dhcpv6")) (bytes_eq proto (codes "pppoe")) h

-- the layer-3 device of an interface that is up is available
needed_device : (facts : Facts) (proto : List ℕ) (device : Option (List ℕ)) (l3_device : List ℕ) → needs_device proto ≡ true → has_device facts proto device ≡ true → device ≡ Some l3_device → available facts l3_device ≡ true
needed_device facts proto None l3_device needs has is = cc is
needed_device facts proto (Some device) l3_device needs has is = let same : device ≡ l3_device = cc is in subst (λ n. available facts n ≡ true) same has

pub up_ready : (facts : Facts) (row : InterfaceRow) → is_up facts row ≡ true → is_ready facts row ≡ true
up_ready facts row up = (both (is_ready facts row) (asks_nothing row.proto || (is_answered_up (answer_of facts row) && serves_l3_device facts (device_of facts row) (l3_device_of facts row))) up).0

pub ready_claimed : (facts : Facts) (row : InterfaceRow) → is_ready facts row ≡ true → is_claimed facts row ≡ true
ready_claimed facts row ready = (both (is_claimed facts row) (row.force_link || has_link facts (device_of facts row)) ready).0

static_l3_device : (facts : Facts) (row : InterfaceRow) → asks_nothing row.proto ≡ true → l3_device_of facts row ≡ device_of facts row
static_l3_device facts row h = ap (λ b. device_or_own (option_and_then (λ a. a.device) (if b then None else facts.answer row.name)) (device_of facts row)) h

pub l3_device_available : (facts : Facts) (row : InterfaceRow) (l3_device : List ℕ) → is_up facts row ≡ true → l3_device_of facts row ≡ Some l3_device → available facts l3_device ≡ true
l3_device_available facts row l3_device up is =
    let parts = both (is_ready facts row) (asks_nothing row.proto || (is_answered_up (answer_of facts row) && serves_l3_device facts (device_of facts row) (l3_device_of facts row))) up in
    elim (either (asks_nothing row.proto) (is_answered_up (answer_of facts row) && serves_l3_device facts (device_of facts row) (l3_device_of facts row)) parts.1) as (λ _. available facts l3_device ≡ true) [
      | inl static ↦ needed_device facts row.proto (device_of facts row) l3_device (nothing_needs row.proto static)
          (both (is_enabled facts row) (has_device facts row.proto (device_of facts row)) (ready_claimed facts row parts.0)).1
          (sym (static_l3_device facts row static) ∙ is)
      | inr asked ↦
          let serves = (both (is_answered_up (answer_of facts row)) (serves_l3_device facts (device_of facts row) (l3_device_of facts row)) asked).1 in
          (both (available facts l3_device) (is_plain facts.conf l3_device || is_name (device_of facts row) l3_device) (subst (λ o. serves_l3_device facts (device_of facts row) o ≡ true) is serves)).0
    ]
