-- What sound rows keep together with the ports of radios.
use Rattle.std.proofs.Common.{arith, ℕ, ◌≡◌, ◌≤◌, ◌<◌, ◌⊎◌, inl, inr, List, [], ◌∷◌, ◌++◌, Bool, true, false, map, Contains, Option, Some, None, cond, refl, ap, sym, subst, ◌∙◌}
use Rattle.std.specs.Prelude.{◌&&◌, not, bytes_eq, filter, unwrap_or, is_some, if◌then◌else◌}
use Rattle.std.specs.List.{list_any, filter_map, zip}
use Rattle.std.specs.Option.{option_and_then}
use Rattle.std.proofs.lemmas.List.Elements.{Contains-append_left, Contains-append_cases}
use Rattle.kern_model.proofs.MemberLemmas.{here, there, first_or_later, none_in_nil, member_of_map, map_member}
use Rattle.kern_model.proofs.TestLemmas.{both, of_left, of_right, from_any, of_any, from_filter_map, bytes_same, same_bytes}
use Rattle.kern_calls.proofs.FilterLemmas.{from_filter}
use Rattle.kern_model.specs.declared.vlan_name.TheConstants.{LEAST_VLAN_ID, MOST_VLAN_ID}
use Rattle.net_rows.specs.declared.rows.Conf.{Conf}
use Rattle.net_rows.specs.declared.rows.NameRow.{NameRow}
use Rattle.net_rows.specs.declared.rows.NameKind.{NameKind}
use Rattle.net_rows.specs.declared.rows.NameKind.TheVariants.{Plain, Bridge, Vlan}
use Rattle.net_rows.specs.declared.rows.InterfaceRow.{InterfaceRow}
use Rattle.net_rows.specs.declared.rows.WifiRow.{WifiRow}
use Rattle.net_rows.specs.Dotted.{vlan_parts}
use Rattle.net_rules.specs.Facts.{Facts}
use Rattle.net_rules.specs.Rows.{row_at, kind_at, is_plain_kind, is_plain, is_bridge_kind, is_bridge, ports_of_kind, is_named_port, names_of, interface_named, radios_of, enabled_rows}
use Rattle.net_rules.specs.RadioPorts.{AnsweredPort, RadioPort, answered_port, ports_of_radio, answered_ports, joined, radio_ports, radio_ports_of}
use Rattle.net_rules.specs.Standing.{Standing, Broken, Alone, Over, Ports, standing_of, standing_at, lowers_of, stands}
use Rattle.net_rules.specs.Sound.{level_at, row_standing, RowStands, RowOwns, IsSound}
use Rattle.net_rules.proofs.ListLemmas.{within_filter, within_firsts, one_of_key, from_join}

-- one name stands on the other
abbrev pub Stands : Facts → List ℕ → List ℕ → Type 0
Stands facts upper lower = Contains (lowers_of (standing_at facts upper)) lower

pub stands_by_test : (facts : Facts) (lower upper : List ℕ) → stands facts lower upper ≡ true → Stands facts upper lower
stands_by_test facts lower upper h =
    let found = from_any (λ name. bytes_eq name lower) (lowers_of (standing_at facts upper)) h in
    subst (Contains (lowers_of (standing_at facts upper))) (bytes_same found.passing lower found.passes) found.member

pub test_of_stands : (facts : Facts) (lower upper : List ℕ) → Stands facts upper lower → stands facts lower upper ≡ true
test_of_stands facts lower upper h = of_any (λ name. bytes_eq name lower) (lowers_of (standing_at facts upper)) lower h (same_bytes lower lower refl)

-- a bridge by its row
pub record IsBridgeRow (facts : Facts) (name : List ℕ) (empty : Bool) (ports : List (List ℕ)) : Type 0 where
  pub own : List (List ℕ)
  pub kind : kind_at facts.conf name ≡ Bridge empty own
  pub sound : (row_at facts.conf.names name).broken ≡ false
  pub all : own ++ radio_ports_of facts name ≡ ports

bridge_by : (facts : Facts) (name : List ℕ) (empty : Bool) (ports : List (List ℕ)) (kind : NameKind) (broken : Bool) → kind_at facts.conf name ≡ kind → (row_at facts.conf.names name).broken ≡ broken
    → standing_of kind broken (radio_ports_of facts name) ≡ Ports empty ports → IsBridgeRow facts name empty ports
bridge_by facts name empty ports Plain broken is breaks h = cc h
bridge_by facts name empty ports (Bridge none own) true is breaks h = cc h
bridge_by facts name empty ports (Bridge none own) false is breaks h =
    let same : none ≡ empty = cc h in
    let all : own ++ radio_ports_of facts name ≡ ports = cc h in
    record { own = own; kind = is ∙ ap (λ e. Bridge e own) same; sound = breaks; all = all }
bridge_by facts name empty ports (Vlan lower id) true is breaks h = cc h
bridge_by facts name empty ports (Vlan None id) false is breaks h = cc h
bridge_by facts name empty ports (Vlan (Some lower) id) false is breaks h = cc h

pub bridge_row : (facts : Facts) (name : List ℕ) (empty : Bool) (ports : List (List ℕ)) → standing_at facts name ≡ Ports empty ports → IsBridgeRow facts name empty ports
bridge_row facts name empty ports h = bridge_by facts name empty ports (kind_at facts.conf name) (row_at facts.conf.names name).broken refl refl h

-- a VLAN by its row: the ports of radios make no difference
pub record IsVlanRow (facts : Facts) (name lower : List ℕ) (id : ℕ) : Type 0 where
  pub standing : row_standing facts.conf name ≡ Over lower id
  pub sound : (row_at facts.conf.names name).broken ≡ false
  pub made : kind_at facts.conf name ≡ Vlan (Some lower) id

vlan_by : (facts : Facts) (name lower : List ℕ) (id : ℕ) (more : List (List ℕ)) (kind : NameKind) (broken : Bool) → kind_at facts.conf name ≡ kind → (row_at facts.conf.names name).broken ≡ broken → standing_of kind broken more
    ≡ Over lower id → IsVlanRow facts name lower id
vlan_by facts name lower id more Plain broken is breaks h = cc h
vlan_by facts name lower id more (Bridge none own) true is breaks h = cc h
vlan_by facts name lower id more (Bridge none own) false is breaks h = cc h
vlan_by facts name lower id more (Vlan other number) true is breaks h = cc h
vlan_by facts name lower id more (Vlan None number) false is breaks h = cc h
vlan_by facts name lower id more (Vlan (Some other) number) false is breaks h =
    let lowers : other ≡ lower = cc h in
    let ids : number ≡ id = cc h in
    record {
      standing = ap (λ k. standing_of k (row_at facts.conf.names name).broken []) is ∙ ap (λ b. standing_of (Vlan (Some other) number) b []) breaks ∙ ap (λ l. Over l number) lowers ∙ ap (Over lower) ids;
      sound = breaks;
      made = cc (is, lowers, ids);
    }

pub vlan_row : (facts : Facts) (name lower : List ℕ) (id : ℕ) → standing_at facts name ≡ Over lower id → IsVlanRow facts name lower id
vlan_row facts name lower id h = vlan_by facts name lower id (radio_ports_of facts name) (kind_at facts.conf name) (row_at facts.conf.names name).broken refl refl h

-- a plain name by its row
plain_by : (kind : NameKind) (broken : Bool) (more : List (List ℕ)) (sound : Bool) → standing_of kind broken more ≡ Alone sound → kind ≡ Plain
plain_by Plain broken more sound h = refl
plain_by (Bridge none own) true more sound h = cc h
plain_by (Bridge none own) false more sound h = cc h
plain_by (Vlan lower id) true more sound h = cc h
plain_by (Vlan None id) false more sound h = cc h
plain_by (Vlan (Some lower) id) false more sound h = cc h

pub plain_row : (facts : Facts) (name : List ℕ) (sound : Bool) → standing_at facts name ≡ Alone sound → kind_at facts.conf name ≡ Plain
plain_row facts name sound h = plain_by (kind_at facts.conf name) (row_at facts.conf.names name).broken (radio_ports_of facts name) sound h

plain_of_test : (kind : NameKind) → is_plain_kind kind ≡ true → kind ≡ Plain
plain_of_test Plain h = refl
plain_of_test (Bridge empty ports) h = cc h
plain_of_test (Vlan lower id) h = cc h

pub alone_of_plain : (facts : Facts) (name : List ℕ) → is_plain facts.conf name ≡ true → standing_at facts name ≡ Alone (not (row_at facts.conf.names name).broken)
alone_of_plain facts name h = ap (λ k. standing_of k (row_at facts.conf.names name).broken (radio_ports_of facts name)) (plain_of_test (kind_at facts.conf name) h)

-- what a port of a radio is
pub record IsRadioPort (facts : Facts) (bridge port : List ℕ) : Type 0 where
  pub joins : Contains (radio_ports facts) (record { bridge = bridge; port = port })
  pub plain : is_plain facts.conf port ≡ true
  pub free : is_named_port facts.conf port ≡ false

answered_plain : (facts : Facts) (network port : Option (List ℕ)) (answered : AnsweredPort) → answered_port facts network port ≡ Some answered → is_plain facts.conf answered.port ≡ true
answered_plain facts None port answered h = cc h
answered_plain facts (Some interface) None answered h = cc h
answered_plain facts (Some interface) (Some port) answered h = plain_by_test (is_plain facts.conf port) refl h
  where
    plain_by_test : (b : Bool) → is_plain facts.conf port ≡ b → cond b (Some (record { interface = interface; port = port })) None ≡ Some answered → is_plain facts.conf answered.port ≡ true
    plain_by_test true is e = let same : port ≡ answered.port = cc e in subst (λ p. is_plain facts.conf p ≡ true) same is
    plain_by_test false is e = cc e

pub answered_is_plain : (facts : Facts) (answered : AnsweredPort) → Contains (answered_ports facts) answered → is_plain facts.conf answered.port ≡ true
answered_is_plain facts answered h =
    let from = from_join (ports_of_radio facts) (radios_of facts.conf) answered h in
    let pair = from_filter_map (λ (pair : WifiRow × Option (List ℕ)). answered_port facts pair.0.network pair.1) (zip (enabled_rows from.source) (unwrap_or (facts.ports from.source.name) [])) answered from.among in
    answered_plain facts pair.source.0.network pair.source.1 answered pair.gives

-- what joins a bridge
record Joins (facts : Facts) (answered : AnsweredPort) (joins : RadioPort) : Type 0 where
  same_port : answered.port ≡ joins.port
  free : is_named_port facts.conf answered.port ≡ false

false_by_not : (b : Bool) → not b ≡ true → b ≡ false
false_by_not true h = cc h
false_by_not false h = refl

joins_bridge : (facts : Facts) (answered : AnsweredPort) (joins : RadioPort) (bridge : List ℕ) (b : Bool) → (is_bridge facts.conf bridge && not (is_named_port facts.conf answered.port)) ≡ b
    → cond b (Some (record { bridge = bridge; port = answered.port })) None ≡ Some joins → Joins facts answered joins
joins_bridge facts answered joins bridge true is h =
    record {
      same_port = cc h;
      free = false_by_not (is_named_port facts.conf answered.port) (both (is_bridge facts.conf bridge) (not (is_named_port facts.conf answered.port)) is).1;
    }
joins_bridge facts answered joins bridge false is h = cc h

joins_device : (facts : Facts) (answered : AnsweredPort) (joins : RadioPort) (device : Option (List ℕ)) → option_and_then (λ bridge.
    cond (is_bridge facts.conf bridge && not (is_named_port facts.conf answered.port)) (Some (record { bridge = bridge; port = answered.port })) None) device ≡ Some joins → Joins facts answered joins
joins_device facts answered joins None h = cc h
joins_device facts answered joins (Some bridge) h = joins_bridge facts answered joins bridge (is_bridge facts.conf bridge && not (is_named_port facts.conf answered.port)) refl h

joins_interface : (facts : Facts) (answered : AnsweredPort) (joins : RadioPort) (row : Option InterfaceRow) → option_and_then (λ r. option_and_then (λ bridge.
    cond (is_bridge facts.conf bridge && not (is_named_port facts.conf answered.port)) (Some (record { bridge = bridge; port = answered.port })) None) r.device) row ≡ Some joins → Joins facts answered joins
joins_interface facts answered joins None h = cc h
joins_interface facts answered joins (Some row) h = joins_device facts answered joins row.device h

same_joins : (j : RadioPort) (bridge port : List ℕ) → j.bridge ≡ bridge → j.port ≡ port → j ≡ record { bridge = bridge; port = port }
same_joins j bridge port p q = λ i. record { bridge = p i; port = q i }

pub radio_port : (facts : Facts) (bridge port : List ℕ) → Contains (radio_ports_of facts bridge) port → IsRadioPort facts bridge port
radio_port facts bridge port h =
    let p = λ (j : RadioPort). bytes_eq j.bridge bridge in
    let from = member_of_map (λ j. j.port) (filter p (radio_ports facts)) port h in
    let j = from.source in
    let inside = within_filter p (radio_ports facts) j from.member in
    let given = from_filter_map (joined facts) (answered_ports facts) j (within_firsts (λ k. k.port) _ j inside) in
    let joins = joins_interface facts given.source j (interface_named facts.conf given.source.interface) given.gives in
    let ports : given.source.port ≡ port = joins.same_port ∙ from.same in
    record {
      joins = subst (Contains (radio_ports facts)) (same_joins j bridge port (bytes_same j.bridge bridge (from_filter p (radio_ports facts) j from.member)) from.same) inside;
      plain = subst (λ n. is_plain facts.conf n ≡ true) ports (answered_is_plain facts given.source given.member);
      free = subst (λ n. is_named_port facts.conf n ≡ false) ports joins.free;
    }

-- a port that a row owns is named
pub none_owned : (b : Bool) (port : List ℕ) → Contains (ports_of_kind (if b then Vlan None 0 else Plain)) port → ⊥
none_owned true port h = none_in_nil port h
none_owned false port h = none_in_nil port h

named_in : (rows : List NameRow) (bridge port : List ℕ) → Contains (ports_of_kind (row_at rows bridge).kind) port → list_any (λ row. list_any (λ other. bytes_eq other port) (ports_of_kind row.kind)) rows ≡ true
named_in [] bridge port h = absurd (none_owned (is_some (vlan_parts bridge)) port h)
named_in (row ∷ rows) bridge port h = named_here row rows bridge port (bytes_eq row.name bridge) h (named_in rows bridge port)
  where
    named_here : (row : NameRow) (rows : List NameRow) (bridge port : List ℕ) (b : Bool) → Contains (ports_of_kind (if b then row else row_at rows bridge).kind) port
        → (Contains (ports_of_kind (row_at rows bridge).kind) port → list_any (λ r. list_any (λ other. bytes_eq other port) (ports_of_kind r.kind)) rows ≡ true)
        → list_any (λ r. list_any (λ other. bytes_eq other port) (ports_of_kind r.kind)) (row ∷ rows) ≡ true
    named_here row rows bridge port true h later = of_left (list_any (λ other. bytes_eq other port) (ports_of_kind row.kind)) (list_any (λ r. list_any (λ other. bytes_eq other port) (ports_of_kind r.kind)) rows)
        (of_any (λ other. bytes_eq other port) (ports_of_kind row.kind) port h (same_bytes port port refl))
    named_here row rows bridge port false h later = of_right (list_any (λ other. bytes_eq other port) (ports_of_kind row.kind)) (list_any (λ r. list_any (λ other. bytes_eq other port) (ports_of_kind r.kind)) rows) (later h)

owned_named : (conf : Conf) (bridge port : List ℕ) → RowOwns conf bridge port → is_named_port conf port ≡ true
owned_named conf bridge port h = named_in conf.names bridge port h

-- the ports of a bridge are its own of the rows and those of radios
pub port_cases : (facts : Facts) (bridge port : List ℕ) (empty : Bool) (ports : List (List ℕ)) → standing_at facts bridge ≡ Ports empty ports → Contains ports port
    → RowOwns facts.conf bridge port ⊎ Contains (radio_ports_of facts bridge) port
port_cases facts bridge port empty ports is h =
    let row = bridge_row facts bridge empty ports is in
    elim (Contains-append_cases row.own (radio_ports_of facts bridge) port (subst (λ ps. Contains ps port) (sym row.all) h)) as (λ _. RowOwns facts.conf bridge port ⊎ Contains (radio_ports_of facts bridge) port) [
      | inl own ↦ inl (subst (λ k. Contains (ports_of_kind k) port) (sym row.kind) own)
      | inr radio ↦ inr radio
    ]

-- a bridge that owns a port by its row stands on it by the rows alone
row_stands : (facts : Facts) (bridge port : List ℕ) (empty : Bool) (ports : List (List ℕ)) → standing_at facts bridge ≡ Ports empty ports → RowOwns facts.conf bridge port → RowStands facts.conf bridge port
row_stands facts bridge port empty ports is h =
    let row = bridge_row facts bridge empty ports is in
    let standing : row_standing facts.conf bridge ≡ Ports empty (row.own ++ []) = cc (ap (λ k. standing_of k (row_at facts.conf.names bridge).broken []) row.kind, ap (λ b. standing_of (Bridge empty row.own) b []) row.sound) in
    subst (λ s. Contains (lowers_of s) port) (sym standing) (Contains-append_left row.own [] port (subst (λ k. Contains (ports_of_kind k) port) row.kind h))

pub vlan_stands : (facts : Facts) (name lower : List ℕ) (id : ℕ) → standing_at facts name ≡ Over lower id → Stands facts name lower
vlan_stands facts name lower id is = subst (λ s. Contains (lowers_of s) lower) (sym is) (here lower [])

row_vlan_stands : (facts : Facts) (name lower : List ℕ) (id : ℕ) → standing_at facts name ≡ Over lower id → RowStands facts.conf name lower
row_vlan_stands facts name lower id is = subst (λ s. Contains (lowers_of s) lower) (sym (vlan_row facts name lower id is).standing) (here lower [])

-- a name that stands on another has a row
pub rowless_alone : (b : Bool) (more : List (List ℕ)) (lower : List ℕ) → Contains (lowers_of (standing_of (if b then Vlan None 0 else Plain) b more)) lower → ⊥
rowless_alone true more lower h = none_in_nil lower h
rowless_alone false more lower h = none_in_nil lower h

upper_in : (rows : List NameRow) (more : List (List ℕ)) (name lower : List ℕ) → Contains (lowers_of (standing_of (row_at rows name).kind (row_at rows name).broken more)) lower → Contains (map (λ row. row.name) rows) name
upper_in [] more name lower h = absurd (rowless_alone (is_some (vlan_parts name)) more lower h)
upper_in (row ∷ rows) more name lower h = upper_here row rows more name lower (bytes_eq row.name name) refl h (upper_in rows more name lower)
  where
    upper_here : (row : NameRow) (rows : List NameRow) (more : List (List ℕ)) (name lower : List ℕ) (b : Bool) → bytes_eq row.name name ≡ b
        → Contains (lowers_of (standing_of (if b then row else row_at rows name).kind (if b then row else row_at rows name).broken more)) lower
        → (Contains (lowers_of (standing_of (row_at rows name).kind (row_at rows name).broken more)) lower → Contains (map (λ r. r.name) rows) name) → Contains (row.name ∷ map (λ r. r.name) rows) name
    upper_here row rows more name lower true is h later = subst (Contains (row.name ∷ map (λ r. r.name) rows)) (bytes_same row.name name is) (here row.name (map (λ r. r.name) rows))
    upper_here row rows more name lower false is h later = there row.name (map (λ r. r.name) rows) name (later h)

pub upper_named : (facts : Facts) (upper lower : List ℕ) → Stands facts upper lower → Contains (names_of facts.conf) upper
upper_named facts upper lower h = upper_in facts.conf.names (radio_ports_of facts upper) upper lower h

pub only : {X : Type 0} (x y : X) → Contains (x ∷ []) y → x ≡ y
only x y h = elim (first_or_later x [] y h) as (λ _. x ≡ y) [ inl same ↦ same | inr none ↦ absurd (none_in_nil y none) ]

pub bridge_test : (kind : NameKind) (empty : Bool) (own : List (List ℕ)) → kind ≡ Bridge empty own → is_bridge_kind kind ≡ true
bridge_test kind empty own is = ap is_bridge_kind is

plain_no_bridge : (kind : NameKind) → is_plain_kind kind ≡ true → is_bridge_kind kind ≡ true → ⊥
plain_no_bridge Plain p b = cc b
plain_no_bridge (Bridge empty ports) p b = cc p
plain_no_bridge (Vlan lower id) p b = cc p

module _ (facts : Facts) (sound : IsSound facts.conf) where
  -- a port is below its bridge
  port_below : (bridge port : List ℕ) (empty : Bool) (ports : List (List ℕ)) → standing_at facts bridge ≡ Ports empty ports → Contains ports port → level_at facts.conf port < level_at facts.conf bridge
  port_below bridge port empty ports is h = elim (port_cases facts bridge port empty ports is h) as (λ _. level_at facts.conf port < level_at facts.conf bridge) [
    | inl own ↦ sound.levels.rises bridge port (row_stands facts bridge port empty ports is own)
    | inr radio ↦
        let row = bridge_row facts bridge empty ports is in
        let low = sound.levels.plain port (plain_of_test (kind_at facts.conf port) (radio_port facts bridge port radio).plain) in
        let high = sound.levels.bridge bridge (bridge_test (kind_at facts.conf bridge) empty row.own row.kind) in
        omega arith
  ]

  rises_as : (upper lower : List ℕ) (s : Standing) → standing_at facts upper ≡ s → Contains (lowers_of s) lower → level_at facts.conf lower < level_at facts.conf upper
  rises_as upper lower Broken is h = absurd (none_in_nil lower h)
  rises_as upper lower (Alone fit) is h = absurd (none_in_nil lower h)
  rises_as upper lower (Over base id) is h =
      let same = only base lower h in
      subst (λ n. level_at facts.conf n < level_at facts.conf upper) same (sound.levels.rises upper base (row_vlan_stands facts upper base id is))
  rises_as upper lower (Ports empty ports) is h = port_below upper lower empty ports is h

  pub rises : (upper lower : List ℕ) → Stands facts upper lower → level_at facts.conf lower < level_at facts.conf upper
  rises upper lower h = rises_as upper lower (standing_at facts upper) refl h

  most_as : (upper lower : List ℕ) (s : Standing) → standing_at facts upper ≡ s → Contains (lowers_of s) lower → level_at facts.conf upper ≤ 8
  most_as upper lower Broken is h = absurd (none_in_nil lower h)
  most_as upper lower (Alone fit) is h = absurd (none_in_nil lower h)
  most_as upper lower (Over base id) is h = sound.levels.most upper (vlan_row facts upper base id is).sound
  most_as upper lower (Ports empty ports) is h = sound.levels.most upper (bridge_row facts upper empty ports is).sound

  pub most : (upper lower : List ℕ) → Stands facts upper lower → level_at facts.conf upper ≤ 8
  most upper lower h = most_as upper lower (standing_at facts upper) refl h

  -- a port is no bridge
  pub port_no_bridge : (bridge port : List ℕ) (empty : Bool) (ports : List (List ℕ)) → standing_at facts bridge ≡ Ports empty ports → Contains ports port → is_bridge facts.conf port ≡ true → ⊥
  port_no_bridge bridge port empty ports is h other = elim (port_cases facts bridge port empty ports is h) as (λ _. ⊥) [
    | inl own ↦ cc (other, sound.names.no_bridge bridge port own)
    | inr radio ↦ plain_no_bridge (kind_at facts.conf port) (radio_port facts bridge port radio).plain other
  ]

  pub plain_port : (bridge port : List ℕ) (empty other_empty : Bool) (ports other_ports : List (List ℕ)) → standing_at facts bridge ≡ Ports empty ports → Contains ports port → standing_at facts port ≡ Ports other_empty other_ports → ⊥
  plain_port bridge port empty other_empty ports other_ports is h other =
      let row = bridge_row facts port other_empty other_ports other in
      port_no_bridge bridge port empty ports is h (bridge_test (kind_at facts.conf port) other_empty row.own row.kind)

  -- a port has one owner
  pub one_owner : (bridge other port : List ℕ) (empty other_empty : Bool) (ports other_ports : List (List ℕ)) → standing_at facts bridge ≡ Ports empty ports → Contains ports port → standing_at facts other ≡ Ports other_empty other_ports
      → Contains other_ports port → bridge ≡ other
  one_owner bridge other port empty other_empty ports other_ports is h again g =
      elim (port_cases facts bridge port empty ports is h) as (λ _. bridge ≡ other) [
        | inl own ↦ elim (port_cases facts other port other_empty other_ports again g) as (λ _. bridge ≡ other) [
          | inl second ↦ sound.names.one_owner bridge other port own second
          | inr radio ↦ cc (owned_named facts.conf bridge port own, (radio_port facts other port radio).free)
        ]
        | inr radio ↦ elim (port_cases facts other port other_empty other_ports again g) as (λ _. bridge ≡ other) [
          | inl own ↦ cc (owned_named facts.conf other port own, (radio_port facts bridge port radio).free)
          | inr second ↦ ap (λ j. j.bridge) (one_of_key (λ j. j.port) (filter_map (joined facts) (answered_ports facts)) (record { bridge = bridge; port = port }) (record { bridge = other; port = port })
              (radio_port facts bridge port radio).joins (radio_port facts other port second).joins refl)
        ]
      ]

  pub least_id : (name lower : List ℕ) (id : ℕ) → standing_at facts name ≡ Over lower id → LEAST_VLAN_ID ≤ id
  least_id name lower id is = sound.names.least_id name lower id (vlan_row facts name lower id is).standing

  pub most_id : (name lower : List ℕ) (id : ℕ) → standing_at facts name ≡ Over lower id → id ≤ MOST_VLAN_ID
  most_id name lower id is = sound.names.most_id name lower id (vlan_row facts name lower id is).standing

  pub one_vlan : (name other lower : List ℕ) (id : ℕ) → standing_at facts name ≡ Over lower id → standing_at facts other ≡ Over lower id → name ≡ other
  one_vlan name other lower id is again = sound.names.one_vlan name other lower id (vlan_row facts name lower id is).standing (vlan_row facts other lower id again).standing

  -- where a name that another stands on comes from
  lower_known_as : (upper lower : List ℕ) (s : Standing) → standing_at facts upper ≡ s → Contains (lowers_of s) lower → Contains (names_of facts.conf) lower ⊎ Contains (map (λ j. j.port) (radio_ports facts)) lower
  lower_known_as upper lower Broken is h = absurd (none_in_nil lower h)
  lower_known_as upper lower (Alone fit) is h = absurd (none_in_nil lower h)
  lower_known_as upper lower (Over base id) is h = inl (subst (Contains (names_of facts.conf)) (only base lower h) (sound.names.named upper base (row_vlan_stands facts upper base id is)))
  lower_known_as upper lower (Ports empty ports) is h = elim (port_cases facts upper lower empty ports is h) as (λ _. Contains (names_of facts.conf) lower ⊎ Contains (map (λ j. j.port) (radio_ports facts)) lower) [
    | inl own ↦ inl (sound.names.named upper lower (row_stands facts upper lower empty ports is own))
    | inr radio ↦ inr (map_member (λ j. j.port) (radio_ports facts) (record { bridge = upper; port = lower }) (radio_port facts upper lower radio).joins)
  ]

  pub lower_known : (upper lower : List ℕ) → Stands facts upper lower → Contains (names_of facts.conf) lower ⊎ Contains (map (λ j. j.port) (radio_ports facts)) lower
  lower_known upper lower h = lower_known_as upper lower (standing_at facts upper) refl h
