-- Names that have no row and are no present devices.
use Rattle.std.proofs.Common.{ℕ, ◌≡◌, inl, inr, List, [], ◌∷◌, ◌++◌, map, Bool, true, false, cond, Contains, Option, Some, None, refl, ap, sym, subst, ◌∙◌}
use Rattle.std.specs.Prelude.{filter, not, is_some, bytes_eq, ◌||◌}
use Rattle.std.specs.List.{cons_option, filter_map}
use Rattle.std.specs.Option.{option_map}
use Rattle.std.proofs.lemmas.List.Elements.{Contains-append_left, Contains-append_right, Contains-append_cases}
use Rattle.plane_words.specs.Distinct.{AreDistinct}
use Rattle.kern_model.specs.declared.object.Device.{Device}
use Rattle.kern_model.proofs.MemberLemmas.{here, there, first_or_later, none_in_nil, map_member, member_of_map}
use Rattle.kern_model.proofs.TestLemmas.{either, of_left, of_right, true_or_not, false_of_not, bytes_same, same_bytes, in_filter_map, from_filter_map}
use Rattle.net_rows.specs.declared.rows.NameRow.{NameRow}
use Rattle.net_rows.specs.declared.rows.Conf.{Conf}
use Rattle.net_rules.specs.declared.inputs.Inputs.{Inputs}
use Rattle.net_rules.specs.Rows.{names_of}
use Rattle.net_rules.specs.RadioPorts.{RadioPort, joined, answered_ports, radio_ports}
use Rattle.net_rules.specs.Inputs.{device_in, facts_of}
use Rattle.net_view.specs.Places.{named}
use Rattle.graph_laws.specs.Knowing.{AreFurther}
use Rattle.graph_laws.proofs.ListLemmas.{distinct_both, keys_kept, firsts_once}
use Rattle.load_parts.specs.Further.{has_row, further_device, further_port, further_names}

abbrev Entry : Type 0
Entry = List ℕ × Device

abbrev name_unless : List ℕ → Bool → Bool → Option (List ℕ)
name_unless name row device = cond (row || device) None (Some name)

not_present : (name : List ℕ) (row : Bool) → name_unless name row true ≡ None
not_present name true = refl
not_present name false = refl

no_more : (name : List ℕ) (row : Bool) → cond {A = Option (List ℕ)} row None (Some name) ≡ name_unless name row false
no_more name true = refl
no_more name false = refl

pub present_port : (devices : List Entry) (name : List ℕ) (row : Bool) (entry : Entry) → Some entry ≡ named (λ (e : Entry). e.0) devices name → None ≡ name_unless name row (is_some (device_in devices name))
present_port devices name row entry is =
    sym (not_present name row) ∙ ap (λ (o : Option Entry). name_unless name row (is_some (option_map (λ (e : Entry). e.1) o))) is

pub absent_port : (devices : List Entry) (name : List ℕ) (row : Bool) → ◌≡◌ {A = Option Entry} None (named (λ (e : Entry). e.0) devices name) → cond {A = Option (List ℕ)} row None (Some name)
    ≡ name_unless name row (is_some (device_in devices name))
absent_port devices name row is =
    no_more name row ∙ ap (λ (o : Option Entry). name_unless name row (is_some (option_map (λ (e : Entry). e.1) o))) is

clash : (b : Bool) → b ≡ true → b ≡ false → ⊥
clash true on off = cc off
clash false on off = cc on

-- what has a name is found by it
some_when : {X : Type 0} (y : X) (rest : Option X) (b : Bool) → (b ≡ false → is_some rest ≡ true) → is_some (cond b (Some y) rest) ≡ true
some_when y rest true later = refl
some_when y rest false later = later refl

named_there : {X : Type 0} (key : X → List ℕ) (xs : List X) (x : X) → Contains xs x → is_some (named key xs (key x)) ≡ true
named_there key [] x h = absurd (none_in_nil x h)
named_there {X} key (y ∷ ys) x h = some_when y (named key ys (key x)) (bytes_eq (key y) (key x)) (λ off.
    elim (first_or_later y ys x h) as (λ _. is_some (named key ys (key x)) ≡ true) [
      | inl same ↦ absurd (clash (bytes_eq (key y) (key x)) (same_bytes (key y) (key x) (ap key same)) off)
      | inr later ↦ named_there key ys x later
    ])

-- and what is found by a name has it
named_by : {X : Type 0} (key : X → List ℕ) (y : X) (ys : List X) (q : List ℕ) (x : X) (b : Bool) → bytes_eq (key y) q ≡ b → (named key ys q ≡ Some x → Contains ys x × (key x ≡ q)) → cond b (Some y) (named key ys q) ≡ Some x
    → Contains (y ∷ ys) x × (key x ≡ q)
named_by key y ys q x true on rest is =
    let one : y ≡ x = cc is in
    (subst (Contains (y ∷ ys)) one (here y ys), ap key (sym one) ∙ bytes_same (key y) q on)
named_by key y ys q x false off rest is =
    let found = rest is in
    (there y ys x found.0, found.1)

named_is : {X : Type 0} (key : X → List ℕ) (xs : List X) (q : List ℕ) (x : X) → named key xs q ≡ Some x → Contains xs x × (key x ≡ q)
named_is key [] q x is = absurd (cc is)
named_is key (y ∷ ys) q x is = named_by key y ys q x (bytes_eq (key y) q) refl (named_is key ys q x) is

-- names of rows
row_there : (conf : Conf) (name : List ℕ) → Contains (names_of conf) name → has_row conf name ≡ true
row_there conf name h =
    let from = member_of_map (λ (row : NameRow). row.name) conf.names name h in
    subst (λ q. has_row conf q ≡ true) from.same (named_there (λ (row : NameRow). row.name) conf.names from.source from.member)

row_by : (conf : Conf) (name : List ℕ) (found : Option NameRow) → named (λ (row : NameRow). row.name) conf.names name ≡ found → is_some found ≡ true → Contains (names_of conf) name
row_by conf name None is some = absurd (cc some)
row_by conf name (Some row) is some =
    let its = named_is (λ (row : NameRow). row.name) conf.names name row is in
    subst (Contains (names_of conf)) its.1 (map_member (λ (row : NameRow). row.name) conf.names row its.0)

in_rows : (conf : Conf) (name : List ℕ) → has_row conf name ≡ true → Contains (names_of conf) name
in_rows conf name on = row_by conf name (named (λ (row : NameRow). row.name) conf.names name) refl on

-- present devices
some_mapped : {X Y : Type 0} (f : X → Y) (o : Option X) → is_some (option_map f o) ≡ is_some o
some_mapped f None = refl
some_mapped f (Some x) = refl

device_there : (devices : List Entry) (entry : Entry) → Contains devices entry → is_some (device_in devices entry.0) ≡ true
device_there devices entry h = some_mapped (λ (e : Entry). e.1) (named (λ (e : Entry). e.0) devices entry.0) ∙ named_there (λ (e : Entry). e.0) devices entry h

device_by : (devices : List Entry) (name : List ℕ) (found : Option Entry) → named (λ (e : Entry). e.0) devices name ≡ found → is_some (option_map (λ (e : Entry). e.1) found) ≡ true → (entry : Entry) × Contains devices entry
    × (entry.0 ≡ name)
device_by devices name None is some = absurd (cc some)
device_by devices name (Some entry) is some =
    let its = named_is (λ (e : Entry). e.0) devices name entry is in
    (entry, its.0, its.1)

-- what a list that is mapped gives
pub mapped_first : {X Y Z : Type 0} (f : Y → Option Z) (g : X → Y) (xs : List X) → filter_map (λ (x : X). f (g x)) xs ≡ filter_map f (map g xs)
mapped_first f g [] = refl
mapped_first f g (x ∷ xs) = ap (cons_option (f (g x))) (mapped_first f g xs)

-- names that are not left out
kept : (b : Bool) (x y : List ℕ) → cond {A = Option (List ℕ)} b None (Some x) ≡ Some y → (b ≡ false) × (x ≡ y)
kept true x y is = absurd (cc is)
kept false x y is = (refl, cc is)

keep : (b : Bool) (x : List ℕ) → b ≡ false → cond {A = Option (List ℕ)} b None (Some x) ≡ Some x
keep true x off = absurd (cc off)
keep false x off = refl

-- they are the names of those that a test keeps
by_test : {X : Type 0} (key : X → List ℕ) (x : X) (xs : List X) (rest : List (List ℕ)) (b : Bool) → rest ≡ map key xs → cons_option (cond b None (Some (key x))) rest ≡ map key (cond (not b) (x ∷ xs) xs)
by_test key x xs rest true is = is
by_test key x xs rest false is = ap (λ zs. key x ∷ zs) is

kept_names : {X : Type 0} (key : X → List ℕ) (skip : X → Bool) (xs : List X) → filter_map (λ (x : X). cond {A = Option (List ℕ)} (skip x) None (Some (key x))) xs ≡ map key (filter (λ (x : X). not (skip x)) xs)
kept_names key skip [] = refl
kept_names {X} key skip (x ∷ xs) = by_test key x (filter (λ (y : X). not (skip y)) xs) (filter_map (λ (y : X). cond {A = Option (List ℕ)} (skip y) None (Some (key y))) xs) (skip x) (kept_names key skip xs)

module _ (inputs : Inputs) where
  abbrev ports : List RadioPort
  ports = radio_ports (facts_of inputs)

  abbrev is_used : List ℕ → Bool
  is_used name = has_row inputs.conf name || is_some (device_in inputs.devices name)

  abbrev of_devices : List (List ℕ)
  of_devices = filter_map (further_device inputs.conf) inputs.devices

  abbrev of_ports : List (List ℕ)
  of_ports = filter_map (further_port inputs) ports

  record IsDevice (name : List ℕ) : Type 0 where
    pub entry : Entry
    pub member : Contains inputs.devices entry
    pub rowless : has_row inputs.conf name ≡ false
    pub is : entry.0 ≡ name

  device_from : (name : List ℕ) → Contains of_devices name → IsDevice name
  device_from name h =
      let from = from_filter_map (further_device inputs.conf) inputs.devices name h in
      let parts = kept (has_row inputs.conf from.source.0) from.source.0 name from.gives in
      record {
        entry = from.source;
        member = from.member;
        rowless = subst (λ q. has_row inputs.conf q ≡ false) parts.1 parts.0;
        is = parts.1;
      }

  port_from : (name : List ℕ) → Contains of_ports name → is_used name ≡ false
  port_from name h =
      let from = from_filter_map (further_port inputs) ports name h in
      let parts = kept (is_used from.source.port) from.source.port name from.gives in
      subst (λ q. is_used q ≡ false) parts.1 parts.0

  apart : (name : List ℕ) → Contains of_devices name → Contains of_ports name → ⊥
  apart name h k =
      let from = device_from name h in
      let present : is_some (device_in inputs.devices name) ≡ true = subst (λ q. is_some (device_in inputs.devices q) ≡ true) from.is (device_there inputs.devices from.entry from.member) in
      clash (is_used name) (of_right (has_row inputs.conf name) (is_some (device_in inputs.devices name)) present) (port_from name k)

  pub stand_once : AreDistinct (map (λ (e : Entry). e.0) inputs.devices) → AreDistinct (further_names inputs)
  stand_once once =
      distinct_both of_devices of_ports
      (subst AreDistinct (sym (kept_names (λ (e : Entry). e.0) (λ (e : Entry). has_row inputs.conf e.0) inputs.devices))
      (keys_kept (λ (e : Entry). e.0) (λ (e : Entry). not (has_row inputs.conf e.0)) inputs.devices once))
      (subst AreDistinct (sym (kept_names (λ (j : RadioPort). j.port) (λ (j : RadioPort). is_used j.port) ports))
      (keys_kept (λ (j : RadioPort). j.port) (λ (j : RadioPort). not (is_used j.port)) ports (firsts_once (λ (j : RadioPort). j.port) (filter_map (joined (facts_of inputs)) (answered_ports (facts_of inputs))))))
      apart

  pub are_rowless : (name : List ℕ) → Contains (further_names inputs) name → Contains (names_of inputs.conf) name → ⊥
  are_rowless name h row = elim (Contains-append_cases of_devices of_ports name h) as (λ _. ⊥) [
    | inl device ↦ clash (has_row inputs.conf name) (row_there inputs.conf name row) (device_from name device).rowless
    | inr port ↦ clash (is_used name) (of_left (has_row inputs.conf name) (is_some (device_in inputs.devices name)) (row_there inputs.conf name row)) (port_from name port)
  ]

  abbrev all_names : List (List ℕ)
  all_names = names_of inputs.conf ++ further_names inputs

  of_row : (name : List ℕ) → has_row inputs.conf name ≡ true → Contains all_names name
  of_row name on = Contains-append_left (names_of inputs.conf) (further_names inputs) name (in_rows inputs.conf name on)

  of_further : (name : List ℕ) → Contains (further_names inputs) name → Contains all_names name
  of_further name h = Contains-append_right (names_of inputs.conf) (further_names inputs) name h

  present : (name : List ℕ) → is_some (device_in inputs.devices name) ≡ true → Contains all_names name
  present name on = elim (true_or_not (has_row inputs.conf name)) as (λ _. Contains all_names name) [
    | inl row ↦ of_row name row
    | inr other ↦
        let its = device_by inputs.devices name (named (λ (e : Entry). e.0) inputs.devices name) refl on in
        let off : has_row inputs.conf its.0.0 ≡ false = subst (λ q. has_row inputs.conf q ≡ false) (sym its.2) (false_of_not (has_row inputs.conf name) other) in
        let there_is : Contains of_devices its.0.0 = in_filter_map (further_device inputs.conf) inputs.devices its.0 its.0.0 its.1 (keep (has_row inputs.conf its.0.0) its.0.0 off) in
        of_further name (Contains-append_left of_devices of_ports name (subst (Contains of_devices) its.2 there_is))
  ]

  pub devices_are_there : (name : List ℕ) (d : Device) → device_in inputs.devices name ≡ Some d → Contains all_names name
  devices_are_there name d is = present name (ap is_some is)

  pub ports_are_there : (j : RadioPort) → Contains ports j → Contains all_names j.port
  ports_are_there j member = elim (true_or_not (is_used j.port)) as (λ _. Contains all_names j.port) [
    | inl used ↦ elim (either (has_row inputs.conf j.port) (is_some (device_in inputs.devices j.port)) used) as (λ _. Contains all_names j.port) [
      | inl row ↦ of_row j.port row
      | inr device ↦ present j.port device
    ]
    | inr other ↦
        let there_is : Contains of_ports j.port = in_filter_map (further_port inputs) ports j j.port member (keep (is_used j.port) j.port (false_of_not (is_used j.port) other)) in
        of_further j.port (Contains-append_right of_devices of_ports j.port there_is)
  ]

  pub are_further : AreDistinct (map (λ (e : Entry). e.0) inputs.devices) → AreFurther inputs.conf (further_names inputs)
  are_further once = record { once = stand_once once; rowless = are_rowless }
