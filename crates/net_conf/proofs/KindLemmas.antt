-- What the row of a name stands on, and which faults its row has.
use Rattle.std.proofs.Common.{◌≡◌, ℕ, List, [], ◌∷◌, ◌++◌, Bool, true, false, cond, Option, Some, None, Contains, refl, ap, subst}
use Rattle.std.specs.Prelude.{not, is_some}
use Rattle.std.proofs.lemmas.List.{append-nil}
use Rattle.std.proofs.lemmas.List.Elements.{Contains-append_left, Contains-append_right}
use Rattle.kern_model.proofs.MemberLemmas.{here, none_in_nil}
use Rattle.kern_model.proofs.TestLemmas.{of_any, bytes_same}
use Rattle.kern_calls.proofs.FilterLemmas.{from_filter, in_filter}
use Rattle.net_rows.specs.declared.stated.Stated.TheVariants.{Absent, Unread, Read}
use Rattle.net_rows.specs.declared.dotted.VlanParts.{VlanParts}
use Rattle.net_rows.specs.Dotted.{vlan_parts}
use Rattle.net_rows.specs.declared.fault_name.FaultName.TheVariants as fault
use Rattle.net_rows.specs.declared.rows.RowFault.{RowFault}
use Rattle.net_rows.specs.declared.rows.NameKind.{NameKind}
use Rattle.net_rows.specs.declared.rows.NameKind.TheVariants as is
use Rattle.net_rules.specs.Rows.{rowless, is_bridge_kind, ports_of_kind}
use Rattle.net_rules.specs.Standing.{Over, standing_of, standing_of_row, lowers_of}
use Rattle.net_rules.proofs.ListLemmas.{within_filter}
use Rattle.net_devices.specs.declared.said.StatedKind.{StatedKind}
use Rattle.net_devices.specs.declared.said.StatedKind.TheVariants.{Untyped, Wrong, Bridge, Vlan}
use Rattle.net_devices.specs.declared.said.DeviceSection.{DeviceSection}
use Rattle.net_devices.specs.declared.said.Said.{Said}
use Rattle.net_devices.specs.Names.{section_of}
use Rattle.net_devices.specs.Levels.{is_bridge_section, is_bridge, lower_of, below_kind, below_section, below}
use Rattle.net_devices.specs.Levels.{is_bridge_kind as is_bridge_stated}
use Rattle.net_devices.specs.Kinds.{is_name, owner, is_own_port, untyped_kind, kind_by, kind_in, kind_of}
use Rattle.net_devices.specs.Faults.{bare, kind_faults, value_faults, if_so}
use Rattle.net_devices.specs.NameRows.{breaks, is_broken, name_faults}

-- the names that a name of this kind stands on, where no fault makes it unavailable
abbrev pub lowers_by : NameKind → List (List ℕ)
lowers_by is.Plain = []
lowers_by (is.Bridge empty ports) = ports
lowers_by (is.Vlan None id) = []
lowers_by (is.Vlan (Some lower) id) = lower ∷ []

pub stood : (kind : NameKind) (broken : Bool) (lower : List ℕ) → Contains (lowers_of (standing_of kind broken [])) lower → (broken ≡ false) × Contains (lowers_by kind) lower
stood is.Plain broken lower h = absurd (none_in_nil lower h)
stood (is.Bridge empty ports) true lower h = absurd (none_in_nil lower h)
stood (is.Bridge empty ports) false lower h = (refl, subst (λ (z : List (List ℕ)). Contains z lower) (append-nil ports) h)
stood (is.Vlan other id) true lower h = absurd (none_in_nil lower h)
stood (is.Vlan None id) false lower h = absurd (none_in_nil lower h)
stood (is.Vlan (Some other) id) false lower h = (refl, h)

-- a name without a row stands on nothing, and is no bridge
less_stood : (b : Bool) (lower : List ℕ) → Contains (lowers_of (standing_of (cond {A = NameKind} b (is.Vlan None 0) is.Plain) b [])) lower → ⊥
less_stood true lower h = none_in_nil lower h
less_stood false lower h = none_in_nil lower h

pub rowless_stands : (name lower : List ℕ) → Contains (lowers_of (standing_of_row (rowless name) [])) lower → ⊥
rowless_stands name lower h = less_stood (is_some (vlan_parts name)) lower h

less_bridge : (b : Bool) → is_bridge_kind (cond {A = NameKind} b (is.Vlan None 0) is.Plain) ≡ false
less_bridge true = refl
less_bridge false = refl

pub rowless_no_bridge : (name : List ℕ) → is_bridge_kind (rowless name).kind ≡ false
rowless_no_bridge name = less_bridge (is_some (vlan_parts name))

less_ports : (b : Bool) → ports_of_kind (cond {A = NameKind} b (is.Vlan None 0) is.Plain) ≡ []
less_ports true = refl
less_ports false = refl

pub rowless_ports : (name : List ℕ) → ports_of_kind (rowless name).kind ≡ []
rowless_ports name = less_ports (is_some (vlan_parts name))

less_over : (b : Bool) (lower : List ℕ) (id : ℕ) → standing_of (cond {A = NameKind} b (is.Vlan None 0) is.Plain) b [] ≡ Over lower id → ⊥
less_over true lower id h = cc h
less_over false lower id h = cc h

pub rowless_over : (name lower : List ℕ) (id : ℕ) → standing_of_row (rowless name) [] ≡ Over lower id → ⊥
rowless_over name lower id h = less_over (is_some (vlan_parts name)) lower id h

-- an own port of a bridge
pub record IsOwn (said : List Said) (bridge port : List ℕ) : Type 0 where
  pub no_bridge : is_bridge said port ≡ false
  pub owned : owner said port ≡ Some bridge

owner_is : (bridge : List ℕ) (o : Option (List ℕ)) → is_name bridge o ≡ true → o ≡ Some bridge
owner_is bridge None h = cc h
owner_is bridge (Some other) h = ap Some (bytes_same other bridge h)

own_by : (b rest : Bool) → cond {A = Bool} b false rest ≡ true → (b ≡ false) × (rest ≡ true)
own_by true rest h = cc h
own_by false rest h = (refl, h)

module _ (said : List Said) where
  own_port : (bridge port : List ℕ) → is_own_port said bridge port ≡ true → IsOwn said bridge port
  own_port bridge port h =
      let parts : (is_bridge said port ≡ false) × (is_name bridge (owner said port) ≡ true) = own_by (is_bridge said port) (is_name bridge (owner said port)) h in
      record { no_bridge = parts.0; owned = owner_is bridge (owner said port) parts.1 }

  untyped_no_ports : (parts : Option VlanParts) → ports_of_kind (untyped_kind parts) ≡ []
  untyped_no_ports None = refl
  untyped_no_ports (Some parts) = refl

  owns_by_kind : (name : List ℕ) (kind : StatedKind) (port : List ℕ) → Contains (ports_of_kind (kind_by said name kind)) port → IsOwn said name port
  owns_by_kind name Untyped port h = absurd (none_in_nil port (subst (λ (z : List (List ℕ)). Contains z port) (untyped_no_ports (vlan_parts name)) h))
  owns_by_kind name Wrong port h = absurd (none_in_nil port h)
  owns_by_kind name (Bridge empty ports bad) port h = own_port name port (from_filter (is_own_port said name) ports port h)
  owns_by_kind name (Vlan lower id) port h = absurd (none_in_nil port h)

  owns_in : (name : List ℕ) (section : Option DeviceSection) (port : List ℕ) → Contains (ports_of_kind (kind_in said name section)) port → IsOwn said name port
  owns_in name None port h = absurd (none_in_nil port (subst (λ (z : List (List ℕ)). Contains z port) (untyped_no_ports (vlan_parts name)) h))
  owns_in name (Some section) port h = owns_by_kind name section.kind port h

  pub owns : (bridge port : List ℕ) → Contains (ports_of_kind (kind_of said bridge)) port → IsOwn said bridge port
  owns bridge port h = owns_in bridge (section_of said bridge) port h

  -- what a name stands on by its row, it stands on by the sections
  untyped_below : (parts : Option VlanParts) (lower : List ℕ) → Contains (lowers_by (untyped_kind parts)) lower → Contains (lower_of parts) lower
  untyped_below None lower h = h
  untyped_below (Some parts) lower h = h

  below_by : (name : List ℕ) (kind : StatedKind) (lower : List ℕ) → Contains (lowers_by (kind_by said name kind)) lower → Contains (below_kind said name kind) lower
  below_by name Untyped lower h = untyped_below (vlan_parts name) lower h
  below_by name Wrong lower h = h
  below_by name (Bridge empty ports bad) lower h =
      in_filter (λ (x : List ℕ). not (is_bridge said x)) ports lower (within_filter (is_own_port said name) ports lower h)
      (ap not (own_port name lower (from_filter (is_own_port said name) ports lower h)).no_bridge)
  below_by name (Vlan Absent id) lower h = h
  below_by name (Vlan Unread id) lower h = h
  below_by name (Vlan (Read other) id) lower h = h

  below_in : (name : List ℕ) (section : Option DeviceSection) (lower : List ℕ) → Contains (lowers_by (kind_in said name section)) lower → Contains (below_section said name section) lower
  below_in name None lower h = untyped_below (vlan_parts name) lower h
  below_in name (Some section) lower h = below_by name section.kind lower h

  pub is_below : (name lower : List ℕ) → Contains (lowers_by (kind_of said name)) lower → Contains (below said name) lower
  is_below name lower h = below_in name (section_of said name) lower h

  -- a name is a bridge by its row where it is one by its section
  untyped_no_bridge : (parts : Option VlanParts) → is_bridge_kind (untyped_kind parts) ≡ false
  untyped_no_bridge None = refl
  untyped_no_bridge (Some parts) = refl

  bridge_by : (name : List ℕ) (kind : StatedKind) → is_bridge_kind (kind_by said name kind) ≡ is_bridge_stated kind
  bridge_by name Untyped = untyped_no_bridge (vlan_parts name)
  bridge_by name Wrong = refl
  bridge_by name (Bridge empty ports bad) = refl
  bridge_by name (Vlan lower id) = refl

  bridge_in : (name : List ℕ) (section : Option DeviceSection) → is_bridge_kind (kind_in said name section) ≡ is_bridge_section section
  bridge_in name None = untyped_no_bridge (vlan_parts name)
  bridge_in name (Some section) = bridge_by name section.kind

  pub same_bridge : (name : List ℕ) → is_bridge_kind (kind_of said name) ≡ is_bridge said name
  same_bridge name = bridge_in name (section_of said name)

  -- a plain name stands on nothing
  untyped_alone : (parts : Option VlanParts) → untyped_kind parts ≡ is.Plain → lower_of parts ≡ []
  untyped_alone None h = refl
  untyped_alone (Some parts) h = cc h

  alone_by : (name : List ℕ) (kind : StatedKind) → kind_by said name kind ≡ is.Plain → below_kind said name kind ≡ []
  alone_by name Untyped h = untyped_alone (vlan_parts name) h
  alone_by name Wrong h = refl
  alone_by name (Bridge empty ports bad) h = cc h
  alone_by name (Vlan lower id) h = cc h

  alone_in : (name : List ℕ) (section : Option DeviceSection) → kind_in said name section ≡ is.Plain → below_section said name section ≡ []
  alone_in name None h = untyped_alone (vlan_parts name) h
  alone_in name (Some section) h = alone_by name section.kind h

  pub is_alone : (name : List ℕ) → kind_of said name ≡ is.Plain → below said name ≡ []
  is_alone name h = alone_in name (section_of said name) h

  -- faults that make a name unavailable
  pub breaking : (faults : List RowFault) (found : RowFault) → Contains faults found → breaks found.name ≡ true → is_broken faults ≡ true
  breaking faults found member is = of_any (λ (f : RowFault). breaks f.name) faults found member is

  pub high_listed : (same : Bool) (section : Option DeviceSection) → Contains (name_faults said same true section) (bare fault.TooHigh)
  high_listed same None = Contains-append_right (if_so same fault.SameVlan) (if_so true fault.TooHigh) (bare fault.TooHigh) (here (bare fault.TooHigh) [])
  high_listed same (Some section) =
      let front : List RowFault = kind_faults said section.kind ++ if_so same fault.SameVlan in
      Contains-append_left (front ++ if_so true fault.TooHigh) (value_faults section) (bare fault.TooHigh)
      (Contains-append_right front (if_so true fault.TooHigh) (bare fault.TooHigh) (here (bare fault.TooHigh) []))

  pub same_listed : (high : Bool) (section : Option DeviceSection) → Contains (name_faults said true high section) (bare fault.SameVlan)
  same_listed high None = here (bare fault.SameVlan) (if_so high fault.TooHigh)
  same_listed high (Some section) =
      let front : List RowFault = kind_faults said section.kind ++ if_so true fault.SameVlan in
      Contains-append_left (front ++ if_so high fault.TooHigh) (value_faults section) (bare fault.SameVlan)
      (Contains-append_left front (if_so high fault.TooHigh) (bare fault.SameVlan)
      (Contains-append_right (kind_faults said section.kind) (if_so true fault.SameVlan) (bare fault.SameVlan) (here (bare fault.SameVlan) [])))

  pub kind_listed : (same high : Bool) (section : DeviceSection) (found : RowFault) → Contains (kind_faults said section.kind) found → Contains (name_faults said same high (Some section)) found
  kind_listed same high section found h =
      let front : List RowFault = kind_faults said section.kind ++ if_so same fault.SameVlan in
      Contains-append_left (front ++ if_so high fault.TooHigh) (value_faults section) found
      (Contains-append_left front (if_so high fault.TooHigh) found
      (Contains-append_left (kind_faults said section.kind) (if_so same fault.SameVlan) found h))
