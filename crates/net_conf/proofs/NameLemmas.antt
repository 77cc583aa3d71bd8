-- The names that are read: their rows, owners and VLANs.
use Rattle.std.proofs.Common.{arith, ◌≡◌, ◌≤◌, inl, inr, ℕ, List, [], ◌∷◌, ◌++◌, map, Bool, true, false, cond, Option, Some, None, Contains, refl, ap, sym, subst, ◌∙◌}
use Rattle.std.specs.Prelude.{bytes_eq, not, ◌==◌}
use Rattle.std.proofs.lemmas.Bool.{eq-eqb, ne_eqb}
use Rattle.kern_model.specs.declared.vlan_name.TheConstants.{LEAST_VLAN_ID}
use Rattle.kern_model.proofs.MemberLemmas.{here, none_in_nil}
use Rattle.kern_model.proofs.TestLemmas.{of_any, of_both, same_bytes}
use Rattle.net_rows.specs.declared.stated.Stated.{Stated}
use Rattle.net_rows.specs.declared.stated.Stated.TheVariants.{Absent, Unread, Read}
use Rattle.net_rows.specs.declared.dotted.VlanParts.{VlanParts}
use Rattle.net_rows.specs.Dotted.{vlan_parts}
use Rattle.net_rows.specs.declared.fault_name.FaultName.TheVariants as fault
use Rattle.net_rows.specs.declared.rows.Conf.{Conf}
use Rattle.net_rows.specs.declared.rows.NameRow.{NameRow}
use Rattle.net_rows.specs.declared.rows.NameKind.{NameKind}
use Rattle.net_rows.specs.declared.rows.NameKind.TheVariants as is
use Rattle.net_rules.specs.Rows.{row_at, kind_at, is_bridge_kind, ports_of_kind, names_of}
use Rattle.net_rules.specs.Rows.{is_bridge as is_bridge_at}
use Rattle.net_rules.specs.Standing.{Over, standing_of, standing_of_row, lowers_of}
use Rattle.net_rules.specs.Sound.{row_standing, RowStands, RowOwns, HasSoundNames}
use Rattle.net_devices.specs.declared.said.StatedKind.{StatedKind}
use Rattle.net_devices.specs.declared.said.StatedKind.TheVariants.{Untyped, Wrong, Bridge, Vlan}
use Rattle.net_devices.specs.declared.said.DeviceSection.{DeviceSection}
use Rattle.net_devices.specs.declared.said.Said.{Said}
use Rattle.net_devices.specs.declared.said.Said.TheVariants.{Device}
use Rattle.net_devices.specs.Names.{section_of}
use Rattle.net_devices.specs.Names.{names as names_said}
use Rattle.net_devices.specs.Levels.{below}
use Rattle.net_devices.specs.Kinds.{id_or_zero, untyped_kind, kind_by, kind_in, kind_of}
use Rattle.net_devices.specs.Faults.{bare, if_so, is_read, kind_faults}
use Rattle.net_devices.specs.NameRows.{vlan_of, is_vlan_at, is_vlan_of_some, has_same_vlan, is_too_high, faults_of, name_faults, is_broken, name_row, rows_behind, name_rows}
use Rattle.net_conf.proofs.RowLemmas.{no_both, before, in_order, row_found, row_less, with_row}
use Rattle.net_conf.proofs.KindLemmas.{lowers_by, stood, rowless_stands, rowless_no_bridge, rowless_ports, rowless_over, IsOwn, owns, is_below, same_bridge, breaking, same_listed, kind_listed}
use Rattle.net_conf.proofs.ReadLemmas.{IsId, parts_are, IsReadKind, AreRead}
use Rattle.net_conf.proofs.ClosedLemmas.{IsSectionOf, of_section, below_is_named}

-- the rows of names have those names
rows_named : (said : List Said) (names earlier : List (List ℕ)) → map (λ (row : NameRow). row.name) (rows_behind said earlier names) ≡ names
rows_named said [] earlier = refl
rows_named said (name ∷ others) earlier = ap (λ (z : List (List ℕ)). name ∷ z) (rows_named said others (earlier ++ name ∷ []))

-- a VLAN that no fault makes unavailable
pub record IsOver (kind : NameKind) (broken : Bool) (lower : List ℕ) (id : ℕ) : Type 0 where
  pub sound : broken ≡ false
  pub made : kind ≡ is.Vlan (Some lower) id

over_by : (kind : NameKind) (broken : Bool) (lower : List ℕ) (id : ℕ) → standing_of kind broken [] ≡ Over lower id → IsOver kind broken lower id
over_by is.Plain broken lower id h = cc h
over_by (is.Bridge empty ports) true lower id h = cc h
over_by (is.Bridge empty ports) false lower id h = cc h
over_by (is.Vlan other number) true lower id h = cc h
over_by (is.Vlan None number) false lower id h = cc h
over_by (is.Vlan (Some other) number) false lower id h =
    let lowers : other ≡ lower = cc h in
    let ids : number ≡ id = cc h in
    record { sound = refl; made = cc (lowers, ids) }

module _ (said : List Said) (reads : AreRead said) where
  -- an identifier of a VLAN that no fault makes unavailable
  untyped_id : (name lower : List ℕ) (id : ℕ) (parts : Option VlanParts) → vlan_parts name ≡ parts → untyped_kind parts ≡ is.Vlan (Some lower) id → IsId id
  untyped_id name lower id None e h = cc h
  untyped_id name lower id (Some parts) e h = let same : parts.id ≡ id = cc h in subst IsId same (parts_are name parts e).id

  bad_id : (same high : Bool) (section : DeviceSection) (lower : Stated (List ℕ)) (id : Stated ℕ) → section.kind ≡ Vlan lower id → is_read id ≡ false → is_broken (name_faults said same high (Some section)) ≡ true
  bad_id same high section lower id kind none =
      breaking said (name_faults said same high (Some section)) (bare fault.BadVid)
      (kind_listed said same high section (bare fault.BadVid) (subst (λ (k : StatedKind). Contains (kind_faults said k) (bare fault.BadVid)) (sym kind)
      (subst (λ (b : Bool). Contains (if_so (not b) fault.BadVid ++ if_so (not (is_read lower)) fault.BadLower) (bare fault.BadVid)) (sym none) (here (bare fault.BadVid) (if_so (not (is_read lower)) fault.BadLower)))))
      refl

  stated_id : (same high : Bool) (section : DeviceSection) (lower : Stated (List ℕ)) (id : Stated ℕ) → section.kind ≡ Vlan lower id → is_broken (name_faults said same high (Some section)) ≡ false → ((n : ℕ) → id ≡ Read n → IsId n)
      → IsId (id_or_zero id)
  stated_id same high section lower Absent kind sound h = absurd (no_both (is_broken (name_faults said same high (Some section))) (bad_id same high section lower Absent kind refl) sound)
  stated_id same high section lower Unread kind sound h = absurd (no_both (is_broken (name_faults said same high (Some section))) (bad_id same high section lower Unread kind refl) sound)
  stated_id same high section lower (Read n) kind sound h = h n refl

  kind_id : (same high : Bool) (name lower : List ℕ) (id : ℕ) (section : DeviceSection) (kind : StatedKind) → section.kind ≡ kind → IsReadKind kind → is_broken (name_faults said same high (Some section)) ≡ false → kind_by said name kind
      ≡ is.Vlan (Some lower) id → IsId id
  kind_id same high name lower id section Untyped e read sound h = untyped_id name lower id (vlan_parts name) refl h
  kind_id same high name lower id section Wrong e read sound h = cc h
  kind_id same high name lower id section (Bridge empty ports bad) e read sound h = cc h
  kind_id same high name lower id section (Vlan other number) e read sound h =
      let equal : id_or_zero number ≡ id = cc h in
      subst IsId equal (stated_id same high section other number e sound read.1)

  section_id : (same high : Bool) (name lower : List ℕ) (id : ℕ) (section : Option DeviceSection) → section_of said name ≡ section → is_broken (name_faults said same high section) ≡ false → kind_in said name section
      ≡ is.Vlan (Some lower) id → IsId id
  section_id same high name lower id None e sound h = untyped_id name lower id (vlan_parts name) refl h
  section_id same high name lower id (Some section) e sound h =
      let of : IsSectionOf said name section = of_section said name section e in
      kind_id same high name lower id section section.kind refl (reads (Device section) of.member) sound h

  id_is : (same : Bool) (name lower : List ℕ) (id : ℕ) → is_broken (faults_of said same name) ≡ false → kind_of said name ≡ is.Vlan (Some lower) id → IsId id
  id_is same name lower id sound h = section_id same (is_too_high said name) name lower id (section_of said name) refl sound h

-- a name whose VLAN an earlier name is, is broken
same_breaks : (said : List Said) (same : Bool) (name : List ℕ) → same ≡ true → is_broken (faults_of said same name) ≡ true
same_breaks said true name h = breaking said (faults_of said true name) (bare fault.SameVlan) (same_listed said (is_too_high said name) (section_of said name)) refl
same_breaks said false name h = cc h

told : (lower : List ℕ) (id : ℕ) (b : Bool) → (id == 0) ≡ b → b ≡ false → cond {A = Option VlanParts} b None (Some (record { lower = lower; id = id })) ≡ Some (record { lower = lower; id = id })
told lower id true e h = cc h
told lower id false e h = refl

vlan_is : (kind : NameKind) (lower : List ℕ) (id : ℕ) → kind ≡ is.Vlan (Some lower) id → IsId id → vlan_of kind ≡ Some (record { lower = lower; id = id })
vlan_is kind lower id e within =
    let least : LEAST_VLAN_ID ≤ id = within.least in
    ap vlan_of e ∙ told lower id (id == 0) refl (ne_eqb id 0 (λ (zero : id ≡ 0). let k : 1 ≤ id = least in omega (arith, k, zero)))

same_vlan : (said : List Said) (earlier : List (List ℕ)) (other : List ℕ) (kind : NameKind) (lower : List ℕ) (id : ℕ) → Contains earlier other → vlan_of (kind_of said other) ≡ Some (record { lower = lower; id = id }) → vlan_of kind
    ≡ Some (record { lower = lower; id = id }) → has_same_vlan said earlier kind ≡ true
same_vlan said earlier other kind lower id member first second =
    ap (is_vlan_of_some said earlier) second
    ∙ of_any (λ (name : List ℕ). is_vlan_at lower id (vlan_of (kind_of said name))) earlier other member
    (ap (is_vlan_at lower id) first ∙ of_both (bytes_eq lower lower) (id == id) (same_bytes lower lower refl) (eq-eqb id id refl))

module _ (conf : Conf) (said : List Said) (are : conf.names ≡ name_rows said (names_said said)) (reads : AreRead said) where
  abbrev names : List (List ℕ)
  names = names_said said

  row_is : (name : List ℕ) → Contains names name → row_at conf.names name ≡ name_row said (before names name) name
  row_is name member = row_found conf said names are name member

  kind_is : (name : List ℕ) → Contains names name → kind_at conf name ≡ kind_of said name
  kind_is name member = ap (λ (r : NameRow). r.kind) (row_is name member)

  named : (upper lower : List ℕ) → RowStands conf upper lower → Contains (names_of conf) lower
  named upper lower h = elim (with_row names upper) as (λ _. Contains (names_of conf) lower) [
    | inl member ↦
        let stands : ((row_at conf.names upper).broken ≡ false) × Contains (lowers_by (kind_at conf upper)) lower = stood (kind_at conf upper) (row_at conf.names upper).broken lower h in
        let under : Contains (below said upper) lower = is_below said upper lower (subst (λ (k : NameKind). Contains (lowers_by k) lower) (kind_is upper member) stands.1) in
        subst (λ (z : List (List ℕ)). Contains z lower) (sym (ap (map (λ (row : NameRow). row.name)) are ∙ rows_named said names [])) (below_is_named said upper lower reads member under)
    | inr absent ↦ absurd (rowless_stands upper lower (subst (λ (r : NameRow). Contains (lowers_of (standing_of_row r [])) lower) (row_less conf said names are upper absent) h))
  ]

  own_port : (bridge port : List ℕ) → RowOwns conf bridge port → IsOwn said bridge port
  own_port bridge port h = elim (with_row names bridge) as (λ _. IsOwn said bridge port) [
    | inl member ↦ owns said bridge port (subst (λ (k : NameKind). Contains (ports_of_kind k) port) (kind_is bridge member) h)
    | inr absent ↦ absurd (none_in_nil port (subst (λ (z : List (List ℕ)). Contains z port) (ap (λ (r : NameRow). ports_of_kind r.kind) (row_less conf said names are bridge absent) ∙ rowless_ports bridge) h))
  ]

  no_bridge : (bridge port : List ℕ) → RowOwns conf bridge port → is_bridge_at conf port ≡ false
  no_bridge bridge port h = elim (with_row names port) as (λ _. is_bridge_at conf port ≡ false) [
    | inl member ↦ ap is_bridge_kind (kind_is port member) ∙ same_bridge said port ∙ (own_port bridge port h).no_bridge
    | inr absent ↦ ap (λ (r : NameRow). is_bridge_kind r.kind) (row_less conf said names are port absent) ∙ rowless_no_bridge port
  ]

  one_owner : (bridge other port : List ℕ) → RowOwns conf bridge port → RowOwns conf other port → bridge ≡ other
  one_owner bridge other port h k =
      let same : Some bridge ≡ Some other = sym (own_port bridge port h).owned ∙ (own_port other port k).owned in
      cc same

  -- a VLAN by its row
  record IsVlanOf (name lower : List ℕ) (id : ℕ) : Type 0 where
    member : Contains names name
    sound : is_broken (faults_of said (has_same_vlan said (before names name) (kind_of said name)) name) ≡ false
    made : kind_of said name ≡ is.Vlan (Some lower) id

  vlan_row : (name lower : List ℕ) (id : ℕ) → row_standing conf name ≡ Over lower id → IsVlanOf name lower id
  vlan_row name lower id h = elim (with_row names name) as (λ _. IsVlanOf name lower id) [
    | inl member ↦
        let over : IsOver (kind_at conf name) (row_at conf.names name).broken lower id = over_by (kind_at conf name) (row_at conf.names name).broken lower id h in
        record { member = member; sound = sym (ap (λ (r : NameRow). r.broken) (row_is name member)) ∙ over.sound; made = sym (kind_is name member) ∙ over.made }
    | inr absent ↦ absurd (rowless_over name lower id (sym (ap (λ (r : NameRow). standing_of_row r []) (row_less conf said names are name absent)) ∙ h))
  ]

  id_of_row : (name lower : List ℕ) (id : ℕ) → IsVlanOf name lower id → IsId id
  id_of_row name lower id vlan = id_is said reads (has_same_vlan said (before names name) (kind_of said name)) name lower id vlan.sound vlan.made

  -- the VLAN of a name in front is another one
  not_behind : (first second lower : List ℕ) (id : ℕ) → IsVlanOf first lower id → IsVlanOf second lower id → Contains (before names second) first → ⊥
  not_behind first second lower id a b in_front =
      let within : IsId id = id_of_row first lower id a in
      let same : has_same_vlan said (before names second) (kind_of said second) ≡ true =
      same_vlan said (before names second) first (kind_of said second) lower id in_front (vlan_is (kind_of said first) lower id a.made within) (vlan_is (kind_of said second) lower id b.made within) in
      no_both (is_broken (faults_of said (has_same_vlan said (before names second) (kind_of said second)) second)) (same_breaks said (has_same_vlan said (before names second) (kind_of said second)) second same) b.sound

  one_vlan : (name other lower : List ℕ) (id : ℕ) → row_standing conf name ≡ Over lower id → row_standing conf other ≡ Over lower id → name ≡ other
  one_vlan name other lower id h k =
      let a : IsVlanOf name lower id = vlan_row name lower id h in
      let b : IsVlanOf other lower id = vlan_row other lower id k in
      elim (in_order names name other a.member b.member) as (λ _. name ≡ other) [
        | inl same ↦ same
        | inr order ↦ elim order as (λ _. name ≡ other) [
          | inl other_first ↦ absurd (not_behind other name lower id b a other_first)
          | inr name_first ↦ absurd (not_behind name other lower id a b name_first)
        ]
      ]

  pub sound_names : HasSoundNames conf
  sound_names = record {
    named = named;
    no_bridge = no_bridge;
    one_owner = one_owner;
    least_id = λ name lower id h. (id_of_row name lower id (vlan_row name lower id h)).least;
    most_id = λ name lower id h. (id_of_row name lower id (vlan_row name lower id h)).most;
    one_vlan = one_vlan;
  }
