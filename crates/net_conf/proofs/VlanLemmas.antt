-- The rows of VLANs of bridges that are read.
use Rattle.std.proofs.Common.{arith, ℕ, suc, ◌≡◌, ◌⊎◌, inl, inr, List, [], ◌∷◌, ◌++◌, length, Bool, true, false, cond, Option, Some, None, Contains, refl, ap, sym, subst, ◌∙◌}
use Rattle.std.specs.Prelude.{fold, not, bytes_eq, ◌&&◌, ◌==◌}
use Rattle.std.specs.List.{list_any}
use Rattle.std.proofs.lemmas.Bool.{not-false, eqb-true, eq-eqb}
use Rattle.std.proofs.lemmas.List.Elements.{Contains-push_cases, Contains-append_left, Contains-append_right}
use Rattle.kern_model.proofs.MemberLemmas.{here, first_or_later, none_in_nil, ComesFrom, member_of_map}
use Rattle.kern_model.proofs.TestLemmas.{of_both, of_any, from_any, bytes_same, same_bytes}
use Rattle.uci_tree.specs.declared.package.Section.{Section}
use Rattle.net_rows.specs.declared.rows.Conf.{Conf}
use Rattle.net_rows.specs.declared.rows.RowFault.{RowFault}
use Rattle.net_rows.specs.declared.rows.VlanEntry.{VlanEntry}
use Rattle.net_rows.specs.declared.rows.VlanRow.{VlanRow}
use Rattle.net_rows.specs.declared.fault_name.FaultName.TheVariants as fault
use Rattle.net_rules.specs.Rows.{is_name, is_vlan_of}
use Rattle.net_rules.specs.Sound.{HasSoundVlans}
use Rattle.net_devices.specs.declared.said.Said.{Said}
use Rattle.net_devices.specs.declared.bridge_vlans.VlanSaid.{VlanSaid}
use Rattle.net_devices.specs.EachOnce.{has}
use Rattle.net_devices.specs.Entries.{entries_of, first_behind, first_entries}
use Rattle.net_devices.specs.Faults.{if_so, is_read}
use Rattle.net_devices.specs.Kinds.{if_read, id_or_zero}
use Rattle.net_devices.specs.Kinds.{is_name as is_counted}
use Rattle.net_devices.specs.BridgeVlans.{counted_bridge, is_vlan, is_repeated, gives_pvid, row_gives_pvid, has_pvid, is_second, with_one_pvid, is_stated_bridge, vlan_said, vlan_row, is_vlan_section, with_vlan, vlan_rows}
use Rattle.net_conf.proofs.RowLemmas.{no_both}

-- a row that is set on a bridge
pub record IsOn (bridge : List ℕ) (row : VlanRow) : Type 0 where
  pub kept : row.passed_over ≡ false
  pub named : row.bridge ≡ Some bridge

on_by : (bridge : List ℕ) (passed : Bool) (name : Option (List ℕ)) → (not passed && is_name name bridge) ≡ true → (passed ≡ false) × (name ≡ Some bridge)
on_by bridge true name h = cc h
on_by bridge false None h = cc h
on_by bridge false (Some other) h = (refl, ap Some (bytes_same other bridge h))

is_on : (bridge : List ℕ) (row : VlanRow) → is_vlan_of bridge row ≡ true → IsOn bridge row
is_on bridge row h = let parts : (row.passed_over ≡ false) × (row.bridge ≡ Some bridge) = on_by bridge row.passed_over row.bridge h in record { kept = parts.0; named = parts.1 }

counted_by : (bridge : List ℕ) (passed : Bool) (name : Option (List ℕ)) → passed ≡ false → name ≡ Some bridge → is_counted bridge (cond {A = Option (List ℕ)} passed None name) ≡ true
counted_by bridge true name h k = cc h
counted_by bridge false name h k = ap (is_counted bridge) k ∙ same_bytes bridge bridge refl

counts : (bridge : List ℕ) (row : VlanRow) → IsOn bridge row → is_counted bridge (counted_bridge row) ≡ true
counts bridge row on = counted_by bridge row.passed_over row.bridge on.kept on.named

-- a row that is not passed over repeats none
some_fault : (front : List RowFault) (repeated : Bool) → not (length (front ++ if_so repeated fault.SameVlan) == 0) ≡ false → repeated ≡ false
some_fault front false h = refl
some_fault [] true h = cc h
some_fault (found ∷ front) true h =
    let faults : List RowFault = front ++ if_so true fault.SameVlan in
    let none : suc (length faults) ≡ 0 = eqb-true (suc (length faults)) 0 (not-false (suc (length faults) == 0) h) in
    absurd (omega (arith, none))

not_repeated : (said : List Said) (earlier : List VlanRow) (vlan : VlanSaid) → (vlan_row said earlier vlan).passed_over ≡ false → is_repeated earlier (if_read vlan.bridge) (id_or_zero vlan.id) ≡ false
not_repeated said earlier vlan h =
    some_fault (if_so (not (is_stated_bridge said vlan.bridge)) fault.NoBridge ++ if_so (not (is_read vlan.id)) fault.BadVid) (is_repeated earlier (if_read vlan.bridge) (id_or_zero vlan.id)) h

-- an earlier row has another identifier
other_id : (said : List Said) (earlier : List VlanRow) (vlan : VlanSaid) (bridge : List ℕ) (row : VlanRow) → Contains earlier row → IsOn bridge row → IsOn bridge (vlan_row said earlier vlan) → row.id ≡ id_or_zero vlan.id → ⊥
other_id said earlier vlan bridge row member on new same =
    let test : is_vlan bridge (id_or_zero vlan.id) row ≡ true = of_both (is_counted bridge (counted_bridge row)) (row.id == id_or_zero vlan.id) (counts bridge row on) (eq-eqb row.id (id_or_zero vlan.id) same) in
    let repeated : is_repeated earlier (Some bridge) (id_or_zero vlan.id) ≡ true = of_any (is_vlan bridge (id_or_zero vlan.id)) earlier row member test in
    let stated : if_read vlan.bridge ≡ Some bridge = new.named in
    no_both (is_repeated earlier (if_read vlan.bridge) (id_or_zero vlan.id))
    (ap (λ (o : Option (List ℕ)). is_repeated earlier o (id_or_zero vlan.id)) stated ∙ repeated)
    (not_repeated said earlier vlan new.kept)

-- the first entries of ports, one of each
kept_entry : (b : Bool) (e : VlanEntry) (others more : List VlanEntry) (x : VlanEntry) → Contains (cond {A = List VlanEntry} b others (e ∷ more)) x → ((b ≡ true) × Contains others x) ⊎ ((b ≡ false) × Contains (e ∷ more) x)
kept_entry true e others more x h = inl (refl, h)
kept_entry false e others more x h = inr (refl, h)

has_more : (ports : List (List ℕ)) (port other : List ℕ) → has ports other ≡ true → has (ports ++ port ∷ []) other ≡ true
has_more ports port other h =
    let found = from_any (λ (p : List ℕ). bytes_eq p other) ports h in
    of_any (λ (p : List ℕ). bytes_eq p other) (ports ++ port ∷ []) found.passing (Contains-append_left ports (port ∷ []) found.passing found.member) found.passes

has_last : (ports : List (List ℕ)) (port : List ℕ) → has (ports ++ port ∷ []) port ≡ true
has_last ports port = of_any (λ (p : List ℕ). bytes_eq p port) (ports ++ port ∷ []) port (Contains-append_right ports (port ∷ []) port (here port [])) (same_bytes port port refl)

-- none of the first entries behind these ports has one of these
behind : (ports : List (List ℕ)) (entries : List VlanEntry) (x : VlanEntry) → Contains (first_behind ports entries) x → has ports x.port ≡ true → ⊥
behind ports [] x h k = none_in_nil x h
behind ports (e ∷ entries) x h k = elim (kept_entry (has ports e.port) e (first_behind ports entries) (first_behind (ports ++ e.port ∷ []) entries) x h) as (λ _. ⊥) [
  | inl passed ↦ behind ports entries x passed.1 k
  | inr kept ↦ elim (first_or_later e (first_behind (ports ++ e.port ∷ []) entries) x kept.1) as (λ _. ⊥) [
    | inl same ↦ no_both (has ports e.port) (ap (λ (z : VlanEntry). has ports z.port) same ∙ k) kept.0
    | inr later ↦ behind (ports ++ e.port ∷ []) entries x later (has_more ports e.port x.port k)
  ]
]

one_behind : (ports : List (List ℕ)) (entries : List VlanEntry) (x y : VlanEntry) → Contains (first_behind ports entries) x → Contains (first_behind ports entries) y → x.port ≡ y.port → x ≡ y
one_behind ports [] x y h k same = absurd (none_in_nil x h)
one_behind ports (e ∷ entries) x y h k same =
    let more : List VlanEntry = first_behind (ports ++ e.port ∷ []) entries in
    let alone : (z : VlanEntry) → e.port ≡ z.port → Contains more z → ⊥ = λ z is later. behind (ports ++ e.port ∷ []) entries z later (ap (has (ports ++ e.port ∷ [])) (sym is) ∙ has_last ports e.port) in
    elim (kept_entry (has ports e.port) e (first_behind ports entries) more x h) as (λ _. x ≡ y) [
      | inl first ↦ elim (kept_entry (has ports e.port) e (first_behind ports entries) more y k) as (λ _. x ≡ y) [
        | inl second ↦ one_behind ports entries x y first.1 second.1 same
        | inr second ↦ absurd (no_both (has ports e.port) first.0 second.0)
      ]
      | inr first ↦ elim (kept_entry (has ports e.port) e (first_behind ports entries) more y k) as (λ _. x ≡ y) [
        | inl second ↦ absurd (no_both (has ports e.port) second.0 first.0)
        | inr second ↦ elim (first_or_later e more x first.1) as (λ _. x ≡ y) [
          | inl x_here ↦ elim (first_or_later e more y second.1) as (λ _. x ≡ y) [
            | inl y_here ↦ sym x_here ∙ y_here
            | inr y_later ↦ absurd (alone y (ap (λ (z : VlanEntry). z.port) x_here ∙ same) y_later)
          ]
          | inr x_later ↦ elim (first_or_later e more y second.1) as (λ _. x ≡ y) [
            | inl y_here ↦ absurd (alone x (ap (λ (z : VlanEntry). z.port) y_here ∙ sym same) x_later)
            | inr y_later ↦ one_behind (ports ++ e.port ∷ []) entries x y x_later y_later same
          ]
        ]
      ]
    ]

-- an entry keeps its port where its PVID does not count, and one that gives a PVID is no second one
port_by : (second : Bool) (e : VlanEntry) → (cond {A = VlanEntry} second (record e { pvid = false }) e).port ≡ e.port
port_by true e = refl
port_by false e = refl

pvid_by : (second : Bool) (e : VlanEntry) → (cond {A = VlanEntry} second (record e { pvid = false }) e).pvid ≡ true → (second ≡ false) × (e.pvid ≡ true)
pvid_by true e h = cc h
pvid_by false e h = (refl, h)

second_of : (pvid had : Bool) → pvid ≡ true → (pvid && had) ≡ false → had ≡ false
second_of true had h k = k
second_of false had h k = cc h

module _ (said : List Said) (earlier : List VlanRow) (vlan : VlanSaid) where
  abbrev row : VlanRow
  row = vlan_row said earlier vlan

  abbrev mark : VlanEntry → VlanEntry
  mark = with_one_pvid earlier (if_read vlan.bridge)

  same_port : (e : VlanEntry) → (mark e).port ≡ e.port
  same_port e = port_by (is_second earlier (if_read vlan.bridge) e) e

  one_entry_here : (x y : VlanEntry) → Contains row.entries x → Contains row.entries y → x.port ≡ y.port → x ≡ y
  one_entry_here x y h k same =
      let from : ComesFrom mark (first_entries (entries_of vlan.words)) x = member_of_map mark (first_entries (entries_of vlan.words)) x h in
      let other : ComesFrom mark (first_entries (entries_of vlan.words)) y = member_of_map mark (first_entries (entries_of vlan.words)) y k in
      let ports : from.source.port ≡ other.source.port = sym (same_port from.source) ∙ ap (λ (z : VlanEntry). z.port) from.same ∙ same ∙ sym (ap (λ (z : VlanEntry). z.port) other.same) ∙ same_port other.source in
      sym from.same ∙ ap mark (one_behind [] (entries_of vlan.words) from.source other.source from.member other.member ports) ∙ other.same

  -- an earlier row gave no PVID to a port that has one here
  no_second : (bridge : List ℕ) (before : VlanRow) (x y : VlanEntry) → Contains earlier before → IsOn bridge before → IsOn bridge row → Contains before.entries x → Contains row.entries y → x.port ≡ y.port → x.pvid ≡ true → y.pvid ≡ true → ⊥
  no_second bridge before x y member on new h k same first second =
      let from : ComesFrom mark (first_entries (entries_of vlan.words)) y = member_of_map mark (first_entries (entries_of vlan.words)) y k in
      let e : VlanEntry = from.source in
      let gives : (is_second earlier (if_read vlan.bridge) e ≡ false) × (e.pvid ≡ true) = pvid_by (is_second earlier (if_read vlan.bridge) e) e (ap (λ (z : VlanEntry). z.pvid) from.same ∙ second) in
      let none : has_pvid earlier (if_read vlan.bridge) e.port ≡ false = second_of e.pvid (has_pvid earlier (if_read vlan.bridge) e.port) gives.1 gives.0 in
      let port : x.port ≡ e.port = same ∙ sym (ap (λ (z : VlanEntry). z.port) from.same) ∙ same_port e in
      let given : row_gives_pvid bridge e.port before ≡ true =
      of_both (is_counted bridge (counted_bridge before)) (list_any (gives_pvid e.port) before.entries) (counts bridge before on)
      (of_any (gives_pvid e.port) before.entries x h (of_both x.pvid (bytes_eq x.port e.port) first (same_bytes x.port e.port port))) in
      let had : has_pvid earlier (Some bridge) e.port ≡ true = of_any (row_gives_pvid bridge e.port) earlier before member given in
      let stated : if_read vlan.bridge ≡ Some bridge = new.named in
      no_both (has_pvid earlier (if_read vlan.bridge) e.port) (ap (λ (o : Option (List ℕ)). has_pvid earlier o e.port) stated ∙ had) none

-- what rows keep, and what one more does to it
pub record AreSound (rows : List VlanRow) : Type 0 where
  pub one_row : (bridge : List ℕ) (a b : VlanRow) → Contains rows a → Contains rows b → IsOn bridge a → IsOn bridge b → a.id ≡ b.id → a ≡ b
  pub one_entry : (row : VlanRow) → Contains rows row → (x y : VlanEntry) → Contains row.entries x → Contains row.entries y → x.port ≡ y.port → x ≡ y
  pub one_pvid : (bridge : List ℕ) (a b : VlanRow) → Contains rows a → Contains rows b → IsOn bridge a → IsOn bridge b → (x y : VlanEntry) → Contains a.entries x → Contains b.entries y → x.port ≡ y.port → x.pvid ≡ true → y.pvid ≡ true → a
      ≡ b

none_sound : AreSound []
none_sound = record {
  one_row = λ bridge a b h. absurd (none_in_nil a h);
  one_entry = λ row h. absurd (none_in_nil row h);
  one_pvid = λ bridge a b h. absurd (none_in_nil a h);
}

module _ (said : List Said) (rows : List VlanRow) (vlan : VlanSaid) (are : AreSound rows) where
  abbrev last : VlanRow
  last = vlan_row said rows vlan

  more_rows : (bridge : List ℕ) (a b : VlanRow) → Contains (rows ++ last ∷ []) a → Contains (rows ++ last ∷ []) b → IsOn bridge a → IsOn bridge b → a.id ≡ b.id → a ≡ b
  more_rows bridge a b h k on too same = elim (Contains-push_cases rows last a h) as (λ _. a ≡ b) [
    | inl a_before ↦ elim (Contains-push_cases rows last b k) as (λ _. a ≡ b) [
      | inl b_before ↦ are.one_row bridge a b a_before b_before on too same
      | inr b_last ↦ absurd (other_id said rows vlan bridge a a_before on (subst (IsOn bridge) (sym b_last) too) (same ∙ sym (ap (λ (z : VlanRow). z.id) b_last)))
    ]
    | inr a_last ↦ elim (Contains-push_cases rows last b k) as (λ _. a ≡ b) [
      | inl b_before ↦ absurd (other_id said rows vlan bridge b b_before too (subst (IsOn bridge) (sym a_last) on) (sym same ∙ sym (ap (λ (z : VlanRow). z.id) a_last)))
      | inr b_last ↦ sym a_last ∙ b_last
    ]
  ]

  more_entries : (row : VlanRow) → Contains (rows ++ last ∷ []) row → (x y : VlanEntry) → Contains row.entries x → Contains row.entries y → x.port ≡ y.port → x ≡ y
  more_entries row h x y in_x in_y same = elim (Contains-push_cases rows last row h) as (λ _. x ≡ y) [
    | inl before ↦ are.one_entry row before x y in_x in_y same
    | inr is ↦ one_entry_here said rows vlan x y (subst (λ (z : VlanRow). Contains z.entries x) (sym is) in_x) (subst (λ (z : VlanRow). Contains z.entries y) (sym is) in_y) same
  ]

  more_pvids : (bridge : List ℕ) (a b : VlanRow) → Contains (rows ++ last ∷ []) a → Contains (rows ++ last ∷ []) b → IsOn bridge a → IsOn bridge b → (x y : VlanEntry) → Contains a.entries x → Contains b.entries y → x.port ≡ y.port → x.pvid
      ≡ true → y.pvid ≡ true → a ≡ b
  more_pvids bridge a b h k on too x y in_x in_y same p q = elim (Contains-push_cases rows last a h) as (λ _. a ≡ b) [
    | inl a_before ↦ elim (Contains-push_cases rows last b k) as (λ _. a ≡ b) [
      | inl b_before ↦ are.one_pvid bridge a b a_before b_before on too x y in_x in_y same p q
      | inr b_last ↦ absurd (no_second said rows vlan bridge a x y a_before on (subst (IsOn bridge) (sym b_last) too) in_x (subst (λ (z : VlanRow). Contains z.entries y) (sym b_last) in_y) same p q)
    ]
    | inr a_last ↦ elim (Contains-push_cases rows last b k) as (λ _. a ≡ b) [
      | inl b_before ↦ absurd (no_second said rows vlan bridge b y x b_before too (subst (IsOn bridge) (sym a_last) on) in_y (subst (λ (z : VlanRow). Contains z.entries x) (sym a_last) in_x) (sym same) q p)
      | inr b_last ↦ sym a_last ∙ b_last
    ]
  ]

  one_more : AreSound (rows ++ last ∷ [])
  one_more = record { one_row = more_rows; one_entry = more_entries; one_pvid = more_pvids }

if_vlan : (said : List Said) (rows : List VlanRow) (vlan : VlanSaid) (b : Bool) → AreSound rows → AreSound (cond {A = List VlanRow} b (rows ++ vlan_row said rows vlan ∷ []) rows)
if_vlan said rows vlan true are = one_more said rows vlan are
if_vlan said rows vlan false are = are

all_sound : (said : List Said) (sections : List Section) (rows : List VlanRow) → AreSound rows → AreSound (fold (with_vlan said) rows sections)
all_sound said [] rows are = are
all_sound said (section ∷ sections) rows are = all_sound said sections (with_vlan said rows section) (if_vlan said rows (vlan_said section.options) (is_vlan_section section) are)

pub sound_vlans : (conf : Conf) (said : List Said) (sections : List Section) → conf.vlans ≡ vlan_rows said sections → HasSoundVlans conf
sound_vlans conf said sections is =
    let are : AreSound conf.vlans = subst AreSound (sym is) (all_sound said sections [] none_sound) in
    record {
      one_row = λ bridge a b on same. are.one_row bridge a b on.first on.second (is_on bridge a on.first_on) (is_on bridge b on.second_on) same;
      one_entry = λ bridge row member on x y in_x in_y same. are.one_entry row member x y in_x in_y same;
      one_pvid = λ bridge a b on x y in_x in_y same p q. are.one_pvid bridge a b on.first on.second (is_on bridge a on.first_on) (is_on bridge b on.second_on) x y in_x in_y same p q;
    }
