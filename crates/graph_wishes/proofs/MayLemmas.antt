-- Of a key there is one object that may be wanted: a port has one owner, a bridge one row of an identifier, and a row one entry of
-- a port.
use Rattle.std.proofs.Common.{ℕ, ◌≡◌, ◌≢◌, ◌<◌, ◌⊎◌, inl, inr, List, [], ◌∷◌, ◌++◌, map, filter, flat_map, Contains, Bool, true, false, cond, Option, Some, None, refl, sym, ap, subst, ◌∙◌}
use Rattle.std.specs.Prelude.{bytes_eq}
use Rattle.std.specs.List.{list_any}
use Rattle.std.proofs.lemmas.List.Elements.{Contains-append_cases}
use Rattle.kern_model.specs.declared.object.Mac.{Mac}
use Rattle.kern_model.specs.declared.object.LinkKind.TheVariants as kind
use Rattle.kern_model.specs.declared.object.Object.{Object}
use Rattle.kern_model.specs.declared.object.Object.TheVariants as object
use Rattle.kern_model.proofs.MemberLemmas.{here, there, first_or_later, none_in_nil, member_of_all, member_of_map, map_member}
use Rattle.kern_model.proofs.TestLemmas.{from_any, bytes_same}
use Rattle.plane_words.specs.Distinct.{AreDistinct}
use Rattle.net_rows.specs.declared.rows.Conf.{Conf}
use Rattle.net_rows.specs.declared.rows.NameRow.{NameRow}
use Rattle.net_rows.specs.declared.rows.NameKind.{NameKind}
use Rattle.net_rows.specs.declared.rows.NameKind.TheVariants.{Plain, Bridge, Vlan}
use Rattle.net_rows.specs.declared.rows.VlanRow.{VlanRow}
use Rattle.net_rows.specs.declared.rows.VlanEntry.{VlanEntry}
use Rattle.net_rules.specs.Rows.{row_at, is_vlan_of, is_bridge_kind, is_plain_kind, ports_of_kind}
use Rattle.net_rules.specs.Sound.{level_at, row_standing, HasSoundVlans, AreOnBridge}
use Rattle.net_rules.specs.Standing.{Standing, Broken, Alone, Over, Ports, standing_of, lowers_of}
use Rattle.net_rules.specs.Want.{mtu_of, mac_of, local_vlan}
use Rattle.graph_objects.specs.Keys.{key_of}
use Rattle.graph_objects.specs.Steady.{IsGrounded}
use Rattle.kern_model.specs.ObjectOrder.{set_of}
use Rattle.kern_model.proofs.SetLemmas.{member_of_set}
use Rattle.kern_calls.proofs.KeptLemmas.{grounded}
use Rattle.graph_objects.specs.declared.key.ObjectKey.{ObjectKey}
use Rattle.graph_rules.specs.declared.ids.RadioPort.{RadioPort}
use Rattle.graph_rules.specs.State.{Known, names_in}
use Rattle.graph_rules.specs.Answers.{standing_in, given_ports, port_of}
use Rattle.graph_counts.specs.Sound.{conf_of, IsSound}
use Rattle.graph_counts.proofs.SoundLemmas.{bridge_row, given_by}
use Rattle.graph_wishes.specs.Wishes.{May, may_alone, may_master, may_entry, is_own_entry, vlan_mays, mays_by, mays_of_row, mays_of, mays}

-- a bridge of a graph by its row, with the ports of radios behind its own
pub record IsBridgeOf (s : Known) (name : List ℕ) (empty : Bool) (ports : List (List ℕ)) : Type 0 where
  pub own : List (List ℕ)
  pub kind : (row_at s.rows name).kind ≡ Bridge empty own
  pub all : own ++ given_ports (map port_of s.radio) name ≡ ports

bridge_by : (s : Known) (name : List ℕ) (empty : Bool) (ports : List (List ℕ)) (k : NameKind) (broken : Bool) → (row_at s.rows name).kind ≡ k → standing_of k broken (given_ports (map port_of s.radio) name) ≡ Ports empty ports
    → IsBridgeOf s name empty ports
bridge_by s name empty ports Plain broken is h = cc h
bridge_by s name empty ports (Bridge none own) true is h = cc h
bridge_by s name empty ports (Bridge none own) false is h =
    let same : none ≡ empty = cc h in
    let all : own ++ given_ports (map port_of s.radio) name ≡ ports = cc h in
    record { own = own; kind = is ∙ ap (λ e. Bridge e own) same; all = all }
bridge_by s name empty ports (Vlan lower id) true is h = cc h
bridge_by s name empty ports (Vlan None id) false is h = cc h
bridge_by s name empty ports (Vlan (Some lower) id) false is h = cc h

pub bridge_of : (s : Known) (name : List ℕ) (empty : Bool) (ports : List (List ℕ)) → standing_in s name ≡ Ports empty ports → IsBridgeOf s name empty ports
bridge_of s name empty ports h = bridge_by s name empty ports (row_at s.rows name).kind (row_at s.rows name).broken refl h

-- a name is a port of a bridge
pub record IsPort (s : Known) (bridge port : List ℕ) : Type 0 where
  pub empty : Bool
  pub ports : List (List ℕ)
  pub standing : standing_in s bridge ≡ Ports empty ports
  pub member : Contains ports port

-- a VLAN of the rows that is set on a bridge
pub record IsRowOn (s : Known) (bridge : List ℕ) (row : VlanRow) : Type 0 where
  pub empty : Bool
  pub ports : List (List ℕ)
  pub standing : standing_in s bridge ≡ Ports empty ports
  pub member : Contains s.vlans row
  pub on : is_vlan_of bridge row ≡ true

-- what may be wanted, by its kind
pub data IsMay (s : Known) (name : List ℕ) : May → Type 0 where
  of_mtu : (m : ℕ) → (row_at s.rows name).mtu ≡ Some m → IsMay s name (may_alone name (object.Mtu name m))
  of_up : IsMay s name (may_alone name (object.Up name))
  of_mac : (m : Mac) → (row_at s.rows name).mac ≡ Some m → IsMay s name (may_alone name (object.Mac name m))
  of_vlan : (lower : List ℕ) (id : ℕ) → standing_in s name ≡ Over lower id → IsMay s name (may_alone name (object.Link name (kind.Vlan lower id (row_at s.rows name).mac)))
  of_bridge : (empty : Bool) (ports : List (List ℕ)) → standing_in s name ≡ Ports empty ports → IsMay s name (may_alone name (object.Link name (kind.Bridge (row_at s.rows name).mac (list_any (is_vlan_of name) s.vlans))))
  of_master : (port : List ℕ) → IsPort s name port → IsMay s name (may_master name port)
  of_entry : (row : VlanRow) (e : VlanEntry) → IsRowOn s name row → Contains row.entries e → IsPort s name e.port → IsMay s name (may_entry name row.id e)
  of_local : (row : VlanRow) → IsRowOn s name row → IsMay s name (may_alone name (object.Vlan name name row.id false false))

plain_no_bridge : (k : NameKind) → is_plain_kind k ≡ true → is_bridge_kind k ≡ true → ⊥
plain_no_bridge Plain p b = cc b
plain_no_bridge (Bridge empty ports) p b = cc p
plain_no_bridge (Vlan lower id) p b = cc p

-- of one port there is one entry of the list
one_of_distinct : (radio : List RadioPort) (p q : RadioPort) → AreDistinct (map (λ (r : RadioPort). r.port) radio) → Contains radio p → Contains radio q → p.port ≡ q.port → p ≡ q
one_of_distinct [] p q once m n same = absurd (none_in_nil p m)
one_of_distinct (r ∷ rs) p q once m n same = elim (first_or_later r rs p m) as (λ _. p ≡ q) [
  | inl is ↦ elim (first_or_later r rs q n) as (λ _. p ≡ q) [
    | inl also ↦ sym is ∙ also
    | inr later ↦ absurd (member_of_all (λ x. x ≢ r.port) (map (λ (t : RadioPort). t.port) rs) q.port once.0 (map_member (λ (t : RadioPort). t.port) rs q later) (sym (ap (λ (t : RadioPort). t.port) is ∙ same)))
  ]
  | inr later ↦ elim (first_or_later r rs q n) as (λ _. p ≡ q) [
    | inl also ↦ absurd (member_of_all (λ x. x ≢ r.port) (map (λ (t : RadioPort). t.port) rs) p.port once.0 (map_member (λ (t : RadioPort). t.port) rs p later) (same ∙ sym (ap (λ (t : RadioPort). t.port) also)))
    | inr again ↦ one_of_distinct rs p q once.1 later again same
  ]
]

-- owners of ports
module _ (s : Known) (sound : IsSound s) where
  port_of_rows : (bridge port : List ℕ) (at : IsPort s bridge port) → Contains (ports_of_kind (row_at s.rows bridge).kind) port ⊎ Contains (given_ports (map port_of s.radio) bridge) port
  port_of_rows bridge port at =
      let row = bridge_of s bridge at.empty at.ports at.standing in
      elim (Contains-append_cases row.own (given_ports (map port_of s.radio) bridge) port (subst (λ ps. Contains ps port) (sym row.all) at.member)) as
      (λ _. Contains (ports_of_kind (row_at s.rows bridge).kind) port ⊎ Contains (given_ports (map port_of s.radio) bridge) port) [
        | inl own ↦ inl (subst (λ k. Contains (ports_of_kind k) port) (sym row.kind) own)
        | inr given ↦ inr given
      ]

  -- a bridge that owns a port by its kind has a row
  owner_row : (bridge port : List ℕ) (at : IsPort s bridge port) → Contains s.rows (row_at s.rows bridge)
  owner_row bridge port at = let row = bridge_of s bridge at.empty at.ports at.standing in bridge_row s.rows bridge (ap is_bridge_kind row.kind)

  pub one_owner : (a b port : List ℕ) → IsPort s a port → IsPort s b port → a ≡ b
  one_owner a b port p q =
      elim (port_of_rows a port p) as (λ _. a ≡ b) [
        | inl own ↦ elim (port_of_rows b port q) as (λ _. a ≡ b) [
          | inl again ↦ sound.standing.one_owner a b port own again
          | inr given ↦ let g = given_by s.radio b port given in absurd (sound.ports.free g.by g.member (row_at s.rows a) (owner_row a port p) (subst (Contains (ports_of_kind (row_at s.rows a).kind)) (sym g.is) own))
        ]
        | inr given ↦
            let g = given_by s.radio a port given in
            elim (port_of_rows b port q) as (λ _. a ≡ b) [
              | inl own ↦ absurd (sound.ports.free g.by g.member (row_at s.rows b) (owner_row b port q) (subst (Contains (ports_of_kind (row_at s.rows b).kind)) (sym g.is) own))
              | inr second ↦
                  let h = given_by s.radio b port second in
                  let one : g.by ≡ h.by = one_of_distinct s.radio g.by h.by sound.ports.once g.member h.member (g.is ∙ sym h.is) in
                  sym g.to ∙ ap (λ (r : RadioPort). r.bridge) one ∙ h.to
            ]
      ]

  -- a port is no bridge
  pub no_bridge : (a b : List ℕ) (row : VlanRow) → IsPort s a b → IsRowOn s b row → ⊥
  no_bridge a b row p on =
      let made = ap is_bridge_kind (bridge_of s b on.empty on.ports on.standing).kind in
      elim (port_of_rows a b p) as (λ _. ⊥) [
        | inl own ↦ let off = sound.standing.no_bridge a b own in cc (made, off)
        | inr given ↦
            let g = given_by s.radio a b given in
            let plain = subst (λ n. is_plain_kind (row_at s.rows n).kind ≡ true) g.is (sound.ports.plain g.by g.member) in
            plain_no_bridge (row_at s.rows b).kind plain made
      ]

-- a member of a filtered list
member_kept : {X : Type 0} (p : X → Bool) (xs : List X) (x : X) → Contains (filter p xs) x → Contains xs x × (p x ≡ true)
member_kept p [] x h = absurd (none_in_nil x h)
member_kept p (y ∷ ys) x h = by (member_kept p ys x) (p y) refl h
  where
    by : (Contains (filter p ys) x → Contains ys x × (p x ≡ true)) → (b : Bool) → p y ≡ b → Contains (cond b (y ∷ filter p ys) (filter p ys)) x → Contains (y ∷ ys) x × (p x ≡ true)
    by rest true is h = elim (first_or_later y (filter p ys) x h) as (λ _. Contains (y ∷ ys) x × (p x ≡ true)) [
      | inl same ↦ (subst (Contains (y ∷ ys)) same (here y ys), subst (λ z. p z ≡ true) same is)
      | inr later ↦ let found = rest later in (there y ys x found.0, found.1)
    ]
    by rest false is h = let found = rest h in (there y ys x found.0, found.1)

-- equal options
some_same : {X : Type 0} (o : Option X) (x y : X) → o ≡ Some x → o ≡ Some y → x ≡ y
some_same o x y h g = cc (h, g)

-- Of one key there is one. The names of objects that a name decides alone are that name.
module _ (s : Known) (sound : IsSound s) (vlans : HasSoundVlans (record (conf_of s.rows) { vlans = s.vlans })) where
  row_same : (bridge : List ℕ) (a b : VlanRow) → IsRowOn s bridge a → IsRowOn s bridge b → a.id ≡ b.id → a ≡ b
  row_same bridge a b p q ids = vlans.one_row bridge a b (record { first = p.member; first_on = p.on; second = q.member; second_on = q.on }) ids

  -- masters
  masters_same : (a b p q : List ℕ) → IsPort s a p → IsPort s b q → p ≡ q → may_master a p ≡ may_master b q
  masters_same a b p q x y ports =
      let bridges = one_owner s sound a b q (subst (IsPort s a) ports x) y in
      λ i. may_master (bridges i) (ports i)

  -- entries
  entries_same : (a b : List ℕ) (r t : VlanRow) (e f : VlanEntry) → IsRowOn s a r → IsRowOn s b t → Contains r.entries e → Contains t.entries f → IsPort s a e.port → IsPort s b f.port
      → e.port ≡ f.port → r.id ≡ t.id → may_entry a r.id e ≡ may_entry b t.id f
  entries_same a b r t e f x y m n p q ports ids =
      let bridges = one_owner s sound a b f.port (subst (IsPort s a) ports p) q in
      let row = row_same b r t (subst (λ n. IsRowOn s n r) bridges x) y ids in
      let one = vlans.one_entry b t y.member y.on e f (subst (λ (v : VlanRow). Contains v.entries e) row m) n ports in
      λ i. may_entry (bridges i) (ids i) (one i)

  apart : (a b : List ℕ) (m n : May) → IsMay s a m → IsMay s b n → key_of m.object ≡ key_of n.object → m ≡ n
  apart a b m n (IsMay.of_mtu x is) (IsMay.of_mtu y is') key =
      let names : a ≡ b = ap (λ (k : ObjectKey). k.name) key in
      let one = some_same (row_at s.rows b).mtu x y (subst (λ n. (row_at s.rows n).mtu ≡ Some x) names is) is' in
      λ i. may_alone (names i) (object.Mtu (names i) (one i))
  apart a b m n IsMay.of_up IsMay.of_up key =
      let names : a ≡ b = ap (λ (k : ObjectKey). k.name) key in
      λ i. may_alone (names i) (object.Up (names i))
  apart a b m n (IsMay.of_mac x is) (IsMay.of_mac y is') key =
      let names : a ≡ b = ap (λ (k : ObjectKey). k.name) key in
      let one = some_same (row_at s.rows b).mac x y (subst (λ n. (row_at s.rows n).mac ≡ Some x) names is) is' in
      λ i. may_alone (names i) (object.Mac (names i) (one i))
  apart a b m n (IsMay.of_vlan lower id is) (IsMay.of_vlan lower' id' is') key =
      let names : a ≡ b = ap (λ (k : ObjectKey). k.name) key in
      let here = subst (λ n. standing_in s n ≡ Over lower id) names is in
      let lowers : lower ≡ lower' = cc (here, is') in
      let ids : id ≡ id' = cc (here, is') in
      λ i. may_alone (names i) (object.Link (names i) (kind.Vlan (lowers i) (ids i) (row_at s.rows (names i)).mac))
  apart a b m n (IsMay.of_vlan lower id is) (IsMay.of_bridge empty ports is') key =
      let names : a ≡ b = ap (λ (k : ObjectKey). k.name) key in
      let here = subst (λ n. standing_in s n ≡ Over lower id) names is in
      cc (here, is')
  apart a b m n (IsMay.of_bridge empty ports is) (IsMay.of_vlan lower id is') key =
      let names : a ≡ b = ap (λ (k : ObjectKey). k.name) key in
      let here = subst (λ n. standing_in s n ≡ Ports empty ports) names is in
      cc (here, is')
  apart a b m n (IsMay.of_bridge empty ports is) (IsMay.of_bridge empty' ports' is') key =
      let names : a ≡ b = ap (λ (k : ObjectKey). k.name) key in
      λ i. may_alone (names i) (object.Link (names i) (kind.Bridge (row_at s.rows (names i)).mac (list_any (is_vlan_of (names i)) s.vlans)))
  apart a b m n (IsMay.of_master p x) (IsMay.of_master q y) key = masters_same a b p q x y (ap (λ (k : ObjectKey). k.name) key)
  apart a b m n (IsMay.of_entry r e x w p) (IsMay.of_entry t f y z q) key =
      entries_same a b r t e f x y w z p q (ap (λ (k : ObjectKey). k.name) key) (ap (λ (k : ObjectKey). k.id) key)
  apart a b m n (IsMay.of_entry r e x w p) (IsMay.of_local t y) key =
      let ports : e.port ≡ b = ap (λ (k : ObjectKey). k.name) key in
      absurd (no_bridge s sound a b t (subst (IsPort s a) ports p) y)
  apart a b m n (IsMay.of_local r x) (IsMay.of_entry t f y z q) key =
      let ports : a ≡ f.port = ap (λ (k : ObjectKey). k.name) key in
      absurd (no_bridge s sound b a r (subst (IsPort s b) (sym ports) q) x)
  apart a b m n (IsMay.of_local r x) (IsMay.of_local t y) key =
      let names : a ≡ b = ap (λ (k : ObjectKey). k.name) key in
      let ids : r.id ≡ t.id = ap (λ (k : ObjectKey). k.id) key in
      λ i. may_alone (names i) (object.Vlan (names i) (names i) (ids i) false false)
  apart a b m n x y key = let ranks = ap (λ (k : ObjectKey). k.rank) key in cc ranks

-- each member of the list is one by its kind
module _ (s : Known) (name : List ℕ) where
  mtu_may : (x : Option ℕ) → (row_at s.rows name).mtu ≡ x → (m : May) → Contains (map (may_alone name) (mtu_of name x)) m → IsMay s name m
  mtu_may None is m member = absurd (none_in_nil m member)
  mtu_may (Some x) is m member = elim (first_or_later (may_alone name (object.Mtu name x)) [] m member) as (λ _. IsMay s name m) [
    | inl same ↦ subst (IsMay s name) same (IsMay.of_mtu x is)
    | inr none ↦ absurd (none_in_nil m none)
  ]

  mac_may : (x : Option Mac) → (row_at s.rows name).mac ≡ x → (m : May) → Contains (map (may_alone name) (mac_of name x)) m → IsMay s name m
  mac_may None is m member = absurd (none_in_nil m member)
  mac_may (Some x) is m member = elim (first_or_later (may_alone name (object.Mac name x)) [] m member) as (λ _. IsMay s name m) [
    | inl same ↦ subst (IsMay s name) same (IsMay.of_mac x is)
    | inr none ↦ absurd (none_in_nil m none)
  ]

  master_may : (empty : Bool) (ports : List (List ℕ)) → standing_in s name ≡ Ports empty ports → (m : May) → Contains (map (may_master name) ports) m → IsMay s name m
  master_may empty ports is m member =
      let from = member_of_map (may_master name) ports m member in
      subst (IsMay s name) from.same (IsMay.of_master from.source (record { empty = empty; ports = ports; standing = is; member = from.member }))

  local_may : (row : VlanRow) → IsRowOn s name row → (b : Bool) (m : May) → Contains (map (may_alone name) (local_vlan name row.id b)) m → IsMay s name m
  local_may row on false m member = absurd (none_in_nil m member)
  local_may row on true m member = elim (first_or_later (may_alone name (object.Vlan name name row.id false false)) [] m member) as (λ _. IsMay s name m) [
    | inl same ↦ subst (IsMay s name) same (IsMay.of_local row on)
    | inr none ↦ absurd (none_in_nil m none)
  ]

  entry_may : (row : VlanRow) (on : IsRowOn s name row) (m : May) → Contains (map (may_entry name row.id) (filter (is_own_entry on.ports) row.entries)) m → IsMay s name m
  entry_may row on m member =
      let from = member_of_map (may_entry name row.id) (filter (is_own_entry on.ports) row.entries) m member in
      let kept = member_kept (is_own_entry on.ports) row.entries from.source from.member in
      let some = from_any (λ port. bytes_eq port from.source.port) on.ports kept.1 in
      let port = subst (Contains on.ports) (bytes_same some.passing from.source.port some.passes) some.member in
      subst (IsMay s name) from.same (IsMay.of_entry row from.source on kept.0 (record { empty = on.empty; ports = on.ports; standing = on.standing; member = port }))

  rows_may : (empty : Bool) (ports : List (List ℕ)) → standing_in s name ≡ Ports empty ports → (rows : List VlanRow) → ((r : VlanRow) → Contains rows r → Contains s.vlans r × (is_vlan_of name r ≡ true))
      → (m : May) → Contains (flat_map (vlan_mays name ports) rows) m → IsMay s name m
  rows_may empty ports is [] all m member = absurd (none_in_nil m member)
  rows_may empty ports is (r ∷ rs) all m member =
      let on : IsRowOn s name r = let here_too = all r (here r rs) in record { empty = empty; ports = ports; standing = is; member = here_too.0; on = here_too.1 } in
      elim (Contains-append_cases (vlan_mays name ports r) (flat_map (vlan_mays name ports) rs) m member) as (λ _. IsMay s name m) [
        | inl mine ↦ elim (Contains-append_cases (map (may_entry name r.id) (filter (is_own_entry ports) r.entries)) (map (may_alone name) (local_vlan name r.id r.local)) m mine) as (λ _. IsMay s name m) [
          | inl entry ↦ entry_may r on m entry
          | inr rest ↦ local_may r on r.local m rest
        ]
        | inr later ↦ rows_may empty ports is rs (λ t h. all t (there r rs t h)) m later
      ]

  by_may : (standing : Standing) → standing_in s name ≡ standing → (m : May) → Contains (mays_by s name (row_at s.rows name).mac standing) m → IsMay s name m
  by_may Broken is m member = absurd (none_in_nil m member)
  by_may (Alone fit) is m member = elim (first_or_later (may_alone name (object.Up name)) (map (may_alone name) (mac_of name (row_at s.rows name).mac)) m member) as (λ _. IsMay s name m) [
    | inl same ↦ subst (IsMay s name) same IsMay.of_up
    | inr later ↦ mac_may (row_at s.rows name).mac refl m later
  ]
  by_may (Over lower id) is m member = elim (first_or_later (may_alone name (object.Up name)) (may_alone name (object.Link name (kind.Vlan lower id (row_at s.rows name).mac)) ∷ []) m member) as (λ _. IsMay s name m) [
    | inl same ↦ subst (IsMay s name) same IsMay.of_up
    | inr later ↦ elim (first_or_later (may_alone name (object.Link name (kind.Vlan lower id (row_at s.rows name).mac))) [] m later) as (λ _. IsMay s name m) [
      | inl same ↦ subst (IsMay s name) same (IsMay.of_vlan lower id is)
      | inr none ↦ absurd (none_in_nil m none)
    ]
  ]
  by_may (Ports empty ports) is m member =
      let link = may_alone name (object.Link name (kind.Bridge (row_at s.rows name).mac (list_any (is_vlan_of name) s.vlans))) in
      let rest = map (may_master name) ports ++ flat_map (vlan_mays name ports) (filter (is_vlan_of name) s.vlans) in
      elim (first_or_later (may_alone name (object.Up name)) (link ∷ rest) m member) as (λ _. IsMay s name m) [
        | inl same ↦ subst (IsMay s name) same IsMay.of_up
        | inr later ↦ elim (first_or_later link rest m later) as (λ _. IsMay s name m) [
          | inl same ↦ subst (IsMay s name) same (IsMay.of_bridge empty ports is)
          | inr more ↦ elim (Contains-append_cases (map (may_master name) ports) (flat_map (vlan_mays name ports) (filter (is_vlan_of name) s.vlans)) m more) as (λ _. IsMay s name m) [
            | inl masters ↦ master_may empty ports is m masters
            | inr vlans ↦ rows_may empty ports is (filter (is_vlan_of name) s.vlans) (λ r h. member_kept (is_vlan_of name) s.vlans r h) m vlans
          ]
        ]
      ]

  name_may : (m : May) → Contains (mays_of s name) m → IsMay s name m
  name_may m member = elim (Contains-append_cases (map (may_alone name) (mtu_of name (row_at s.rows name).mtu)) (mays_by s name (row_at s.rows name).mac (standing_in s name)) m member) as (λ _. IsMay s name m) [
    | inl mtu ↦ mtu_may (row_at s.rows name).mtu refl m mtu
    | inr rest ↦ by_may (standing_in s name) refl m rest
  ]

pub names_may : (s : Known) (names : List (List ℕ)) (m : May) → Contains (flat_map (mays_of s) names) m → (name : List ℕ) × IsMay s name m
names_may s [] m member = absurd (none_in_nil m member)
names_may s (n ∷ ns) m member = elim (Contains-append_cases (mays_of s n) (flat_map (mays_of s) ns) m member) as (λ _. (name : List ℕ) × IsMay s name m) [
  | inl mine ↦ (n, name_may s n m mine)
  | inr later ↦ names_may s ns m later
]

-- of a key there is one that may be wanted
pub mays_apart : (s : Known) → IsSound s → HasSoundVlans (record (conf_of s.rows) { vlans = s.vlans }) → (m n : May) → Contains (mays s) m → Contains (mays s) n → key_of m.object ≡ key_of n.object → m ≡ n
mays_apart s sound vlans m n first second key =
    let a = names_may s (names_in s) m first in
    let b = names_may s (names_in s) n second in
    apart s sound vlans a.0 b.0 m n a.1 b.1 key

-- no VLAN is under itself, since levels rise
over_by : (s : Known) (name lower : List ℕ) (id : ℕ) (k : NameKind) (broken : Bool) (more : List (List ℕ)) → standing_of k broken more ≡ Over lower id → standing_of k broken [] ≡ Over lower id
over_by s name lower id Plain broken more h = cc h
over_by s name lower id (Bridge empty own) true more h = cc h
over_by s name lower id (Bridge empty own) false more h = cc h
over_by s name lower id (Vlan l i) true more h = cc h
over_by s name lower id (Vlan None i) false more h = cc h
over_by s name lower id (Vlan (Some l) i) false more h = h

vlan_rises : (s : Known) → IsSound s → (name lower : List ℕ) (id : ℕ) → standing_in s name ≡ Over lower id → level_at (conf_of s.rows) lower < level_at (conf_of s.rows) name
vlan_rises s sound name lower id is =
    let alone : row_standing (conf_of s.rows) name ≡ Over lower id = over_by s name lower id (row_at s.rows name).kind (row_at s.rows name).broken (given_ports (map port_of s.radio) name) is in
    sound.levels.rises name lower (subst (λ t. Contains (lowers_of t) lower) (sym alone) (here lower []))

vlan_of_may : (s : Known) (n : List ℕ) (m : May) → IsMay s n m → (name lower : List ℕ) (id : ℕ) (mac : Option Mac) → m.object ≡ object.Link name (kind.Vlan lower id mac) → standing_in s name ≡ Over lower id
vlan_of_may s n m (IsMay.of_vlan l i is) name lower id mac h =
    let names : n ≡ name = cc h in
    let lowers : l ≡ lower = cc h in
    let ids : i ≡ id = cc h in
    subst (λ x. standing_in s x ≡ Over lower id) names (is ∙ (λ j. Over (lowers j) (ids j)))
vlan_of_may s n m may name lower id mac h = cc h

pub mays_grounded : (s : Known) → IsSound s → IsGrounded (set_of (map (λ m. m.object) (mays s)))
mays_grounded s sound = grounded (set_of (map (λ m. m.object) (mays s))) (level_at (conf_of s.rows)) (λ name lower id mac h.
    let from = member_of_map (λ (m : May). m.object) (mays s) (object.Link name (kind.Vlan lower id mac)) (member_of_set (map (λ m. m.object) (mays s)) (object.Link name (kind.Vlan lower id mac)) h) in
    let may = names_may s (names_in s) from.source from.member in
    vlan_rises s sound name lower id (vlan_of_may s may.0 from.source may.1 name lower id mac from.same))
