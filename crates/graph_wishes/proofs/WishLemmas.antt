-- What is wanted are the objects that may be wanted of which both names are used.
use Rattle.std.proofs.Common.{ℕ, ◌≡◌, List, [], ◌∷◌, ◌++◌, map, filter, flat_map, Bool, true, false, cond, Option, Some, None, bytes_eq, refl, sym, ap, ◌∙◌}
use Rattle.std.specs.Prelude.{◌&&◌, if◌then◌else◌}
use Rattle.std.specs.List.{list_any}
use Rattle.std.proofs.lemmas.List.{map-append}
use Rattle.kern_model.specs.declared.object.Mac.{Mac}
use Rattle.kern_model.specs.declared.object.LinkKind.TheVariants as kind
use Rattle.kern_model.specs.declared.object.Object.{Object}
use Rattle.kern_model.specs.declared.object.Object.TheVariants as object
use Rattle.kern_model.specs.ObjectOrder.{set_of}
use Rattle.net_rows.specs.declared.rows.NameRow.{NameRow}
use Rattle.net_rows.specs.declared.rows.VlanRow.{VlanRow}
use Rattle.net_rows.specs.declared.rows.VlanEntry.{VlanEntry}
use Rattle.net_rules.specs.Rows.{row_at, is_vlan_of}
use Rattle.net_rules.specs.Standing.{Standing, Broken, Alone, Over, Ports}
use Rattle.net_rules.specs.Want.{mtu_of, mac_of, local_vlan}
use Rattle.graph_rules.specs.State.{Known, names_in}
use Rattle.graph_rules.specs.Answers.{standing_in, used_in}
use Rattle.graph_rules.specs.Wanted.{entry_counts, vlan_objects, objects_by, objects_of_row, objects_in, want_in}
use Rattle.graph_wishes.specs.Wishes.{May, may_alone, may_master, may_entry, is_own_entry, vlan_mays, mays_by, mays_of_row, mays_of, mays, is_used_may, used_mays}

-- lists that are put together
filter_append : {X : Type 0} (p : X → Bool) (xs ys : List X) → filter p (xs ++ ys) ≡ filter p xs ++ filter p ys
filter_append p [] ys = refl
filter_append p (x ∷ xs) ys = by (p x) (filter_append p xs ys)
  where
    by : (b : Bool) → filter p (xs ++ ys) ≡ filter p xs ++ filter p ys → cond b (x ∷ filter p (xs ++ ys)) (filter p (xs ++ ys)) ≡ cond b (x ∷ filter p xs) (filter p xs) ++ filter p ys
    by true h = ap (λ zs. x ∷ zs) h
    by false h = h

-- one more in front of what passes
filter_step : {X : Type 0} (p : X → Bool) (x : X) (xs : List X) (b : Bool) → p x ≡ b → filter p (x ∷ xs) ≡ cond b (x ∷ filter p xs) (filter p xs)
filter_step p x xs b is = ap (λ t. cond t (x ∷ filter p xs) (filter p xs)) is

module _ (s : Known) where
  used_append : (xs ys : List May) → used_mays s (xs ++ ys) ≡ used_mays s xs ++ used_mays s ys
  used_append xs ys = ap (map (λ (m : May). m.object)) (filter_append (is_used_may s) xs ys) ∙ map-append (λ (m : May). m.object) (filter (is_used_may s) xs) (filter (is_used_may s) ys)

  one_used : (m : May) (ms : List May) → is_used_may s m ≡ true → used_mays s (m ∷ ms) ≡ m.object ∷ used_mays s ms
  one_used m ms is = ap (map (λ (x : May). x.object)) (filter_step (is_used_may s) m ms true is)

  one_unused : (m : May) (ms : List May) → is_used_may s m ≡ false → used_mays s (m ∷ ms) ≡ used_mays s ms
  one_unused m ms is = ap (map (λ (x : May). x.object)) (filter_step (is_used_may s) m ms false is)

  module _ (name : List ℕ) where
    -- of an unused name nothing
    off : (first second : Bool) → first ≡ false → (first && second) ≡ false
    off first second is = ap (λ t. t && second) is

    alone_unused : (os : List Object) → used_in s name ≡ false → used_mays s (map (may_alone name) os) ≡ []
    alone_unused [] is = refl
    alone_unused (o ∷ os) is = one_unused (may_alone name o) (map (may_alone name) os) (off (used_in s name) (used_in s name) is) ∙ alone_unused os is

    masters_unused : (ports : List (List ℕ)) → used_in s name ≡ false → used_mays s (map (may_master name) ports) ≡ []
    masters_unused [] is = refl
    masters_unused (p ∷ ps) is = one_unused (may_master name p) (map (may_master name) ps) (off (used_in s name) (used_in s p) is) ∙ masters_unused ps is

    entries_unused : (id : ℕ) (es : List VlanEntry) → used_in s name ≡ false → used_mays s (map (may_entry name id) es) ≡ []
    entries_unused id [] is = refl
    entries_unused id (e ∷ es) is = one_unused (may_entry name id e) (map (may_entry name id) es) (off (used_in s name) (used_in s e.port) is) ∙ entries_unused id es is

    both_unused : (xs ys : List May) → used_mays s xs ≡ [] → used_mays s ys ≡ [] → used_mays s (xs ++ ys) ≡ []
    both_unused xs ys p q = used_append xs ys ∙ (λ i. p i ++ q i)

    rows_unused : (ports : List (List ℕ)) (rows : List VlanRow) → used_in s name ≡ false → used_mays s (flat_map (vlan_mays name ports) rows) ≡ []
    rows_unused ports [] is = refl
    rows_unused ports (r ∷ rs) is =
        both_unused (vlan_mays name ports r) (flat_map (vlan_mays name ports) rs)
        (both_unused (map (may_entry name r.id) (filter (is_own_entry ports) r.entries)) (map (may_alone name) (local_vlan name r.id r.local))
        (entries_unused r.id (filter (is_own_entry ports) r.entries) is) (alone_unused (local_vlan name r.id r.local) is))
        (rows_unused ports rs is)

    by_unused : (mac : Option Mac) (standing : Standing) → used_in s name ≡ false → used_mays s (mays_by s name mac standing) ≡ []
    by_unused mac Broken is = refl
    by_unused mac (Alone sound) is = one_unused (may_alone name (object.Up name)) (map (may_alone name) (mac_of name mac)) (off (used_in s name) (used_in s name) is) ∙ alone_unused (mac_of name mac) is
    by_unused mac (Over lower id) is = alone_unused (object.Up name ∷ object.Link name (kind.Vlan lower id mac) ∷ []) is
    by_unused mac (Ports empty ports) is =
        let link = object.Link name (kind.Bridge mac (list_any (is_vlan_of name) s.vlans)) in
        let rest = map (may_master name) ports ++ flat_map (vlan_mays name ports) (filter (is_vlan_of name) s.vlans) in
        both_unused (map (may_alone name) (object.Up name ∷ link ∷ [])) rest (alone_unused (object.Up name ∷ link ∷ []) is)
        (both_unused (map (may_master name) ports) (flat_map (vlan_mays name ports) (filter (is_vlan_of name) s.vlans)) (masters_unused ports is) (rows_unused ports (filter (is_vlan_of name) s.vlans) is))

    -- of a used name what is wanted
    on : (first second third : Bool) → first ≡ true → second ≡ third → (first && second) ≡ third
    on first second third is same = (λ i. is i && same i)

    alone_used : (os : List Object) → used_in s name ≡ true → used_mays s (map (may_alone name) os) ≡ os
    alone_used [] is = refl
    alone_used (o ∷ os) is = one_used (may_alone name o) (map (may_alone name) os) (on (used_in s name) (used_in s name) true is is) ∙ ap (λ (xs : List Object). o ∷ xs) (alone_used os is)

    masters_used : (ports : List (List ℕ)) → used_in s name ≡ true → used_mays s (map (may_master name) ports) ≡ map (λ port. object.Master port name) (filter (used_in s) ports)
    masters_used [] is = refl
    masters_used (p ∷ ps) is = by (masters_used ps is) (used_in s p) refl
      where
        by : used_mays s (map (may_master name) ps) ≡ map (λ port. object.Master port name) (filter (used_in s) ps) → (b : Bool) → used_in s p ≡ b → used_mays s (map (may_master name) (p ∷ ps))
            ≡ map (λ port. object.Master port name) (filter (used_in s) (p ∷ ps))
        by rest true port =
            one_used (may_master name p) (map (may_master name) ps) (on (used_in s name) (used_in s p) true is port)
            ∙ ap (λ (xs : List Object). object.Master p name ∷ xs) rest
            ∙ sym (ap (map (λ q. object.Master q name)) (filter_step (used_in s) p ps true port))
        by rest false port =
            one_unused (may_master name p) (map (may_master name) ps) (on (used_in s name) (used_in s p) false is port)
            ∙ rest
            ∙ sym (ap (map (λ q. object.Master q name)) (filter_step (used_in s) p ps false port))

    entries_used : (ports : List (List ℕ)) (id : ℕ) (es : List VlanEntry) → used_in s name ≡ true
        → used_mays s (map (may_entry name id) (filter (is_own_entry ports) es)) ≡ map (λ entry. object.Vlan name entry.port id entry.pvid entry.untagged) (filter (entry_counts s ports) es)
    entries_used ports id [] is = refl
    entries_used ports id (e ∷ es) is = by (entries_used ports id es is) (is_own_entry ports e) refl (used_in s e.port) refl
      where
        by : used_mays s (map (may_entry name id) (filter (is_own_entry ports) es)) ≡ map (λ entry. object.Vlan name entry.port id entry.pvid entry.untagged) (filter (entry_counts s ports) es)
            → (own : Bool) → is_own_entry ports e ≡ own → (used : Bool) → used_in s e.port ≡ used
            → used_mays s (map (may_entry name id) (filter (is_own_entry ports) (e ∷ es))) ≡ map (λ entry. object.Vlan name entry.port id entry.pvid entry.untagged) (filter (entry_counts s ports) (e ∷ es))
        by rest true own true used =
            ap (λ ms. used_mays s (map (may_entry name id) ms)) (filter_step (is_own_entry ports) e es true own)
            ∙ one_used (may_entry name id e) (map (may_entry name id) (filter (is_own_entry ports) es)) (on (used_in s name) (used_in s e.port) true is used)
            ∙ ap (λ (xs : List Object). object.Vlan name e.port id e.pvid e.untagged ∷ xs) rest
            ∙ sym (ap (map (λ entry. object.Vlan name entry.port id entry.pvid entry.untagged)) (filter_step (entry_counts s ports) e es true (λ i. used i && own i)))
        by rest true own false used =
            ap (λ ms. used_mays s (map (may_entry name id) ms)) (filter_step (is_own_entry ports) e es true own)
            ∙ one_unused (may_entry name id e) (map (may_entry name id) (filter (is_own_entry ports) es)) (on (used_in s name) (used_in s e.port) false is used)
            ∙ rest
            ∙ sym (ap (map (λ entry. object.Vlan name entry.port id entry.pvid entry.untagged)) (filter_step (entry_counts s ports) e es false (λ i. used i && own i)))
        by rest false own true used =
            ap (λ ms. used_mays s (map (may_entry name id) ms)) (filter_step (is_own_entry ports) e es false own)
            ∙ rest
            ∙ sym (ap (map (λ entry. object.Vlan name entry.port id entry.pvid entry.untagged)) (filter_step (entry_counts s ports) e es false (λ i. used i && own i)))
        by rest false own false used =
            ap (λ ms. used_mays s (map (may_entry name id) ms)) (filter_step (is_own_entry ports) e es false own)
            ∙ rest
            ∙ sym (ap (map (λ entry. object.Vlan name entry.port id entry.pvid entry.untagged)) (filter_step (entry_counts s ports) e es false (λ i. used i && own i)))

    row_used : (ports : List (List ℕ)) (r : VlanRow) → used_in s name ≡ true → used_mays s (vlan_mays name ports r) ≡ vlan_objects s name ports r
    row_used ports r is =
        used_append (map (may_entry name r.id) (filter (is_own_entry ports) r.entries)) (map (may_alone name) (local_vlan name r.id r.local))
        ∙ (λ i. entries_used ports r.id r.entries is i ++ alone_used (local_vlan name r.id r.local) is i)

    rows_used : (ports : List (List ℕ)) (rows : List VlanRow) → used_in s name ≡ true → used_mays s (flat_map (vlan_mays name ports) rows) ≡ flat_map (vlan_objects s name ports) rows
    rows_used ports [] is = refl
    rows_used ports (r ∷ rs) is = used_append (vlan_mays name ports r) (flat_map (vlan_mays name ports) rs) ∙ (λ i. row_used ports r is i ++ rows_used ports rs is i)

    by_used : (mac : Option Mac) (standing : Standing) → used_in s name ≡ true → used_mays s (mays_by s name mac standing) ≡ objects_by s name mac standing
    by_used mac Broken is = refl
    by_used mac (Alone sound) is = alone_used (object.Up name ∷ mac_of name mac) is
    by_used mac (Over lower id) is = alone_used (object.Up name ∷ object.Link name (kind.Vlan lower id mac) ∷ []) is
    by_used mac (Ports empty ports) is =
        let link = object.Link name (kind.Bridge mac (list_any (is_vlan_of name) s.vlans)) in
        let vlans = flat_map (vlan_mays name ports) (filter (is_vlan_of name) s.vlans) in
        used_append (map (may_alone name) (object.Up name ∷ link ∷ [])) (map (may_master name) ports ++ vlans)
        ∙ (λ i. alone_used (object.Up name ∷ link ∷ []) is i ++ (used_append (map (may_master name) ports) vlans ∙ (λ j. masters_used ports is j ++ rows_used ports (filter (is_vlan_of name) s.vlans) is j)) i)

    row_wanted : (row : NameRow) → used_in s name ≡ true → used_mays s (mays_of_row s name row) ≡ objects_of_row s name row
    row_wanted row is =
        used_append (map (may_alone name) (mtu_of name row.mtu)) (mays_by s name row.mac (standing_in s name))
        ∙ (λ i. alone_used (mtu_of name row.mtu) is i ++ by_used row.mac (standing_in s name) is i)

    row_unwanted : (row : NameRow) → used_in s name ≡ false → used_mays s (mays_of_row s name row) ≡ []
    row_unwanted row is =
        both_unused (map (may_alone name) (mtu_of name row.mtu)) (mays_by s name row.mac (standing_in s name))
        (alone_unused (mtu_of name row.mtu) is) (by_unused row.mac (standing_in s name) is)

    name_wanted : used_mays s (mays_of s name) ≡ objects_in s name
    name_wanted = by (used_in s name) refl
      where
        by : (b : Bool) → used_in s name ≡ b → used_mays s (mays_of s name) ≡ objects_in s name
        by true is = row_wanted (row_at s.rows name) is ∙ sym (ap (λ t. if t then objects_of_row s name (row_at s.rows name) else []) is)
        by false is = row_unwanted (row_at s.rows name) is ∙ sym (ap (λ t. if t then objects_of_row s name (row_at s.rows name) else []) is)

  names_wanted : (names : List (List ℕ)) → used_mays s (flat_map (mays_of s) names) ≡ flat_map (objects_in s) names
  names_wanted [] = refl
  names_wanted (n ∷ ns) = used_append (mays_of s n) (flat_map (mays_of s) ns) ∙ (λ i. name_wanted n i ++ names_wanted ns i)

  pub wants_used_mays : want_in s ≡ set_of (used_mays s (mays s))
  unfolding want_in
  wants_used_mays = ap set_of (sym (names_wanted (names_in s)))
