-- The table of the rows of `bridge-vlan` sections, with one row more.
use Rattle.std.proofs.Common.{ℕ, ◌≡◌, Bool, true, false, cond, List, [], ◌∷◌, ◌++◌, Option, Some, None, refl, sym, ap, ◌∙◌}
use Rattle.std.specs.Prelude.{◌||◌, ◌&&◌, ◌==◌, bytes_eq}
use Rattle.std.specs.List.{list_any}
use Rattle.std.specs.BTreeMap.{is_at}
use Rattle.std.specs.BTreeSet.{BTreeSet, contains}
use Rattle.net_rows.specs.declared.rows.VlanEntry.{VlanEntry}
use Rattle.net_rows.specs.declared.rows.VlanRow.{VlanRow}
use Rattle.net_devices.specs.declared.vlan_table.VlanTable.{VlanTable}
use Rattle.net_devices.specs.Kinds.{is_name}
use Rattle.net_devices.specs.BridgeVlans.{counted_bridge, is_vlan, gives_pvid, row_gives_pvid}
use Rattle.net_devices.specs.VlanTable.{vlan_cmp, port_cmp, HasPvidsToo, IsTable}
use Rattle.net_devices.proofs.KeyLemmas.{vlan_key, port_key, there_or, or_none, any_push}

pub no_pvid : (set : BTreeSet (List ℕ × List ℕ)) (bridge : List ℕ) (entry : VlanEntry) → entry.pvid ≡ false → HasPvidsToo set set bridge (entry ∷ [])
no_pvid set bridge entry none q = sym (rw none (none_of (contains port_cmp set q) (bytes_eq bridge q.0)))
  where
    none_of : (b c : Bool) → (b || (c && (false || false))) ≡ b
    none_of true true = refl
    none_of true false = refl
    none_of false true = refl
    none_of false false = refl

pub one_pvid : (old new : BTreeSet (List ℕ × List ℕ)) (bridge : List ℕ) (entry : VlanEntry) → entry.pvid ≡ true
    → ((q : List ℕ × List ℕ) → contains port_cmp new q ≡ cond (is_at (port_cmp (bridge, entry.port)) q) true (contains port_cmp old q)) → HasPvidsToo old new bridge (entry ∷ [])
one_pvid old new bridge entry some put q =
    put q
    ∙ there_or (is_at (port_cmp (bridge, entry.port)) q) (contains port_cmp old q)
    ∙ ap (λ (z : Bool). contains port_cmp old q || z) (port_key (bridge, entry.port) q ∙ ap (λ (z : Bool). bytes_eq bridge q.0 && z) (sym (rw some (or_none (bytes_eq entry.port q.1)))))

no_more : (set : BTreeSet (List ℕ × List ℕ)) (bridge : List ℕ) → HasPvidsToo set set bridge []
no_more set bridge q = sym (none_of (contains port_cmp set q) (bytes_eq bridge q.0))
  where
    none_of : (b c : Bool) → (b || (c && false)) ≡ b
    none_of true true = refl
    none_of true false = refl
    none_of false true = refl
    none_of false false = refl

pub no_pvids : (set : BTreeSet (List ℕ × List ℕ)) (bridge : List ℕ) (entries : List VlanEntry) → entries ≡ [] → HasPvidsToo set set bridge entries
no_pvids set bridge entries none = rw none (no_more set bridge)

-- those of some entries, and then those of one more
pub more_pvids : (old middle new : BTreeSet (List ℕ × List ℕ)) (bridge : List ℕ) (entries more : List VlanEntry) (entry : VlanEntry) → HasPvidsToo old middle bridge entries → HasPvidsToo middle new bridge (entry ∷ [])
    → ((q : List ℕ × List ℕ) → list_any (gives_pvid q.1) more ≡ (list_any (gives_pvid q.1) entries || gives_pvid q.1 entry)) → HasPvidsToo old new bridge more
more_pvids old middle new bridge entries more entry before then one q =
    then q
    ∙ ap (λ (z : Bool). z || (bytes_eq bridge q.0 && (gives_pvid q.1 entry || false))) (before q)
    ∙ joined (contains port_cmp old q) (bytes_eq bridge q.0) (list_any (gives_pvid q.1) entries) (gives_pvid q.1 entry)
    ∙ ap (λ (z : Bool). contains port_cmp old q || (bytes_eq bridge q.0 && z)) (sym (one q))
  where
    joined : (a b c d : Bool) → ((a || (b && c)) || (b && (d || false))) ≡ (a || (b && (c || d)))
    joined true true c d = refl
    joined true false c d = refl
    joined false true true d = refl
    joined false true false true = refl
    joined false true false false = refl
    joined false false c d = refl

-- a row that does not count
pub table_same : (table : VlanTable) (rows : List VlanRow) (row : VlanRow) → IsTable table → rows ≡ table.rows ++ row ∷ [] → counted_bridge row ≡ None → IsTable (record table { rows = rows })
table_same table rows row is more none = record {
  vlans = λ vlan. is.vlans vlan ∙ sym (ap (list_any (is_vlan vlan.0 vlan.1)) more ∙ any_push (is_vlan vlan.0 vlan.1) table.rows row
      ∙ ap (λ (z : Option (List ℕ)). list_any (is_vlan vlan.0 vlan.1) table.rows || (is_name vlan.0 z && (row.id == vlan.1))) none ∙ or_none (list_any (is_vlan vlan.0 vlan.1) table.rows));
  pvids = λ port. is.pvids port ∙ sym (ap (list_any (row_gives_pvid port.0 port.1)) more ∙ any_push (row_gives_pvid port.0 port.1) table.rows row
      ∙ ap (λ (z : Option (List ℕ)). list_any (row_gives_pvid port.0 port.1) table.rows || (is_name port.0 z && list_any (gives_pvid port.1) row.entries)) none ∙ or_none (list_any (row_gives_pvid port.0 port.1) table.rows));
}

-- a row that counts, of this bridge
pub table_with : (table : VlanTable) (rows : List VlanRow) (row : VlanRow) (bridge : List ℕ) (vlans : BTreeSet (List ℕ × ℕ)) (pvids : BTreeSet (List ℕ × List ℕ)) → IsTable table → rows ≡ table.rows ++ row ∷ [] → counted_bridge row
    ≡ Some bridge → ((q : List ℕ × ℕ) → contains vlan_cmp vlans q ≡ cond (is_at (vlan_cmp (bridge, row.id)) q) true (contains vlan_cmp table.vlans q)) → HasPvidsToo table.pvids pvids bridge row.entries
    → IsTable (record { rows = rows; vlans = vlans; pvids = pvids })
table_with table rows row bridge vlans pvids is more some put too = record {
  vlans = λ vlan. put vlan ∙ there_or (is_at (vlan_cmp (bridge, row.id)) vlan) (contains vlan_cmp table.vlans vlan) ∙ ap (λ (z : Bool). contains vlan_cmp table.vlans vlan || z) (vlan_key (bridge, row.id) vlan)
      ∙ ap (λ (z : Bool). z || (bytes_eq bridge vlan.0 && (row.id == vlan.1))) (is.vlans vlan)
      ∙ sym (ap (list_any (is_vlan vlan.0 vlan.1)) more ∙ any_push (is_vlan vlan.0 vlan.1) table.rows row ∙ ap (λ (z : Option (List ℕ)). list_any (is_vlan vlan.0 vlan.1) table.rows || (is_name vlan.0 z && (row.id == vlan.1))) some);
  pvids = λ port. too port ∙ ap (λ (z : Bool). z || (bytes_eq bridge port.0 && list_any (gives_pvid port.1) row.entries)) (is.pvids port)
      ∙ sym (ap (list_any (row_gives_pvid port.0 port.1)) more ∙ any_push (row_gives_pvid port.0 port.1) table.rows row
      ∙ ap (λ (z : Option (List ℕ)). list_any (row_gives_pvid port.0 port.1) table.rows || (is_name port.0 z && list_any (gives_pvid port.1) row.entries)) some);
}
