use Rattle.std.proofs.Common.{ℕ, ◌≡◌, ◌+◌, ◌++◌, List, take, drop, Bool, ap, ◌∙◌}
use Rattle.net_rows.specs.declared.rows.NameKind.{NameKind}
use Rattle.net_rows.specs.declared.rows.NameRow.{NameRow}
use Rattle.net_devices.specs.declared.said.Said.{Said}
use Rattle.net_devices.specs.Kinds.{kind_of}
use Rattle.net_devices.specs.NameRows.{vlan_of, is_vlan_of_some, has_same_vlan, row_of, name_row, name_rows, rows_behind}
use Rattle.net_devices.proofs.KeyLemmas.{take_more}
use Rattle.net_devices.proofs.VlanLemmas.{found_same, vlans_more, rows_more}
use Rattle.net_devices.proofs.name_rows.rows_of_names.Goals as goal

pub loop-name-preserved : goal.loop-name-preserved
loop-name-preserved c =
    let said : List Said = c.args.said.now in
    let names : List (List ℕ) = c.args.names.now in
    let i : ℕ = c.loop-name.name-index in
    let name : List ℕ = c.name-item.result in
    let kind_is : c.in_ok-kind.kind ≡ kind_of said name = c.in_ok-kind.ensures in
    let same : c.in_ok-is_same.is_same ≡ has_same_vlan said (take i names) (kind_of said name) = c.in_ok-is_same.ensures.same
    ∙ (found_same said c.loop-name.vlans (take i names) (vlan_of c.in_ok-kind.kind) c.loop-name.invariant.vlans ∙ ap (λ (z : NameKind). is_vlan_of_some said (take i names) (vlan_of z)) kind_is) in
    let row : c.in_ok-name_row.field-0 ≡ name_row said (take i names) name = c.in_ok-name_row.ensures ∙ ap (λ (z : Bool). row_of said z name) same in
    record {
      levels = c.in_ok-level.ensures.kept;
      vlans = vlans_more said c.loop-name.vlans c.note_vlan.new.vlans (take i names) (take (i + 1) names) name (vlan_of c.in_ok-kind.kind) (ap vlan_of kind_is) (take_more names i name c.loop-name-test.true c.name-item.is)
          c.loop-name.invariant.vlans c.in_ok-is_same.ensures.noted;
      rows = ap (λ (z : List NameRow). z ++ rows_behind said (take (i + 1) names) (drop (i + 1) names)) c.in_ok-push.ensures.ok
          ∙ rows_more said c.loop-name.rows (name_rows said names) names i name c.in_ok-name_row.field-0 c.loop-name-test.true c.name-item.is row c.loop-name.invariant.rows;
    }
