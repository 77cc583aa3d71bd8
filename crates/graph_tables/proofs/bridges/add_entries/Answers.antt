use Rattle.std.proofs.Common.{List, ◌++◌, map, filter, sym, ap, ◌∙◌}
use Rattle.graph_objects.specs.declared.slot.Wish.{Wish}
use Rattle.graph_rules.specs.State.{name_list}
use Rattle.graph_wishes.specs.Wishes.{may_entry, is_own_entry}
use Rattle.graph_tables.specs.Wished.{wishes_at}
use Rattle.graph_tables.proofs.MoreLemmas.{one_more, none_more, entries_parts, entry_one, entry_none}
use Rattle.graph_tables.proofs.bridges.add_entries.Goals as goal
use Rattle.graph_tables.proofs.bridges.add_entries.Goals.{then-is_own_entry+in_ok-add_entry, else-is_own_entry}

pub loop-entry-preserved : goal.loop-entry-preserved
loop-entry-preserved c =
    let names = name_list c.args.names.now in
    let bridge = c.args.bridge.now in
    let ports = c.args.ports.now in
    let id = c.args.row.now.id in
    let now : List Wish = c.loop-entry.wishes.items in
    let more = one_more (λ es. wishes_at names (map (may_entry bridge id) (filter (is_own_entry ports) es))) (entries_parts names bridge ports id) c.args.wishes.now.items now in
    elim c.if-is_own_entry.branch [
      | then-is_own_entry+in_ok-add_entry w ↦ more _ c.as_slice-entries.result.now c.loop-entry.entry-index c.entry-item.result c.entry-item.result c.loop-entry-test.true c.entry-item.is c.loop-entry.invariant
          (ap (λ v. v.items) w.wishes-is ∙ w.in_ok-add_entry.ensures ∙ ap (λ (ws : List Wish). now ++ ws) (sym (entry_one names bridge ports id c.entry-item.result (sym c.is_own_entry.ensures ∙ w.if-is_own_entry.true))))
      | else-is_own_entry w ↦ more _ c.as_slice-entries.result.now c.loop-entry.entry-index c.entry-item.result c.entry-item.result c.loop-entry-test.true c.entry-item.is c.loop-entry.invariant
          (ap (λ v. v.items) w.wishes-is ∙ none_more now _ (entry_none names bridge ports id c.entry-item.result (sym c.is_own_entry.ensures ∙ w.if-is_own_entry.false)))
    ]
