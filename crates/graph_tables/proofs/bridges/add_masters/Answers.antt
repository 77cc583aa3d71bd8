use Rattle.std.proofs.Common.{List, [], ◌∷◌, ◌++◌, map, ap, ◌∙◌}
use Rattle.graph_objects.specs.declared.slot.Wish.{Wish}
use Rattle.graph_rules.specs.State.{name_list}
use Rattle.graph_wishes.specs.Wishes.{may_master}
use Rattle.graph_tables.specs.Wished.{wishes_at}
use Rattle.graph_tables.proofs.MoreLemmas.{one_more, masters_parts}
use Rattle.graph_tables.proofs.bridges.add_masters.Goals as goal

pub loop-port-preserved : goal.loop-port-preserved
loop-port-preserved c =
    let names = name_list c.args.names.now in
    let now : List Wish = c.loop-port.wishes.items in
    one_more (λ ps. wishes_at names (map (may_master c.args.bridge.now) ps)) (masters_parts names c.args.bridge.now) c.args.wishes.now.items now _ c.args.ports.now c.loop-port.port-index c.port-item.result c.port-item.result
    c.loop-port-test.true c.port-item.is c.loop-port.invariant
    (c.in_ok-add.ensures ∙ ap (λ (w : Wish). now ++ w ∷ []) c.wish.ensures)
