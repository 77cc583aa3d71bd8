use Rattle.std.proofs.Common.{arith, ◌<◌, ◌≤◌, List, [], ◌++◌, length, get_or, refl, sym, ap, ◌∙◌}
use Rattle.std.specs.List.{flat_map}
use Rattle.std.proofs.lemmas.List.{append-nil, take_all, length-map}
use Rattle.graph_objects.specs.declared.slot.Wish.{Wish}
use Rattle.graph_rules.specs.State.{Named, Known, name_list}
use Rattle.graph_wishes.specs.Wishes.{mays_of}
use Rattle.graph_tables.specs.Wished.{known, wishes_at}
use Rattle.graph_tables.proofs.MoreLemmas.{one_more, names_parts}
use Rattle.graph_tables.proofs.wishes.wishes_of.Goals as goal

pub loop-id-preserved : goal.loop-id-preserved
loop-id-preserved c =
    let names = name_list c.args.names.now in
    let s : Known = known c.args.rows.now c.args.vlans.now c.args.names.now c.args.radio.now in
    let id = c.loop-id.id in
    let now : List Wish = c.loop-id.wishes.items in
    let within : id < length names = omega (arith, c.loop-id-test.true, c.len-id-end.ensures.length, length-map c.args.names.now (λ (n : Named). n.name)) in
    one_more (λ ns. wishes_at names (flat_map (mays_of s) ns)) (names_parts names s) [] now _ names id (get_or names id []) [] within refl c.loop-id.invariant
    (c.in_ok-add_name.ensures ∙ ap (λ ms. now ++ wishes_at names ms) (sym (append-nil (mays_of s (get_or names id [])))))

pub returns : goal.returns
returns c =
    let names = name_list c.args.names.now in
    let s : Known = known c.args.rows.now c.args.vlans.now c.args.names.now c.args.radio.now in
    let all : length names ≤ c.loop-id.id = omega (arith, c.loop-id-test.false, c.len-id-end.ensures.length, length-map c.args.names.now (λ (n : Named). n.name)) in
    c.loop-id.invariant ∙ ap (λ ns. wishes_at names (flat_map (mays_of s) ns)) (take_all c.loop-id.id names all)
