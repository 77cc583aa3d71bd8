use Rattle.std.proofs.Common.{arith, ap, ◌∙◌, slice_index_or}
use Rattle.graph_rules.specs.State.{name_list}
use Rattle.graph_counts.proofs.SoundLemmas.{bridge_named}
use Rattle.graph_counts.proofs.EdgeLemmas.{row_inside, row_of_id}
use Rattle.graph_counts.proofs.edges.bridge_of.Goals as goal

pub returns-clause-inside : goal.returns-clause-inside
returns-clause-inside c =
    let m = bridge_named c.args.rows.now c.args.bridge.now c.requires.bridge in
    omega (arith, c.id_of.ensures, row_inside (name_list c.args.names.now) c.args.rows.now c.requires.rows c.args.bridge.now m)

pub returns-clause-row : goal.returns-clause-row
returns-clause-row c =
    let m = bridge_named c.args.rows.now c.args.bridge.now c.requires.bridge in
    λ d. ap (λ k. slice_index_or c.args.rows.now k d) c.id_of.ensures ∙ row_of_id (name_list c.args.names.now) c.args.rows.now c.requires.rows c.args.bridge.now m d
