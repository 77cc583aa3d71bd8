use Rattle.std.proofs.Common.{arith, ap, sym, length, map, ◌<◌, ◌≡◌, ◌∙◌}
use Rattle.std.proofs.lemmas.List.{length-map, ext_get_or}
use Rattle.use_counts.specs.declared.node.Kind.TheVariants.{Broken}
use Rattle.use_counts.specs.Held.{member_of}
use Rattle.use_counts.specs.Network.{row_of}
use Rattle.use_counts.proofs.NetworkLemmas.{at_points}
use Rattle.use_counts.proofs.PortsLemmas.{row_member}
use Rattle.use_counts.proofs.nodes.Nodes.rows.Goals as goal

pub returns : goal.returns
returns c =
    let nodes = c.args.self.now in
    let rows = c.loop-place.rows.items in
    let size : length rows ≡ length nodes = omega (arith, c.loop-place.invariant.size, c.loop-place-test.false, c.loop-place.auto.place-end, c.len-place-end.ensures) in
    ext_get_or (record { kind = Broken; level = 0 }) rows (map row_of (map member_of nodes)) (size ∙ sym (length-map nodes member_of) ∙ sym (length-map (map member_of nodes) row_of))
    (λ k h.
    let within : k < length nodes = omega (arith, h, size) in
    c.loop-place.invariant.rows k (omega (arith, h, c.loop-place.invariant.size)) ∙ sym (row_member (map member_of nodes) k ∙ ap row_of (at_points nodes k within)))
