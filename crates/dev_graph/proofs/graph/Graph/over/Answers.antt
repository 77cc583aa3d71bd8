use Rattle.std.proofs.Common.{arith, ◌≡◌, length, ap}
use Rattle.use_counts.specs.Uses.{Marking}
use Rattle.graph_rules.specs.State.{Known}
use Rattle.dev_graph.proofs.GraphLemmas.{whole_parts, ready_parts, whole_some}
use Rattle.dev_graph.proofs.graph.Graph.over.Goals as goal

pub table-requires : goal.table-requires
table-requires c = whole_parts c.args.names c.rows.result.now c.vlans.result.now c.names-2.result.now c.radio.result.now c.rows.ensures c.vlans.ensures c.names-2.ensures.names c.radio.ensures c.requires

pub judge-requires : goal.judge-requires
judge-requires c =
    let t : Known = c.args.names in
    let size : length c.resize.new.self.items ≡ length t.names = omega (arith, c.in_ok-resize.ensures.len, c.len.ensures.length, ap length c.names-3.ensures.names) in
    let ready = ready_parts t c.rows.result.now c.vlans.result.now c.names-2.result.now c.radio.result.now c.rows.ensures c.vlans.ensures c.names-2.ensures.names c.radio.ensures c.in_ok-objects.objects (length c.resize.new.self.items)
    c.requires size c.in_ok-objects.ensures.wishes in
    record { sound = ready.whole.names; size = ready.size; wishes = ready.wishes }

pub invariant_of-result : goal.invariant_of-result
invariant_of-result c = record {
  whole = whole_some c.args.names c.requires;
  used = c.judge.ensures.size;
  looked = c.judge.ensures.used;
  room =
      omega (arith, c.in_ok-resize.ensures.len, c.len.ensures.length, ap length c.names-3.ensures.names, c.len-2.ensures, ap (λ (m : Marking). m.room) c.in_ok-uses.ensures);
  none = ap (λ (m : Marking). m.ids) c.in_ok-uses.ensures;
  wishes =
      c.judge.ensures.wishes;
}
