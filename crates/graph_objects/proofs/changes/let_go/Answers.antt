use Rattle.std.proofs.Common.{arith, ◌≡◌, ℕ, List, length, ap, sym, subst, ◌∙◌}
use Rattle.indexmap.specs.IndexMap.{set_value_at}
use Rattle.graph_objects.specs.declared.slot.Slot.{Slot}
use Rattle.graph_objects.specs.Marked.{AreMarked}
use Rattle.graph_objects.specs.Bits.{IsPut}
use Rattle.graph_objects.specs.Changed.{first_slots, let_go}
use Rattle.graph_objects.proofs.EachLemmas.{none_written, as_many, more_written, all_written}
use Rattle.graph_objects.proofs.MarkedLemmas.{marks_of_gone, marks_of_left}
use Rattle.graph_objects.proofs.changes.let_go.Goals as goal
use Rattle.graph_objects.proofs.changes.let_go.Goals.{then-left, else-left}

pub loop-index-init : goal.loop-index-init
loop-index-init c = record { slots = sym (none_written let_go c.args.slots.now.entries); marked = c.requires }

pub index-requires : goal.index-requires
index-requires c =
    let size = ap length c.loop-index.invariant.slots ∙ as_many let_go c.args.slots.now.entries c.loop-index.index in
    omega (arith, c.len-index-end.ensures.len)

pub index_mut-requires : goal.index_mut-requires
index_mut-requires c =
    let size = ap length c.loop-index.invariant.slots ∙ as_many let_go c.args.slots.now.entries c.loop-index.index in
    omega (arith, c.len-index-end.ensures.len)

pub put-requires : goal.put-requires
put-requires c =
    let size = ap length c.loop-index.invariant.slots ∙ as_many let_go c.args.slots.now.entries c.loop-index.index in
    omega (arith, c.len-index-end.ensures.len, c.loop-index.invariant.marked.room)

pub loop-index-preserved : goal.loop-index-preserved
loop-index-preserved c =
    let es = c.loop-index.slots.entries in
    let index = c.loop-index.index in
    let left : Slot = c.without_leaving-left.result in
    record {
      slots = more_written let_go c.args.slots.now.entries es index c.index.result.now left c.loop-index.invariant.slots c.index.ensures c.without_leaving-left.ensures;
      marked = elim c.if-left.branch [
        | then-left w ↦ subst (λ (marks : List ℕ). AreMarked marks (set_value_at es index left)) (sym w.marks-is)
            (marks_of_gone es index c.index.result.now left c.index.ensures c.without_leaving-left.ensures c.loop-index.marks w.put.new.self c.loop-index.invariant.marked
            (subst (λ b. IsPut c.loop-index.marks w.put.new.self index b) w.differs.ensures w.put.ensures) w.if-left.true)
        | else-left w ↦ subst (λ (marks : List ℕ). AreMarked marks (set_value_at es index left)) (sym w.marks-is)
            (marks_of_left es index c.index.result.now left c.index.ensures c.without_leaving-left.ensures c.loop-index.marks c.loop-index.invariant.marked w.if-left.false)
      ];
    }

pub returns-clause-slots : goal.returns-clause-slots
returns-clause-slots c =
    let es = c.args.slots.now.entries in
    let all : c.loop-index.index ≡ length es = omega (arith, c.len-index-end.ensures.len) in
    c.loop-index.invariant.slots ∙ ap (first_slots let_go es) all ∙ all_written let_go es
