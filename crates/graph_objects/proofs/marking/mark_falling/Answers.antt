use Rattle.std.proofs.Common.{arith, ◌≡◌, ◌+◌, ℕ, List, length, sym, subst, ◌∙◌}
use Rattle.graph_objects.proofs.MarkedLemmas.{FallingSoFar, no_falling, more_falling, no_more_falling, all_falling}
use Rattle.graph_objects.proofs.marking.mark_falling.Goals as goal
use Rattle.graph_objects.proofs.marking.mark_falling.Goals.{then-holds_falling, else-holds_falling}

pub loop-index-init : goal.loop-index-init
loop-index-init c = no_falling c.args.slots.now.entries c.args.marks.now c.requires.differing

pub put-requires : goal.put-requires
put-requires c = omega (arith, c.requires.room, c.loop-index.invariant.size, c.len-index-end.ensures.len)

pub loop-index-preserved : goal.loop-index-preserved
loop-index-preserved c =
    let es = c.args.slots.now.entries in
    let before = c.args.marks.now in
    let index = c.loop-index.index in
    elim c.if-holds_falling.branch [
      | then-holds_falling w ↦ subst (λ (marks : List ℕ). FallingSoFar es before marks (index + 1)) (sym w.marks-is)
          (more_falling es before c.loop-index.marks index c.loop-index.invariant c.index.result.now c.index.ensures w.put.new.self w.put.ensures)
      | else-holds_falling w ↦ subst (λ (marks : List ℕ). FallingSoFar es before marks (index + 1)) (sym w.marks-is)
          (no_more_falling es before c.loop-index.marks index c.loop-index.invariant c.index.result.now c.index.ensures (λ o held. sym w.if-holds_falling.false ∙ c.holds_falling.ensures o held))
    ]

pub returns : goal.returns
returns c =
    let all : c.loop-index.index ≡ length c.args.slots.now.entries = omega (arith, c.len-index-end.ensures.len) in
    all_falling c.args.slots.now.entries c.args.marks.now c.loop-index.marks c.loop-index.index c.requires.room all c.loop-index.invariant
