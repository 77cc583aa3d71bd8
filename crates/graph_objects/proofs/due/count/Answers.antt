use Rattle.std.proofs.Common.{arith, ◌+◌, length, sym, ◌∙◌}
use Rattle.graph_objects.proofs.KeyLemmas.{key_eq, key_same, key_itself}
use Rattle.graph_objects.proofs.DueLemmas.{counted_none, counted_more, counted_few, counted_all, counted_is_due}
use Rattle.graph_objects.proofs.MarkedLemmas.{alone_unmarked, count_skipped}
use Rattle.graph_objects.proofs.due.count.Goals as goal

pub loop-index-init : goal.loop-index-init
loop-index-init c = record { count = counted_none c.args.slots.now.entries; within = omega arith }

pub index-requires : goal.index-requires
index-requires c = omega (arith, c.in-Some.ensures.some.within, c.len-end.ensures.len)

pub overflow_add-count : goal.overflow_add-count
overflow_add-count c =
    let es = c.args.slots.now.entries in
    let index = c.in-Some.index in
    let found = c.in-Some.ensures.some in
    let skipped = count_skipped es c.loop-index.start index found.from (λ k e above below at. alone_unmarked c.args.marks.now es c.requires.marked k e at (found.first k above below)) in
    let more = counted_more es index c.index.result.now c.index.ensures in
    let few = counted_few es (index + 1) in
    omega (arith, skipped, more, few, found.within, c.loop-index.invariant.count, c.alone-count.ensures, c.len-end.ensures.small, c.len-end.ensures.len)

pub loop-index-preserved : goal.loop-index-preserved
loop-index-preserved c =
    let es = c.args.slots.now.entries in
    let index = c.in-Some.index in
    let found = c.in-Some.ensures.some in
    let skipped = count_skipped es c.loop-index.start index found.from (λ k e above below at. alone_unmarked c.args.marks.now es c.requires.marked k e at (found.first k above below)) in
    let more = counted_more es index c.index.result.now c.index.ensures in
    record {
      count = omega (arith, skipped, more, c.loop-index.invariant.count, c.alone-count.ensures);
      within = omega (arith, found.within, c.len-end.ensures.len);
    }

pub loop-index-smaller : goal.loop-index-smaller
loop-index-smaller c = omega (arith, c.in-Some.ensures.some.from, c.in-Some.ensures.some.within, c.len-end.ensures.len)

pub returns-clause-few : goal.returns-clause-few
returns-clause-few c = omega (arith, counted_few c.args.slots.now.entries c.loop-index.start, c.loop-index.invariant.count, c.loop-index.invariant.within)

pub returns-clause-due : goal.returns-clause-due
returns-clause-due c =
    let es = c.args.slots.now.entries in
    let none = c.in_default.ensures.none in
    let skipped = count_skipped es c.loop-index.start (length es) c.loop-index.invariant.within (λ k e above below at. alone_unmarked c.args.marks.now es c.requires.marked k e at (none k above (omega (arith, below, c.len-end.ensures.len))))
    in
    c.loop-index.invariant.count ∙ sym skipped ∙ counted_all es ∙ counted_is_due key_eq key_same key_itself es c.requires.slots c.len-end.ensures.unique
