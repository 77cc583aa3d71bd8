use Rattle.std.proofs.Common.{arith, ⊎_elim, sym, ◌∙◌}
use Rattle.std.proofs.lemmas.Bool.{cases_eq}
use Rattle.use_counts.proofs.nodes.all_marked.Goals as goal

pub put-requires : goal.put-requires
put-requires c = omega (arith, c.loop-number.invariant.room, c.loop-number-test.true)

pub loop-number-preserved : goal.loop-number-preserved
loop-number-preserved c =
    let number = c.loop-number.number in
    record {
      room = omega (arith, c.loop-number.invariant.room, c.put.ensures.size);
      within = λ n h. ⊎_elim (λ e. omega (arith, e)) (λ ne. omega (arith, c.loop-number.invariant.within n (sym (c.put.ensures.others n ne) ∙ h))) (cases_eq n number);
      marked = λ n h. ⊎_elim (λ e. rw e c.put.ensures.here) (λ ne. c.put.ensures.others n ne ∙ c.loop-number.invariant.marked n (omega (arith, h, ne))) (cases_eq n number);
    }
