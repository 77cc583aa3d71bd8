use Rattle.std.proofs.Common.{◌≡◌, ℕ, List, ◌++◌, map, ap, sym, ◌∙◌, append-nil}
use Rattle.std.specs.Ordering.{nat_cmp}
use Rattle.plane_words.specs.InOrder.{ordered}
use Rattle.net_rules.specs.declared.event.Notice.TheVariants as notice
use Rattle.net_rules.specs.Notices.{numbers_of}
use Rattle.net_after.proofs.NoticeLemmas.{lost_of, told}
use Rattle.net_after.proofs.notices.notices_between.Goals as goal

pub loop-number-init : goal.loop-number-init
loop-number-init c = λ i. c.new-notices.ensures i ++ map notice.Dropped ((c.into_iter-number-iterator.ensures.into_iter_gives.0 ∙ c.in_ok-lost.ensures) i)

pub returns : goal.returns
returns c before numbers next =
    let dropped : c.loop-number.notices ≡ map notice.Dropped (ordered nat_cmp (lost_of (numbers_of c.args.now.now) c.args.numbers.now)) =
    sym (append-nil c.loop-number.notices) ∙ ap (λ (rest : List ℕ). c.loop-number.notices ++ map notice.Dropped rest) (sym c.in-None.ensures.steps.0) ∙ c.loop-number.invariant in
    told before c.args.now.now c.args.numbers.now c.args.next _ _ c.loop-number.notices c.add_interfaces.new.notices c.add_radios.new.notices numbers next c.as_slice.ensures c.as_slice-2.ensures dropped c.in_ok-add_interfaces.ensures
    c.in_ok-add_radios.ensures
