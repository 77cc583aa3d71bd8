use Rattle.std.proofs.Common.{arith, subst, sym, ◌≤◌, ◌+◌}
use Rattle.plane_outside.specs.Given.{nth_or_last}
use Rattle.plane_outside.proofs.GivenLemmas.{rises}
use Rattle.plane_outside.proofs.set_clock.SetClock.new.Goals as goal

pub invariant_of-result : goal.invariant_of-result
invariant_of-result c = (omega arith, λ k. subst (λ xs. nth_or_last xs k ≤ nth_or_last xs (k + 1)) (sym c.new.ensures) (rises c.args.moments.items c.requires k))
