use Rattle.std.proofs.Common.{◌≡◌, ◌++◌, map}
use Rattle.std.specs.Ordering.{nat_cmp}
use Rattle.plane_words.specs.InOrder.{ordered}
use Rattle.net_rules.specs.declared.event.Notice.TheVariants as notice
use Rattle.net_rules.specs.Notices.{numbers_of}
use Rattle.net_after.proofs.NoticeLemmas.{lost_of}
use Rattle.net_after.proofs.notices.notices_between.Given as goal

-- the notices so far, and those of the numbers that are left
abbrev pub invariant-loop-number : goal.invariant-loop-number
invariant-loop-number l = l.notices ++ map notice.Dropped l.number-iterator ≡ map notice.Dropped (ordered nat_cmp (lost_of (numbers_of l.now) l.numbers))
